use Rattle.std.proofs.Common.{◌≡◌, drop}
use Rattle.campl_types.specs.Names.{is_among}
use Rattle.campl_types.specs.World.{names_of}
use Rattle.campl_gen_channels.proofs.order.is_named.Given as goal

abbrev pub invariant-loop-i : goal.invariant-loop-i
invariant-loop-i l = is_among l.name (names_of (drop l.i l.names)) ≡ is_among l.name (names_of l.names)
