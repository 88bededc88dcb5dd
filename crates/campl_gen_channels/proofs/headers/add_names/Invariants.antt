use Rattle.std.proofs.Common.{◌≡◌, drop}
use Rattle.campl_types.specs.World.{names_of}
use Rattle.campl_names.specs.Scope.{with_names}
use Rattle.campl_gen_channels.proofs.headers.add_names.Given as goal

abbrev pub invariant-loop-x : goal.invariant-loop-x
invariant-loop-x l = with_names l.set (names_of (drop l.x-index l.names)) ≡ with_names l.initial.set (names_of l.names)
