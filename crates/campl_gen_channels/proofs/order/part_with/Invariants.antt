use Rattle.std.proofs.Common.{◌≡◌, map, drop}
use Rattle.campl_tree.specs.View.{view_part, parts}
use Rattle.campl_peel.specs.Numbered.{number_of}
use Rattle.campl_gen_channels.specs.Orders.{names_on}
use Rattle.campl_gen_channels.proofs.Orders.{further}
use Rattle.campl_gen_channels.proofs.order.part_with.Given as goal

abbrev pub invariant-loop-i : goal.invariant-loop-i
invariant-loop-i l = further l.i (number_of (names_on l.side) l.name (parts (map view_part (drop l.i l.parts)))) ≡ number_of (names_on l.side) l.name (parts (map view_part l.parts))
