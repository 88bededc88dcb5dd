use Rattle.std.proofs.Common.{◌≡◌, map, take}
use Rattle.campl_tree.specs.View.{view_link, view_part, parts}
use Rattle.campl_peel.specs.Numbered.{joined_parts}
use Rattle.campl_gen_channels.proofs.order.join_parts.Given as goal

abbrev pub invariant-loop-i : goal.invariant-loop-i
invariant-loop-i l = l.joins.items ≡ joined_parts (map view_link (take l.i l.links)) (parts (map view_part l.parts))
