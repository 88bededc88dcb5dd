use Rattle.std.proofs.Common.{◌≡◌, map, drop}
use Rattle.campl_tree.specs.View.{parts}
use Rattle.campl_peel.specs.Plugging.{stands_among}
use Rattle.campl_gen_channels.specs.Orders.{view_part_at}
use Rattle.campl_gen_channels.proofs.headers.stands_among.Given as goal

abbrev pub invariant-loop-i : goal.invariant-loop-i
invariant-loop-i l = stands_among (parts (map view_part_at (drop l.i l.parts))) l.name ≡ stands_among (parts (map view_part_at l.parts)) l.name
