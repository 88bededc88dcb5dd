use Rattle.std.proofs.Common.{◌≡◌, ◌++◌, map, drop}
use Rattle.campl_tree.specs.View.{view_hcase_row, view_decl}
use Rattle.campl_gen_bodies.specs.Commands.{row_numbers}
use Rattle.campl_gen_bodies.proofs.offers.row_numbers.Given as goal

abbrev pub invariant-loop-i : goal.invariant-loop-i
invariant-loop-i l = l.numbers ++ row_numbers (map view_decl l.known) (map view_hcase_row (drop l.i l.rows)) ≡ row_numbers (map view_decl l.known) (map view_hcase_row l.rows)
