use Rattle.std.proofs.Common.{◌≡◌, drop, map}
use Rattle.campl_tree.specs.View.{hcase_rows, view_hcase_row, case_rows, view_case_row, parts, view_part}
use Rattle.campl_free.specs.Racing.{row_races, case_races, part_races}
use Rattle.campl_free.proofs.racing.+race.Given as goal

abbrev pub invariant-hcase_races-loop-row : goal.invariant-hcase_races-loop-row
invariant-hcase_races-loop-row l = row_races (hcase_rows (map view_hcase_row (drop l.row-index l.rows))) ≡ row_races (hcase_rows (map view_hcase_row l.rows))

abbrev pub invariant-case_races-loop-row : goal.invariant-case_races-loop-row
invariant-case_races-loop-row l = case_races (case_rows (map view_case_row (drop l.row-index l.rows))) ≡ case_races (case_rows (map view_case_row l.rows))

abbrev pub invariant-plug_races-loop-part : goal.invariant-plug_races-loop-part
invariant-plug_races-loop-part l = part_races (parts (map view_part (drop l.part-index l.all))) ≡ part_races (parts (map view_part l.all))
