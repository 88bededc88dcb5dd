use Rattle.std.proofs.Common.{◌≡◌, map, drop}
use Rattle.campl_tree.specs.View.{view_function, view_function_row, view_decl}
use Rattle.campl_seqcheck.specs.Functions.{function_matches}
use Rattle.campl_seqcheck.specs.RowPatterns.{judge_each_row}
use Rattle.campl_seqcheck.proofs.functions.check_function_rows.Given as goal

abbrev pub invariant-loop-i : goal.invariant-loop-i
invariant-loop-i l =
    judge_each_row (map view_decl l.world) (view_function l.f).parameters (function_matches (map view_decl l.world) (view_function l.f) (map view_function_row (drop l.i l.rows)))
    ≡ judge_each_row (map view_decl l.world) (view_function l.f).parameters (function_matches (map view_decl l.world) (view_function l.f) (map view_function_row l.rows))
