use Rattle.std.proofs.Common.{◌≡◌, map, drop}
use Rattle.campl_tree.specs.View.{view_seq, view_decl}
use Rattle.campl_seqcheck.specs.RowPatterns.{bare_row, judge_each_row}
use Rattle.campl_seqcheck.proofs.rows.fit_rows.Given as goal

abbrev pub invariant-loop-i : goal.invariant-loop-i
invariant-loop-i g l =
    judge_each_row (map view_decl l.world) (map view_seq l.types) (map (λ r. bare_row l.at (g.R.Row.patterns r)) (drop l.i l.rows))
    ≡ judge_each_row (map view_decl l.world) (map view_seq l.types) (map (λ r. bare_row l.at (g.R.Row.patterns r)) l.rows)
