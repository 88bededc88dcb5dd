use Rattle.std.proofs.Common.{refl, map, arith}
use Rattle.campl_tree.specs.View.{view_decl, view_hcase_row, hcase_rows, view_case_row, case_rows}
use Rattle.campl_types.specs.Known.{in_hcase_rows, in_case_rows}
use Rattle.campl_names.proofs.Judged.{loop-stopped}
use Rattle.campl_names.proofs.Plugs.{plug-stopped}
use Rattle.campl_names.proofs.judge_bodies.+body.Goals as goal

pub judge_hcase_rows-returns-in_err-judge_hcase_row-clause-judged : goal.judge_hcase_rows-returns-in_err-judge_hcase_row-clause-judged
judge_hcase_rows-returns-in_err-judge_hcase_row-clause-judged t c =
    loop-stopped (λ q. in_hcase_rows (map view_decl c.args.world.now) c.loop-row.scope (hcase_rows (map view_hcase_row q))) c.args.rows.now c.loop-row.row-index c.row-item.result _ _ _ _ _ c.in_err-judge_hcase_row.ensures.judged c.from_residual.ensures (omega (arith, c.loop-row-test.true)) c.row-item.is c.loop-row.invariant.0 refl

pub judge_case_rows-returns-in_err-judge_case_row-clause-judged : goal.judge_case_rows-returns-in_err-judge_case_row-clause-judged
judge_case_rows-returns-in_err-judge_case_row-clause-judged t c =
    loop-stopped (λ q. in_case_rows (map view_decl c.args.world.now) c.loop-row.scope (case_rows (map view_case_row q))) c.args.rows.now c.loop-row.row-index c.row-item.result _ _ _ _ _ c.in_err-judge_case_row.ensures.judged c.from_residual.ensures (omega (arith, c.loop-row-test.true)) c.row-item.is c.loop-row.invariant.0 refl

pub judge_last-returns-in_err-judge_links-in-Plug-clause-judged : goal.judge_last-returns-in_err-judge_links-in-Plug-clause-judged
judge_last-returns-in_err-judge_links-in-Plug-clause-judged t c =
    plug-stopped _ c.args.scope.now c.args.last.now _ _ _ _ _ _ c.in-Plug.is c.as_slice-in-Plug.ensures c.in_err-judge_links-in-Plug.ensures c.from_residual-in_err-judge_links-in-Plug.ensures
