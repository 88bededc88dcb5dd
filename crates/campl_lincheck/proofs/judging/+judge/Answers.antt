-- What the search leaves open.
use Rattle.std.proofs.Common.{◌∙◌, sym, ap, map, arith}
use Rattle.campl_tree.specs.View.{view_hcase_row, view_branch, view_case_row, view_part, view_last, view_decl}
use Rattle.campl_tree.proofs.Views.{view_hcase_row-out, view_branch-out, view_case_row-out, view_part-out}
use Rattle.campl_vars.specs.Variables.{view_vars}
use Rattle.campl_seqcheck.specs.Judged.{fine}
use Rattle.campl_held.specs.Slots.{view_held}
use Rattle.campl_held.proofs.Told.{stopped, follows}
use Rattle.campl_held.proofs.Turns.{loop-went, loop-stopped}
use Rattle.campl_lincheck.specs.Steps.{judged}
use Rattle.campl_lincheck.proofs.Turns.{judged-body, judged-Hcase, judged-Case, row-at, row-end, branch-at, branch-end, case-at, case-end, part-at, part-end}
use Rattle.campl_lincheck.proofs.Weights.{weight, within}
use Rattle.campl_lincheck.proofs.Falls.{weight-body, weight-Hcase, weight-Plug, weight-Race, weight-Case, rows-fall, bodies-fall}
use Rattle.campl_lincheck.proofs.judging.+judge.Goals as goal

pub judge-judge_last-requires : goal.judge-judge_last-requires
judge-judge_last-requires t c =
    (let h = weight-body c.args.body.now in omega (arith, h, c.decreases), c.requires)

pub judge-returns-in-Err-clause-judged : goal.judge-returns-in-Err-clause-judged
judge-returns-in-Err-clause-judged t c =
    rw (judged-body (map view_decl c.args.world.now) (view_vars c.args.vars.now) (view_held c.args.held) c.args.body.now) (stopped _ _ _ (rw c.as_slice.ensures at c.in-Err.ensures.acted))

pub judge-returns-in-Err-judge_last-clause-judged : goal.judge-returns-in-Err-judge_last-clause-judged
judge-returns-in-Err-judge_last-clause-judged t c =
    rw (judged-body (map view_decl c.args.world.now) (view_vars c.args.vars.now) (view_held c.args.held) c.args.body.now, rw c.as_slice.ensures at c.in-Ok.ensures.acted) c.in-Err-judge_last.ensures.judged

pub judge-returns-clause-judged : goal.judge-returns-clause-judged
judge-returns-clause-judged t c =
    rw (judged-body (map view_decl c.args.world.now) (view_vars c.args.vars.now) (view_held c.args.held) c.args.body.now, rw c.as_slice.ensures at c.in-Ok.ensures.acted) c.in-Ok-judge_last.ensures.judged

pub judge_last-judge_hcase-requires : goal.judge_last-judge_hcase-requires
judge_last-judge_hcase-requires t c =
    (rows-fall view_hcase_row _ _ _ _ t c.in-Hcase.is (weight-Hcase _ _ _) c.as_slice.ensures c.decreases, c.requires)

pub judge_last-judge_fork-requires : goal.judge_last-judge_fork-requires
judge_last-judge_fork-requires t c =
    (bodies-fall _ _ _ _ _ _ _ t c.in-Fork.is c.get.ensures c.get-in-Fork.ensures c.decreases, c.requires)

pub judge_last-judge_plug-requires : goal.judge_last-judge_plug-requires
judge_last-judge_plug-requires t c =
    (rows-fall view_part _ _ _ _ t c.in-Plug.is (weight-Plug _ _ _) c.as_slice-in-Plug.ensures c.decreases, c.requires)

pub judge_last-judge_race-requires : goal.judge_last-judge_race-requires
judge_last-judge_race-requires t c =
    (rows-fall view_branch _ _ _ _ t c.in-Race.is (weight-Race _ _) c.as_slice-in-Race.ensures c.decreases, c.requires)

pub judge_last-judge_case-requires : goal.judge_last-judge_case-requires
judge_last-judge_case-requires t c =
    (rows-fall view_case_row _ _ _ _ t c.in-Case.is (weight-Case _ _ _) c.as_slice-in-Case.ensures c.decreases, c.requires)

pub judge_fork-judge-requires : goal.judge_fork-judge-requires
judge_fork-judge-requires t c =
    (let h = ap (λ p. weight p.1) (view_branch-out c.args.left.now) in omega (arith, h, c.decreases), c.requires)

pub judge_fork-judge-requires-2 : goal.judge_fork-judge-requires-2
judge_fork-judge-requires-2 t c =
    (let h = ap (λ p. weight p.1) (view_branch-out c.args.right.now) in omega (arith, h, c.decreases), c.requires)

pub judge_fork-returns-in-Err-clause-judged : goal.judge_fork-returns-in-Err-clause-judged
judge_fork-returns-in-Err-clause-judged t c =
    rw (view_branch-out c.args.left.now, view_branch-out c.args.right.now) (stopped _ _ _ c.in-Err.ensures)

pub judge_fork-returns-in-Err-judge-clause-judged : goal.judge_fork-returns-in-Err-judge-clause-judged
judge_fork-returns-in-Err-judge-clause-judged t c =
    rw (view_branch-out c.args.left.now, view_branch-out c.args.right.now, c.in-Ok.ensures) (stopped _ _ _ c.in-Err-judge.ensures.judged)

pub judge_fork-returns-clause-judged : goal.judge_fork-returns-clause-judged
judge_fork-returns-clause-judged t c =
    rw (view_branch-out c.args.left.now, view_branch-out c.args.right.now, c.in-Ok.ensures, c.in-Ok-judge.ensures.judged) (rw c.in-Ok-judge.ensures.kept at c.judge-2.ensures.judged)

pub rows::judge_rows-judge_row-requires : goal.rows::judge_rows-judge_row-requires
rows::judge_rows-judge_row-requires t c =
    (let h = within view_hcase_row c.args.rows.now c.loop-i.i c.index-rows-i.result c.loop-i-test.true c.index-rows-i.is in omega (arith, h, c.decreases), c.requires)

pub rows::judge_rows-loop-i-preserved : goal.rows::judge_rows-loop-i-preserved
rows::judge_rows-loop-i-preserved t c =
    record { told = loop-went _ _ _ _ _ (rw c.loop-i.invariant.kept at c.in-Ok.ensures.judged) (row-at (map view_decl c.args.world.now) (view_vars c.args.vars.now) (view_held c.args.held.now) _ _ c.args.rows.now c.loop-i.i c.index-rows-i.result c.loop-i-test.true c.index-rows-i.is) c.loop-i.invariant.told; kept = c.in-Ok.ensures.kept ∙ c.loop-i.invariant.kept }

pub rows::judge_rows-returns-in-Err-clause-judged : goal.rows::judge_rows-returns-in-Err-clause-judged
rows::judge_rows-returns-in-Err-clause-judged t c =
    loop-stopped _ _ _ _ _ (rw c.loop-i.invariant.kept at c.in-Err.ensures.judged) (row-at (map view_decl c.args.world.now) (view_vars c.args.vars.now) (view_held c.args.held.now) _ _ c.args.rows.now c.loop-i.i c.index-rows-i.result c.loop-i-test.true c.index-rows-i.is) c.loop-i.invariant.told

pub rows::judge_rows-returns-clause-judged : goal.rows::judge_rows-returns-clause-judged
rows::judge_rows-returns-clause-judged t c =
    sym c.loop-i.invariant.told ∙ row-end _ _ _ _ _ c.args.rows.now c.loop-i.i c.loop-i-test.false

pub rows::judge_branches-judge_copy-requires : goal.rows::judge_branches-judge_copy-requires
rows::judge_branches-judge_copy-requires t c =
    (let h = within view_branch c.args.rows.now c.loop-i.i c.index-rows-i.result c.loop-i-test.true c.index-rows-i.is in let k = ap (λ p. weight p.1) (view_branch-out c.index-rows-i.result) in omega (arith, h, k, c.decreases), c.requires)

pub rows::judge_branches-loop-i-preserved : goal.rows::judge_branches-loop-i-preserved
rows::judge_branches-loop-i-preserved t c =
    record { told = loop-went _ _ _ _ _ (rw (← ap (λ p. p.1) (view_branch-out c.index-rows-i.result)) at (rw c.loop-i.invariant.kept at c.in-Ok.ensures.judged)) (branch-at (map view_decl c.args.world.now) (view_vars c.args.vars.now) (view_held c.args.held.now) c.args.rows.now c.loop-i.i c.index-rows-i.result c.loop-i-test.true c.index-rows-i.is) c.loop-i.invariant.told; kept = c.in-Ok.ensures.kept ∙ c.loop-i.invariant.kept }

pub rows::judge_branches-returns-in-Err-clause-judged : goal.rows::judge_branches-returns-in-Err-clause-judged
rows::judge_branches-returns-in-Err-clause-judged t c =
    loop-stopped _ _ _ _ _ (rw (← ap (λ p. p.1) (view_branch-out c.index-rows-i.result)) at (rw c.loop-i.invariant.kept at c.in-Err.ensures.judged)) (branch-at (map view_decl c.args.world.now) (view_vars c.args.vars.now) (view_held c.args.held.now) c.args.rows.now c.loop-i.i c.index-rows-i.result c.loop-i-test.true c.index-rows-i.is) c.loop-i.invariant.told

pub rows::judge_branches-returns-clause-judged : goal.rows::judge_branches-returns-clause-judged
rows::judge_branches-returns-clause-judged t c =
    sym c.loop-i.invariant.told ∙ branch-end _ _ _ c.args.rows.now c.loop-i.i c.loop-i-test.false

pub rows::judge_cases-judge_case_row-requires : goal.rows::judge_cases-judge_case_row-requires
rows::judge_cases-judge_case_row-requires t c =
    (let h = within view_case_row c.args.rows.now c.loop-i.i c.index-rows-i.result c.loop-i-test.true c.index-rows-i.is in omega (arith, h, c.decreases), c.requires)

pub rows::judge_cases-loop-i-preserved : goal.rows::judge_cases-loop-i-preserved
rows::judge_cases-loop-i-preserved t c =
    record { told = loop-went _ _ _ _ _ (rw c.loop-i.invariant.kept at c.in-Ok.ensures.judged) (case-at (map view_decl c.args.world.now) (view_vars c.args.vars.now) (view_held c.args.held.now) _ c.args.rows.now c.loop-i.i c.index-rows-i.result c.loop-i-test.true c.index-rows-i.is) c.loop-i.invariant.told; kept = c.in-Ok.ensures.kept ∙ c.loop-i.invariant.kept }

pub rows::judge_cases-returns-in-Err-clause-judged : goal.rows::judge_cases-returns-in-Err-clause-judged
rows::judge_cases-returns-in-Err-clause-judged t c =
    loop-stopped _ _ _ _ _ (rw c.loop-i.invariant.kept at c.in-Err.ensures.judged) (case-at (map view_decl c.args.world.now) (view_vars c.args.vars.now) (view_held c.args.held.now) _ c.args.rows.now c.loop-i.i c.index-rows-i.result c.loop-i-test.true c.index-rows-i.is) c.loop-i.invariant.told

pub rows::judge_cases-returns-clause-judged : goal.rows::judge_cases-returns-clause-judged
rows::judge_cases-returns-clause-judged t c =
    sym c.loop-i.invariant.told ∙ case-end _ _ _ _ c.args.rows.now c.loop-i.i c.loop-i-test.false

pub parts::judge_parts-judge_part-requires : goal.parts::judge_parts-judge_part-requires
parts::judge_parts-judge_part-requires t c =
    (let h = within view_part c.args.parts.now c.loop-i.i c.index-parts-i.result c.loop-i-test.true c.index-parts-i.is in omega (arith, h, c.decreases), (c.requires.declared, c.requires.links))

pub parts::judge_parts-loop-i-preserved : goal.parts::judge_parts-loop-i-preserved
parts::judge_parts-loop-i-preserved t c =
    record { told = loop-went _ _ _ _ _ (rw c.loop-i.invariant.kept at c.in-Ok.ensures.judged) (part-at (map view_decl c.args.world.now) (view_vars c.args.vars.now) _ (view_held c.args.held.now) c.args.parts.now c.loop-i.i c.index-parts-i.result c.loop-i-test.true c.index-parts-i.is) c.loop-i.invariant.told; kept = c.in-Ok.ensures.kept ∙ c.loop-i.invariant.kept }

pub parts::judge_parts-returns-in-Err-clause-judged : goal.parts::judge_parts-returns-in-Err-clause-judged
parts::judge_parts-returns-in-Err-clause-judged t c =
    loop-stopped _ _ _ _ _ (rw c.loop-i.invariant.kept at c.in-Err.ensures.judged) (part-at (map view_decl c.args.world.now) (view_vars c.args.vars.now) _ (view_held c.args.held.now) c.args.parts.now c.loop-i.i c.index-parts-i.result c.loop-i-test.true c.index-parts-i.is) c.loop-i.invariant.told

pub parts::judge_parts-returns-clause-judged : goal.parts::judge_parts-returns-clause-judged
parts::judge_parts-returns-clause-judged t c =
    sym c.loop-i.invariant.told ∙ part-end _ _ _ _ c.args.parts.now c.loop-i.i c.loop-i-test.false

pub rows::judge_row-judge-requires : goal.rows::judge_row-judge-requires
rows::judge_row-judge-requires t c =
    (let h = ap (λ p. weight p.1) (view_hcase_row-out c.args.row.now) in omega (arith, h, c.decreases), c.requires)

pub rows::judge_row-returns-in-Err-clause-judged : goal.rows::judge_row-returns-in-Err-clause-judged
rows::judge_row-returns-in-Err-clause-judged t c =
    stopped _ _ _ (rw (← ap (λ p. p.0) (view_hcase_row-out c.args.row.now)) at c.in-Err.ensures)

pub rows::judge_row-returns-clause-judged : goal.rows::judge_row-returns-clause-judged
rows::judge_row-returns-clause-judged t c =
    rw (view_hcase_row-out c.args.row.now, c.in-Ok.ensures) c.judge.ensures.judged

pub rows::judge_case_row-judge_under-requires : goal.rows::judge_case_row-judge_under-requires
rows::judge_case_row-judge_under-requires t c =
    (let h = ap (λ p. weight p.1) (view_case_row-out c.args.row.now) in omega (arith, h, c.decreases), c.requires)

pub rows::judge_case_row-returns-in-Err-clause-judged : goal.rows::judge_case_row-returns-in-Err-clause-judged
rows::judge_case_row-returns-in-Err-clause-judged t c =
    stopped _ _ _ (rw (← ap (λ p. p.0) (view_case_row-out c.args.row.now)) at c.in-Err.ensures)

pub rows::judge_case_row-returns-clause-judged : goal.rows::judge_case_row-returns-clause-judged
rows::judge_case_row-returns-clause-judged t c =
    rw (view_case_row-out c.args.row.now, c.in-Ok.ensures) c.judge_under.ensures.judged

pub parts::judge_part-judge-requires : goal.parts::judge_part-judge-requires
parts::judge_part-judge-requires t c =
    (let h = ap (λ p. weight p.1) (view_part-out c.args.part.now) in omega (arith, h, c.decreases), c.requires.declared)

pub parts::judge_part-returns-in-Ok-clause-judged : goal.parts::judge_part-returns-in-Ok-clause-judged
parts::judge_part-returns-in-Ok-clause-judged t c =
    rw (ap (λ p. p.1) (view_part-out c.args.part.now), ← c.in-Ok.ensures) c.judge.ensures.judged

pub judge_last-returns-in-Hcase-clause-judged : goal.judge_last-returns-in-Hcase-clause-judged
judge_last-returns-in-Hcase-clause-judged t c =
    follows (λ _. fine) _ _ c.judge_hcase.result
    (ap (λ l. judged (map view_decl c.args.world.now) (view_vars c.args.vars.now) (view_held c.args.held) (view_last l)) c.in-Hcase.is ∙ judged-Hcase (map view_decl c.args.world.now) (view_vars c.args.vars.now) (view_held c.args.held) c.in-Hcase.at c.in-Hcase.x c.in-Hcase.rows)
    (rw c.as_slice.ensures at c.judge_hcase.ensures.judged)

pub judge_last-returns-in-Case-clause-judged : goal.judge_last-returns-in-Case-clause-judged
judge_last-returns-in-Case-clause-judged t c =
    follows (λ _. fine) _ _ c.judge_case.result
    (ap (λ l. judged (map view_decl c.args.world.now) (view_vars c.args.vars.now) (view_held c.args.held) (view_last l)) c.in-Case.is ∙ judged-Case (map view_decl c.args.world.now) (view_vars c.args.vars.now) (view_held c.args.held) c.in-Case.at c.in-Case.e c.in-Case.rows)
    (rw c.as_slice-in-Case.ensures at c.judge_case.ensures.judged)
