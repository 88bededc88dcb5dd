use Rattle.std.proofs.Common.{◌∙◌, refl, sym, ap}
use Rattle.campl_match.specs.Growing.{asks, seen, trees, view_next}
use Rattle.campl_match.specs.View.{view_asked, view_rows}
use Rattle.campl_match.proofs.Trees.{tree-fail, tree-row, leaf-done, leaf-less, split-done, split-less}
use Rattle.campl_match.proofs.task.grow.Goals as goal

pub returns-in_ok-fail-in-Fail-clause-done : goal.returns-in_ok-fail-in-Fail-clause-done
returns-in_ok-fail-in-Fail-clause-done c =
    leaf-done (view_rows c.args.rows.items) (seen c.args.tasks.now) _ (trees c.args.grown.now) _ _ (tree-fail (view_rows c.args.rows.items) (sym (ap view_next c.in-Fail.is) ∙ c.first_wants.ensures ∙ ap (λ rs. asks (view_rows rs)) c.as_slice.ensures.value))
    refl c.in_ok-fail-in-Fail.ensures

pub returns-in_ok-fail-in-Fail-clause-less : goal.returns-in_ok-fail-in-Fail-clause-less
returns-in_ok-fail-in-Fail-clause-less c = leaf-less (view_rows c.args.rows.items) (seen c.args.tasks.now) _ refl

pub returns-in_ok-row-in-Row-clause-done : goal.returns-in_ok-row-in-Row-clause-done
returns-in_ok-row-in-Row-clause-done c =
    leaf-done (view_rows c.args.rows.items) (seen c.args.tasks.now) _ (trees c.args.grown.now) _ _
    (tree-row (view_rows c.args.rows.items) c.in-Row.row.now.number c.in-Row.row.now.spots (sym (ap view_next c.in-Row.is) ∙ c.first_wants.ensures ∙ ap (λ rs. asks (view_rows rs)) c.as_slice.ensures.value))
    refl c.in_ok-row-in-Row.ensures

pub returns-in_ok-row-in-Row-clause-less : goal.returns-in_ok-row-in-Row-clause-less
returns-in_ok-row-in-Row-clause-less c = leaf-less (view_rows c.args.rows.items) (seen c.args.tasks.now) _ refl

pub returns-in_ok-divide-in-Test-clause-done : goal.returns-in_ok-divide-in-Test-clause-done
returns-in_ok-divide-in-Test-clause-done c =
    split-done (view_rows c.args.rows.items) (view_asked c.in-Test.asked.now) (seen c.args.tasks.now) (seen c.divide.new.tasks) (trees c.args.grown.now) _ (sym (ap view_next c.in-Test.is) ∙ c.first_wants.ensures ∙ ap (λ rs. asks (view_rows rs)) c.as_slice.ensures.value)
    c.in_ok-divide-in-Test.ensures refl

pub returns-in_ok-divide-in-Test-clause-less : goal.returns-in_ok-divide-in-Test-clause-less
returns-in_ok-divide-in-Test-clause-less c =
    split-less (view_rows c.args.rows.items) (view_asked c.in-Test.asked.now) (seen c.args.tasks.now) (seen c.divide.new.tasks) (sym (ap view_next c.in-Test.is) ∙ c.first_wants.ensures ∙ ap (λ rs. asks (view_rows rs)) c.as_slice.ensures.value)
    c.in_ok-divide-in-Test.ensures
