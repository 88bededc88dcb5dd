use Rattle.std.proofs.Common.{◌∙◌, ap, map}
use Rattle.std.proofs.lemmas.List.{drop_all}
use Rattle.campl_tree.specs.View.{view_action, view_link, view_last}
use Rattle.campl_types.specs.Headers.{link_names}
use Rattle.campl_free.specs.Gathers.{free_in}
use Rattle.campl_free.proofs.Gathered.{gathers-both, gathers-under, turn}
use Rattle.campl_free.proofs.Nodes.{free-Fork, free-Identity, free-Call, two-gathered, ok-then, plug-kept, row-at, case-at, branch-at, part-at, no-rows, no-cases, no-branches, no-parts, body-gathered, body-kept}
use Rattle.campl_free.proofs.bodies.+gather.Goals as goal

pub gather_body-returns-clause-gathers : goal.gather_body-returns-clause-gathers
gather_body-returns-clause-gathers t c =
    body-gathered c.args.body.now _ c.args.bound.now _ _ _ _ c.as_slice.ensures c.in_ok-gather_actions.ensures.gathers c.in_ok-gather_actions.ensures.binds c.in_ok-gather_last.ensures.gathers

pub gather_rows-loop-row-preserved : goal.gather_rows-loop-row-preserved
gather_rows-loop-row-preserved t c =
    record {
      told = λ final a.
          turn _ _ _ _ _ _ final (c.loop-row.invariant.told final) (row-at c.args.rows.now c.loop-row.row-index c.row-item.result c.loop-row-test.true c.row-item.is)
          (rw c.loop-row.invariant.kept at c.in_ok-gather_row.ensures.gathers) a;
      kept = c.in_ok-gather_row.ensures.kept ∙ c.loop-row.invariant.kept;
    }

pub gather_rows-returns-clause-gathers : goal.gather_rows-returns-clause-gathers
gather_rows-returns-clause-gathers t c =
    c.loop-row.invariant.told c.loop-row.found (rw (drop_all c.loop-row.row-index c.args.rows.now c.loop-row-test.false) (no-rows c.args.bound.now c.loop-row.found))

pub gather_branches-loop-row-preserved : goal.gather_branches-loop-row-preserved
gather_branches-loop-row-preserved t c =
    record {
      told = λ final a.
          turn _ _ _ _ _ _ final (c.loop-row.invariant.told final) (branch-at c.args.rows.now c.loop-row.row-index c.row-item.result c.loop-row-test.true c.row-item.is)
          (rw c.loop-row.invariant.kept at c.in_ok-gather_branch.ensures.gathers) a;
      kept = c.in_ok-gather_branch.ensures.kept ∙ c.loop-row.invariant.kept;
    }

pub gather_branches-returns-clause-gathers : goal.gather_branches-returns-clause-gathers
gather_branches-returns-clause-gathers t c =
    c.loop-row.invariant.told c.loop-row.found (rw (drop_all c.loop-row.row-index c.args.rows.now c.loop-row-test.false) (no-branches c.args.bound.now c.loop-row.found))

pub gather_case_rows-loop-row-preserved : goal.gather_case_rows-loop-row-preserved
gather_case_rows-loop-row-preserved t c =
    record {
      told = λ final a.
          turn _ _ _ _ _ _ final (c.loop-row.invariant.told final) (case-at c.args.rows.now c.loop-row.row-index c.row-item.result c.loop-row-test.true c.row-item.is)
          (rw c.loop-row.invariant.kept at c.in_ok-gather_case_row.ensures.gathers) a;
      kept = c.in_ok-gather_case_row.ensures.kept ∙ c.loop-row.invariant.kept;
    }

pub gather_case_rows-returns-clause-gathers : goal.gather_case_rows-returns-clause-gathers
gather_case_rows-returns-clause-gathers t c =
    c.loop-row.invariant.told c.loop-row.found (rw (drop_all c.loop-row.row-index c.args.rows.now c.loop-row-test.false) (no-cases c.args.bound.now c.loop-row.found))

pub gather_parts-loop-part-preserved : goal.gather_parts-loop-part-preserved
gather_parts-loop-part-preserved t c =
    record {
      told = λ final a.
          turn _ _ _ _ _ _ final (c.loop-part.invariant.told final) (part-at c.args.all.now c.loop-part.part-index c.part-item.result c.loop-part-test.true c.part-item.is)
          (rw c.loop-part.invariant.kept at c.in_ok-gather_part.ensures.gathers) a;
      kept = c.in_ok-gather_part.ensures.kept ∙ c.loop-part.invariant.kept;
    }

pub gather_parts-returns-clause-gathers : goal.gather_parts-returns-clause-gathers
gather_parts-returns-clause-gathers t c =
    c.loop-part.invariant.told c.loop-part.found (rw (drop_all c.loop-part.part-index c.args.all.now c.loop-part-test.false) (no-parts c.args.bound.now c.loop-part.found))

pub gather_body-returns-clause-kept : goal.gather_body-returns-clause-kept
gather_body-returns-clause-kept t c = c.truncate.ensures ∙ body-kept c.args.bound.now _ _ (map view_action c.as_slice.result.now) _ c.in_ok-gather_actions.ensures.binds c.in_ok-gather_last.ensures.kept c.len-mark.ensures

pub gather_last-returns-in_ok-gather_half-in-Fork-clause-gathers : goal.gather_last-returns-in_ok-gather_half-in-Fork-clause-gathers
gather_last-returns-in_ok-gather_half-in-Fork-clause-gathers t c =
    ok-then c.gather_half-in-Fork.result (rw c.get-in-Fork.ensures at (rw c.in_ok-gather_half-in-Fork.ensures.kept at c.gather_half-in-Fork.ensures.gathers))
    (λ a. two-gathered c.args.last.now c.args.bound.now _ _ c.args.found.now _ _ (ap (λ l. free_in (view_last l)) c.in-Fork.is ∙ free-Fork c.in-Fork.field-0 c.in-Fork.x c.in-Fork.a c.in-Fork.b) c.in_ok-gather_name-in-Fork.ensures
    (gathers-both _ _ _ _ _ _ (rw c.get.ensures at c.in_ok-gather_half-in-Fork.ensures.gathers) a))

pub gather_last-returns-in_ok-gather_name-in-Identity-clause-gathers : goal.gather_last-returns-in_ok-gather_name-in-Identity-clause-gathers
gather_last-returns-in_ok-gather_name-in-Identity-clause-gathers t c =
    ok-then c.gather_name-in-Identity-2.result c.gather_name-in-Identity-2.ensures
    (λ a. two-gathered c.args.last.now c.args.bound.now _ _ c.args.found.now _ _ (ap (λ l. free_in (view_last l)) c.in-Identity.is ∙ free-Identity c.in-Identity.field-0 c.in-Identity.x c.in-Identity.field-2 c.in-Identity.y) c.in_ok-gather_name-in-Identity.ensures a)

pub gather_last-returns-in_ok-gather_names-in-Call-clause-gathers : goal.gather_last-returns-in_ok-gather_names-in-Call-clause-gathers
gather_last-returns-in_ok-gather_names-in-Call-clause-gathers t c =
    ok-then c.gather_names-in-Call.result (rw c.as_slice-in-Call-2.ensures at c.gather_names-in-Call.ensures)
    (λ a. two-gathered c.args.last.now c.args.bound.now _ _ c.args.found.now _ _ (ap (λ l. free_in (view_last l)) c.in-Call.is ∙ free-Call c.in-Call.field-0 c.in-Call.field-1 c.in-Call.field-2 c.in-Call.inputs c.in-Call.outputs)
    (rw c.as_slice-in-Call.ensures at c.in_ok-gather_names-in-Call.ensures) a)

pub gather_plug-returns-clause-gathers : goal.gather_plug-returns-clause-gathers
gather_plug-returns-clause-gathers t c = gathers-under _ _ _ _ _ (rw c.in_ok-bind_links.ensures at c.in_ok-gather_parts.ensures.gathers)

pub gather_plug-returns-clause-kept : goal.gather_plug-returns-clause-kept
gather_plug-returns-clause-kept t c = c.truncate.ensures ∙ plug-kept c.args.bound.now _ _ (link_names (map view_link c.args.links.now)) _ c.in_ok-bind_links.ensures c.in_ok-gather_parts.ensures.kept c.len-mark.ensures
