-- What the search leaves open.
use Rattle.std.proofs.Common.{◌∙◌, ◌-◌, refl, ap, sym, map, take, length, arith}
use Rattle.campl_tree.specs.declared.process.CaseRow.{out-CaseRow}
use Rattle.campl_tree.specs.View.{view_decl, view_link, view_body}
use Rattle.campl_tree.proofs.Views.{view_hcase_row-out, view_branch-out, view_case_row-out, view_part-out}
use Rattle.campl_code_bodies.specs.BodySizes.{body_size}
use Rattle.campl_gen_channels.specs.View.{view_channels}
use Rattle.campl_gen_bodies.specs.Making.{left_at, built}
use Rattle.campl_gen_bodies.specs.Halves.{half_built}
use Rattle.campl_gen_bodies.specs.Peels.{children_built, peels_built, left_links}
use Rattle.campl_gen_bodies.specs.View.{view_making, view_stage, view_child}
use Rattle.campl_gen_bodies.proofs.Turns.{body-so}
use Rattle.campl_gen_bodies.proofs.Sizes.{size-body, size-Hcase, size-Plug, size-Race, size-Case, rows-fall, bodies-fall, hcase-sizes, race-sizes, case-sizes, part-sizes, hcase-within, race-within, case-within}
use Rattle.campl_gen_bodies.proofs.Children.{plug-light, last-light, child-light, children-at, fork-done}
use Rattle.campl_gen_bodies.proofs.RowTurns.{case-row-left}
use Rattle.campl_gen_bodies.proofs.emission.+emit.Goals as goal

pub emit_body-emit_last-requires : goal.emit_body-emit_last-requires
emit_body-emit_last-requires t c = (let h = size-body c.args.body.now in omega (arith, h, c.decreases), tt)

pub emit_body-returns : goal.emit_body-returns
emit_body-returns t c =
    body-so (map view_decl c.args.known.now) c.args.body.now c.args.held.now.next c.in_ok-own.own.next (view_channels c.args.held.now) (view_channels c.in_ok-own.own) (view_making c.args.making.now) (view_making c.emit_last.new.making) _
    (view_stage c.act_all.new.held c.act_all.new.making) c.as_slice.result.now c.in_ok-own.ensures.next c.in_ok-own.ensures.same c.as_slice.ensures c.in_ok-act_all.ensures c.in_ok-emit_last.ensures
    (c.leave.ensures ∙ ap (λ n. left_at n c.args.making.now.code.free (view_making c.emit_last.new.making)) c.len-variables.ensures)

pub emit_last-emit_hcase-requires : goal.emit_last-emit_hcase-requires
emit_last-emit_hcase-requires t c = (rows-fall hcase-sizes _ _ _ _ t c.in-Hcase.is (size-Hcase _ _ _) c.as_slice.ensures c.decreases, tt)

pub emit_last-emit_fork-requires : goal.emit_last-emit_fork-requires
emit_last-emit_fork-requires t c = (bodies-fall _ _ _ _ _ _ _ t c.in-Fork.is c.get.ensures c.get-in-Fork.ensures c.decreases, tt)

pub emit_last-emit_plug-requires : goal.emit_last-emit_plug-requires
emit_last-emit_plug-requires t c = (rows-fall part-sizes _ _ _ _ t c.in-Plug.is (size-Plug _ _ _) c.as_slice-in-Plug.ensures c.decreases, tt)

pub emit_last-emit_race-requires : goal.emit_last-emit_race-requires
emit_last-emit_race-requires t c = (rows-fall race-sizes _ _ _ _ t c.in-Race.is (size-Race _ _) c.as_slice-in-Race.ensures c.decreases, tt)

pub emit_last-emit_case-requires : goal.emit_last-emit_case-requires
emit_last-emit_case-requires t c = (rows-fall case-sizes _ _ _ _ t c.in-Case.is (size-Case _ _ _) c.as_slice-in-Case.ensures c.decreases, tt)

pub emit_halves-emit_body-requires : goal.emit_halves-emit_body-requires
emit_halves-emit_body-requires t c = (let h = ap (λ p. body_size p.1) (view_branch-out c.args.left.now) in omega (arith, h, c.decreases), tt)

pub emit_halves-emit_body-requires-2 : goal.emit_halves-emit_body-requires-2
emit_halves-emit_body-requires-2 t c = (let h = ap (λ p. body_size p.1) (view_branch-out c.args.right.now) in omega (arith, h, c.decreases), tt)

pub rows::emit_hcase_rows-emit_hcase_row-requires : goal.rows::emit_hcase_rows-emit_hcase_row-requires
rows::emit_hcase_rows-emit_hcase_row-requires t c =
    (let h = hcase-within c.args.rows.now c.loop-i.i c.index-rows-i.result c.loop-i-test.true c.index-rows-i.is in omega (arith, h, c.decreases), tt)

pub rows::emit_hcase_row-emit_body-requires : goal.rows::emit_hcase_row-emit_body-requires
rows::emit_hcase_row-emit_body-requires t c = (let h = ap (λ p. body_size p.1) (view_hcase_row-out c.args.row.now) in omega (arith, h, c.decreases), tt)

pub rows::emit_branches-emit_branch-requires : goal.rows::emit_branches-emit_branch-requires
rows::emit_branches-emit_branch-requires t c =
    (let h = race-within c.args.rows.now c.loop-i.i c.index-rows-i.result c.loop-i-test.true c.index-rows-i.is in omega (arith, h, c.decreases), tt)

pub rows::emit_branch-emit_body-requires : goal.rows::emit_branch-emit_body-requires
rows::emit_branch-emit_body-requires t c = (let h = ap (λ p. body_size p.1) (view_branch-out c.args.row.now) in omega (arith, h, c.decreases), tt)

pub rows::emit_cases-emit_case_row-requires : goal.rows::emit_cases-emit_case_row-requires
rows::emit_cases-emit_case_row-requires t c =
    (let h = case-within c.args.rows.now c.loop-i.i c.index-rows-i.result c.loop-i-test.true c.index-rows-i.is in omega (arith, h, c.decreases), tt)

pub rows::emit_case_row-emit_body-requires : goal.rows::emit_case_row-emit_body-requires
rows::emit_case_row-emit_body-requires t c = (let h = ap (λ p. body_size p.1) (view_case_row-out c.args.row.now) in omega (arith, h, c.decreases), tt)

pub parts::emit_plug-emit_order-requires : goal.parts::emit_plug-emit_order-requires
parts::emit_plug-emit_order-requires t c =
    (let h = plug-light (map view_link c.args.links.now) c.args.parts.now c.in_ok-order.order c.as_slice.result.now c.in_ok-order.ensures c.as_slice.ensures in omega (arith, h, c.decreases), tt)

pub parts::emit_order-emit_children-requires : goal.parts::emit_order-emit_children-requires
parts::emit_order-emit_children-requires t c = (rw c.as_slice.ensures (omega (arith, c.in_ok-peeling.ensures.light, c.decreases)), tt)

pub parts::emit_order-returns : goal.parts::emit_order-returns
parts::emit_order-returns t c =
    let w = map view_decl c.args.known.now in
    c.in_ok-emit_children.ensures ∙ ap (λ l. children_built w (map view_child l) (view_making c.emit_left.new.making)) c.as_slice.ensures
    ∙ ap (children_built w (map view_child c.in_ok-peeling.peeling.children)) (c.in_ok-emit_left.ensures (left_links c.in_ok-peeling.peeling.used (map view_link c.args.links.now))) ∙ c.in_ok-peeling.ensures.built w

pub parts::emit_left-emit_body-requires : goal.parts::emit_left-emit_body-requires
parts::emit_left-emit_body-requires t c =
    (let h = last-light c.args.order.now (length c.args.order.now - 1) c.in-Some.part c.in-Some.ensures in let k = ap (λ p. body_size p.1) (view_part-out c.in-Some.part.now) in omega (arith, h, k, c.decreases), tt)

pub parts::emit_children-emit_child-requires : goal.parts::emit_children-emit_child-requires
parts::emit_children-emit_child-requires t c =
    (let h = child-light c.args.children.now (c.children.more - 1) c.index-children-more.result (omega (arith, c.children-test.true, c.children.invariant.within)) c.index-children-more.is in omega (arith, h, c.decreases), tt)

pub parts::emit_children-children-preserved : goal.parts::emit_children-children-preserved
parts::emit_children-children-preserved t c =
    record {
      made = ap (children_built (map view_decl c.args.known.now) (map view_child (take (c.children.more - 1) c.args.children.now))) c.in_ok-emit_child.ensures
          ∙ sym (children-at (map view_decl c.args.known.now) c.args.children.now c.children.more (c.children.more - 1) c.index-children-more.result (view_making c.children.making) (omega (arith, c.children-test.true, c.children.invariant.within)) c.index-children-more.is (omega (arith, c.children-test.true)))
          ∙ c.children.invariant.made;
      within = omega (arith, c.children.invariant.within);
    }

pub rows::emit_case_row-returns : goal.rows::emit_case_row-returns
rows::emit_case_row-returns t c =
    let w = map view_decl c.args.known.now in
    let s = view_making c.args.making.now in
    c.leave.ensures ∙ ap (λ n. left_at n s.emission.free (view_making c.emit_body.new.making)) c.len-variables.ensures
    ∙ ap (left_at (length s.emission.numbers) s.emission.free) (c.in_ok-emit_body.ensures ∙ ap (built w (view_body (out-CaseRow c.args.row.now).body) c.args.held.now.next (view_channels c.args.held.now)) c.in_ok-enter.ensures)
    ∙ case-row-left w c.args.row.now c.args.held.now.next (view_channels c.args.held.now) s

pub emit_fork-returns-in-Ok-emit_halves : goal.emit_fork-returns-in-Ok-emit_halves
emit_fork-returns-in-Ok-emit_halves t c =
    let w = map view_decl c.args.known.now in
    fork-done w c.args.x.now c.args.left.now c.args.right.now c.args.held.now.next c.in-Ok.halves.first.next c.in-Ok.halves.second.next c.args.held.now.next c.in_ok-its.its c.in-Ok-emit_halves.to c.len-at.result c.number-n.result
    (view_channels c.args.held.now) (view_channels c.in-Ok.halves.first) (view_channels c.in-Ok.halves.second) (view_making c.args.making.now) (half_built w c.args.left.now c.in-Ok.halves.first (view_making c.push.new.self)) (view_making c.emit_halves.new.making) _
    c.in-Ok.ensures.first c.in-Ok.ensures.first_next c.in-Ok.ensures.second c.in-Ok.ensures.second_next
    (ap (half_built w c.args.left.now c.in-Ok.halves.first) c.in_ok-push.ensures) c.in-Ok-emit_halves.ensures.made c.set.ensures
    c.len-at.ensures c.number-n.ensures refl c.in_ok-its.ensures c.in-Ok-emit_halves.ensures.to

pub parts::emit_left-returns-in_ok-emit_body-in-Some : goal.parts::emit_left-returns-in_ok-emit_body-in-Some
parts::emit_left-returns-in_ok-emit_body-in-Some t c =
    λ links.
    let w = map view_decl c.args.known.now in
    c.in_ok-emit_body-in-Some.ensures ∙ ap (λ p. built w p.1 c.args.held.now.next (view_channels c.args.held.now) (view_making c.args.making.now)) (sym (view_part-out c.in-Some.part.now))
    ∙ sym (ap (λ p. peels_built w links p c.args.held.now.next (view_channels c.args.held.now) (view_making c.args.making.now)) c.in-Some.ensures)

pub parts::emit_child-emit_body-requires : goal.parts::emit_child-emit_body-requires
parts::emit_child-emit_body-requires t c = (let k = ap (λ p. body_size p.1) (view_part-out c.args.child.now.part.now) in omega (arith, k, c.decreases), tt)
