use Rattle.std.proofs.Common.{◌+◌, ◌<◌, ◌↔◌, false, get_or, IsTrue, ℕ, [], ◌∷◌, ◌++◌, subst, sym, ◌∙◌, arith}
use Rattle.campl_plug.specs.Links.{Linked}
use Rattle.campl_plug.proofs.Found.{FoundBelow, found-none, found-all, found-yes, found-no}
use Rattle.campl_plug.proofs.search.new_neighbours.Goals as goal
use Rattle.campl_plug.proofs.search.new_neighbours.Goals.{else-loop-candidate-test, then-loop-candidate-test+else-candidate-parts, then-is_new_neighbour+in_ok-push, else-is_new_neighbour}

pub loop-candidate-init : goal.loop-candidate-init
loop-candidate-init c = subst (FoundBelow c.args.parts c.args.links.now c.args.order.now c.args.part 1) (sym c.new-found.ensures.items) (found-none c.args.parts c.args.links.now c.args.order.now c.args.part)

pub loop-candidate-preserved : goal.loop-candidate-preserved
loop-candidate-preserved c =
    let marked : (q : ℕ) → IsTrue (get_or c.deref.result.now q false) ↔ Linked c.args.links.now c.args.part q = rw c.deref.ensures.value c.in_ok-is_linked.ensures.marked in
    elim c.if-is_new_neighbour.branch [
      | then-is_new_neighbour+in_ok-push w ↦ rw (w.found-is, w.in_ok-push.ensures.items)
          (found-yes c.args.parts c.args.links.now c.args.order.now c.args.part c.loop-candidate.candidate c.loop-candidate.found.items c.loop-candidate.invariant c.deref.result.now marked
          (record { low = c.loop-candidate.auto.candidate; high = c.loop-candidate-test.true }) (sym c.is_new_neighbour.ensures ∙ w.if-is_new_neighbour.true))
      | else-is_new_neighbour w ↦ rw w.found-is
          (found-no c.args.parts c.args.links.now c.args.order.now c.args.part c.loop-candidate.candidate c.loop-candidate.found.items c.loop-candidate.invariant c.deref.result.now marked
          (sym c.is_new_neighbour.ensures ∙ w.if-is_new_neighbour.false))
    ]

pub returns : goal.returns
returns c = elim c.loop-candidate-test.branch [
  | else-loop-candidate-test w ↦ rw w.found-is
      (found-all c.args.parts c.args.links.now c.args.order.now c.args.part c.loop-candidate.candidate c.loop-candidate.found.items (omega (arith, w.loop-candidate-test.false)) c.loop-candidate.invariant)
  | then-loop-candidate-test+else-candidate-parts w ↦
      let marked : (q : ℕ) → IsTrue (get_or w.deref.result.now q false) ↔ Linked c.args.links.now c.args.part q = rw w.deref.ensures.value c.in_ok-is_linked.ensures.marked in
      let past : c.args.parts < c.loop-candidate.candidate + 1 = omega arith in
      elim w.if-is_new_neighbour.branch [
        | then-is_new_neighbour+in_ok-push v ↦ rw (w.found-is, v.found-is, v.in_ok-push.ensures.items)
            (found-all c.args.parts c.args.links.now c.args.order.now c.args.part (c.loop-candidate.candidate + 1) (c.loop-candidate.found.items ++ c.loop-candidate.candidate ∷ []) past
            (found-yes c.args.parts c.args.links.now c.args.order.now c.args.part c.loop-candidate.candidate c.loop-candidate.found.items c.loop-candidate.invariant w.deref.result.now marked
            (record { low = c.loop-candidate.auto.candidate; high = w.loop-candidate-test.true }) (sym w.is_new_neighbour.ensures ∙ v.if-is_new_neighbour.true)))
        | else-is_new_neighbour v ↦ rw (w.found-is, v.found-is)
            (found-all c.args.parts c.args.links.now c.args.order.now c.args.part (c.loop-candidate.candidate + 1) c.loop-candidate.found.items past
            (found-no c.args.parts c.args.links.now c.args.order.now c.args.part c.loop-candidate.candidate c.loop-candidate.found.items c.loop-candidate.invariant w.deref.result.now marked
            (sym w.is_new_neighbour.ensures ∙ v.if-is_new_neighbour.false)))
      ]
]
