use Rattle.std.proofs.Common.{◌≡◌, ◌+◌, ◌<◌, ◌≤◌, ℕ, Some, List, [], ◌∷◌, ◌++◌, length, subst, sym, ap, ◌∙◌, arith, add-one}
use Rattle.std.specs.List.{slice_get}
use Rattle.std.proofs.lemmas.Option.{slice_get-get_or}
use Rattle.std.proofs.lemmas.List.Elements.{recursion_from_All}
use Rattle.campl_plug.specs.Links.{IsWithin}
use Rattle.campl_plug.specs.Search.{AreNewNeighbours}
use Rattle.campl_plug.proofs.Paths.{linked-parts}
use Rattle.campl_plug.proofs.Searched.{Searched, AreSearched, once-length, searched-first, search-is-breadth-first, searched-more}
use Rattle.campl_plug.proofs.search.breadth_first.Goals as goal

pub loop-next-init : goal.loop-next-init
loop-next-init c =
    let e : c.push.new.self.items ≡ 1 ∷ [] = c.in_ok-push.ensures.items ∙ ap (λ xs. xs ++ 1 ∷ []) c.new-order.ensures.items in
    subst (AreSearched c.args.parts c.args.links.now 0) (sym e) (searched-first c.args.parts c.args.links.now c.requires.some)

pub loop-next-preserved : goal.loop-next-preserved
loop-next-preserved c =
    let (up, s) = c.loop-next.invariant in
    let order : List ℕ = c.loop-next.order.items in
    let small : c.loop-next.next < length order = omega (arith, c.loop-next-test.true, c.len.ensures) in
    let at : slice_get order c.loop-next.next ≡ Some c.index.result.now = slice_get-get_or order c.loop-next.next c.index.result.now small ∙ ap Some (sym c.index.ensures) in
    let new : AreNewNeighbours c.args.parts c.args.links.now order c.index.result.now c.in_ok-found.found.items = subst (λ xs. AreNewNeighbours c.args.parts c.args.links.now xs c.index.result.now c.in_ok-found.found.items) c.deref.ensures.value c.in_ok-found.ensures in
    let e : c.extend_from_slice.new.self.items ≡ order ++ c.in_ok-found.found.items = c.in_ok-extend_from_slice.ensures.items ∙ ap (λ xs. order ++ xs) c.deref-in-loop-next.ensures.value in
    subst (AreSearched c.args.parts c.args.links.now (c.loop-next.next + 1)) (sym e)
    (subst (λ n. AreSearched c.args.parts c.args.links.now n (order ++ c.in_ok-found.found.items)) (sym (add-one c.loop-next.next))
    (searched-more c.args.parts c.args.links.now c.loop-next.next order up s c.index.result.now at c.in_ok-found.found.items new
    (λ q r l. (linked-parts c.args.parts c.args.links.now (recursion_from_All (IsWithin c.args.parts) c.args.links.now c.requires.within) q r l).1)))

pub loop-next-smaller : goal.loop-next-smaller
loop-next-smaller c =
    let (up, s) = c.loop-next.invariant in
    let few : length c.loop-next.order.items ≤ c.args.parts = once-length c.args.parts c.loop-next.order.items s.parts_alone s.once in
    omega (arith, few)

pub returns : goal.returns
returns c =
    let (up, s) = c.loop-next.invariant in
    let e : c.loop-next.next ≡ length c.loop-next.order.items = omega (arith, s.gone, c.loop-next-test.false, c.len.ensures) in
    search-is-breadth-first c.args.parts c.args.links.now c.loop-next.order.items up (subst (λ n. Searched c.args.parts c.args.links.now n c.loop-next.order.items up) e s) c.requires.reached
