use Rattle.std.proofs.Common.{◌≡◌, ◌+◌, ◌<◌, ℕ, Some, List, ◌++◌, length, map, take, drop, get_or, subst, sym, ap, ◌∙◌, arith}
use Rattle.std.specs.List.{slice_get, slice_index}
use Rattle.std.proofs.lemmas.Option.{slice_get-get_or}
use Rattle.std.proofs.lemmas.List.Elements.{All-get_or}
use Rattle.campl_plug.specs.declared.plug.Link.{Link}
use Rattle.campl_plug.specs.Links.{IsWithin}
use Rattle.campl_plug.specs.Labels.{relabel_of}
use Rattle.campl_plug.proofs.Places.{seam}
use Rattle.campl_plug.proofs.Cycles.{FreeSoFar, label-read, free-first, free-closes, free-place, free-more, free-last}
use Rattle.campl_plug.proofs.labels.label_parts.Goals as goal

none : Link
none = record { a = 0; b = 0 }

pub loop-place-init : goal.loop-place-init
loop-place-init c = free-first c.args.parts c.args.links.now c.in_ok-labels.labels.items c.in_ok-labels.ensures.size c.in_ok-labels.ensures.own

pub loop-place-preserved : goal.loop-place-preserved
unfolding none
loop-place-preserved c =
    let links : List Link = c.args.links.now in
    let labels : List ℕ = c.loop-place.labels.items in
    let l : Link = get_or links c.loop-place.place none in
    let at : slice_get links c.loop-place.place ≡ Some l = slice_get-get_or links c.loop-place.place none c.loop-place-test.true in
    let w : IsWithin c.args.parts l = All-get_or (IsWithin c.args.parts) links c.loop-place.place none c.loop-place-test.true c.requires in
    let from : c.index-from.result.now ≡ slice_index labels l.a = label-read c.args.parts labels c.loop-place.invariant.size l.a w.a_part c.index-from.result.now c.index-from.ensures in
    let to : c.index-to.result.now ≡ slice_index labels l.b = label-read c.args.parts labels c.loop-place.invariant.size l.b w.b_part c.index-to.result.now c.index-to.ensures in
    let size : c.loop-place.labels.len ≡ length c.relabel.new.labels = omega (arith, c.deref_mut.ensures.len, c.relabel.auto.labels) in
    let is : take c.loop-place.labels.len (c.relabel.new.labels ++ drop (length c.relabel.new.labels) labels) ≡ map (relabel_of (slice_index labels l.a) (slice_index labels l.b)) labels =
    seam c.loop-place.labels.len c.relabel.new.labels (drop (length c.relabel.new.labels) labels) size
    ∙ (c.relabel.ensures
    ∙ (ap (λ z. map (relabel_of z c.index-to.result.now) c.deref_mut.result.now) from
    ∙ (ap (λ z. map (relabel_of (slice_index labels l.a) z) c.deref_mut.result.now) to
    ∙ ap (λ zs. map (relabel_of (slice_index labels l.a) (slice_index labels l.b)) zs) c.deref_mut.ensures.value))) in
    subst (FreeSoFar c.args.parts links (c.loop-place.place + 1)) (sym is)
    (free-more c.args.parts links c.loop-place.place labels c.loop-place.invariant l at w (λ e. c.if-from-to.false (from ∙ (e ∙ sym to))))

pub overflow_cast-result : goal.overflow_cast-result
unfolding none
overflow_cast-result c =
    let links : List Link = c.args.links.now in
    let labels : List ℕ = c.loop-place.labels.items in
    let l : Link = get_or links c.loop-place.place none in
    let at : slice_get links c.loop-place.place ≡ Some l = slice_get-get_or links c.loop-place.place none c.loop-place-test.true in
    let w : IsWithin c.args.parts l = All-get_or (IsWithin c.args.parts) links c.loop-place.place none c.loop-place-test.true c.requires in
    let below : c.loop-place.place < c.args.parts = free-place c.args.parts links c.loop-place.place labels c.loop-place.invariant l at w in
    omega (arith, below, c.ranges.parts.fits)

pub returns-then-from-to-clause-cycle : goal.returns-then-from-to-clause-cycle
unfolding none
returns-then-from-to-clause-cycle c =
    let links : List Link = c.args.links.now in
    let labels : List ℕ = c.loop-place.labels.items in
    let l : Link = get_or links c.loop-place.place none in
    let at : slice_get links c.loop-place.place ≡ Some l = slice_get-get_or links c.loop-place.place none c.loop-place-test.true in
    let w : IsWithin c.args.parts l = All-get_or (IsWithin c.args.parts) links c.loop-place.place none c.loop-place-test.true c.requires in
    let from : c.index-from.result.now ≡ slice_index labels l.a = label-read c.args.parts labels c.loop-place.invariant.size l.a w.a_part c.index-from.result.now c.index-from.ensures in
    let to : c.index-to.result.now ≡ slice_index labels l.b = label-read c.args.parts labels c.loop-place.invariant.size l.b w.b_part c.index-to.result.now c.index-to.ensures in
    free-closes c.args.parts links c.loop-place.place labels c.loop-place.invariant l at w (sym from ∙ (c.if-from-to.true ∙ to))

pub returns : goal.returns
returns c =
    let r = free-last c.args.parts c.args.links.now c.loop-place.labels.items c.loop-place.place c.loop-place-test.false c.loop-place.invariant in
    record { labels = r.0; tree = r.1; cycle = tt }
