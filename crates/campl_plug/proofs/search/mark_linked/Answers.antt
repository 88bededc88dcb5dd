use Rattle.std.proofs.Common.{◌≡◌, Some, List, length-set, get_or, true, refl, ◌∙◌, arith}
use Rattle.std.specs.List.{slice_get}
use Rattle.std.proofs.lemmas.Option.{slice_get-get_or}
use Rattle.std.proofs.lemmas.List.Elements.{All-get_or}
use Rattle.campl_plug.specs.declared.plug.Link.{Link}
use Rattle.campl_plug.specs.Links.{IsPart, IsWithin, Joins}
use Rattle.campl_plug.proofs.Paths.{joins-parts}
use Rattle.campl_plug.proofs.Marks.{marked-same, marked-more}
use Rattle.campl_plug.proofs.search.mark_linked.Goals as goal
use Rattle.campl_plug.proofs.search.mark_linked.Goals.{in-Some, in_default}

none : Link
none = record { a = 0; b = 0 }

pub index_mut-requires : goal.index_mut-requires
unfolding none
index_mut-requires c =
    let links : List Link = c.args.links.now in
    let l : Link = get_or links c.loop-link.link-index none in
    let w : IsWithin c.args.parts l = All-get_or (IsWithin c.args.parts) links c.loop-link.link-index none c.loop-link-test.true c.requires in
    let j : Joins l c.args.part c.in-Some.end = (c.in-Some.ensures c.in-Some.end).0 refl in
    let e : IsPart c.args.parts c.in-Some.end = (joins-parts c.args.parts l c.args.part c.in-Some.end w j).1 in
    omega (arith, e.high, c.loop-link.invariant.size)

pub loop-link-preserved : goal.loop-link-preserved
unfolding none
loop-link-preserved c =
    let links : List Link = c.args.links.now in
    let l : Link = get_or links c.loop-link.link-index none in
    let at : slice_get links c.loop-link.link-index ≡ Some l = slice_get-get_or links c.loop-link.link-index none c.loop-link-test.true in
    let w : IsWithin c.args.parts l = All-get_or (IsWithin c.args.parts) links c.loop-link.link-index none c.loop-link-test.true c.requires in
    elim c.match-other_end.branch [
      | in-Some b ↦
          let e : IsPart c.args.parts b.in-Some.end = (joins-parts c.args.parts l c.args.part b.in-Some.end w ((b.in-Some.ensures b.in-Some.end).0 refl)).1 in
          rw b.marks-is (record {
            size = length-set c.loop-link.marks.items b.in-Some.end true ∙ c.loop-link.invariant.size;
            marked = marked-more links c.loop-link.link-index c.args.part l at c.loop-link.marks.items c.loop-link.invariant.marked b.in-Some.end (omega (arith, e.high, c.loop-link.invariant.size)) b.in-Some.ensures;
          })
      | in_default b ↦ rw b.marks-is (record {
        size = c.loop-link.invariant.size;
        marked = marked-same links c.loop-link.link-index c.args.part l at c.loop-link.marks.items c.loop-link.invariant.marked b.in_default.ensures;
      })
    ]
