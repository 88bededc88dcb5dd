use Rattle.std.proofs.Common.{◌≡◌, ◌∙◌, ◌+◌, suc, ap, sym, arith, drop, get_or, map, ◌∷◌}
use Rattle.std.proofs.Math.Seq.{drop-cons}
use Rattle.std.specs.Prelude.{slice_get}
use Rattle.campl_instructions.specs.View.{view_instr}
use Rattle.campl_rules.specs.Found.{takes, ways_at, ways_in}
use Rattle.campl_rules.proofs.Changing.{changed, each-step, takes-once}
use Rattle.campl_rules.proofs.taking.take_all.Goals as goal

pub loop-place-preserved : goal.loop-place-preserved
loop-place-preserved c =
    let block = map view_instr c.args.block.now in
    let places = c.args.places.now in
    let at = c.loop-place.place-index in
    let by = takes c.args.given.now in
    let p = get_or places at 0 in
    let next : suc at ≡ at + 1 = omega arith in
    let all : drop at places ≡ p ∷ drop (at + 1) places = drop-cons places at 0 c.loop-place-test.true ∙ ap (λ n. p ∷ drop n places) next in (
      each-step c.args.heights.now.items c.loop-place.heights.items c.take_from.new.heights.items (ways_in block places) (ways_in block (drop (at + 1) places)) (ways_at (slice_get block p) p) by
          (takes-once c.args.given.now)
          (λ i. ap (λ l. changed c.loop-place.heights.items (ways_in block l) by i) (sym all) ∙ c.loop-place.invariant.0 i) c.in_ok-take_from.ensures.takes,
      λ a. c.in_ok-take_from.ensures.covers (c.loop-place.invariant.1 a),
    )
