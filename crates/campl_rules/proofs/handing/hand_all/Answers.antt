use Rattle.std.proofs.Common.{ap, drop}
use Rattle.std.proofs.lemmas.List.{drop_all}
use Rattle.campl_rules.specs.Found.{handed_in}
use Rattle.campl_rules.specs.Judged.{code_of, block_of}
use Rattle.campl_rules.proofs.Giving.{in-end}
use Rattle.campl_rules.proofs.handing.hand_all.Goals as goal

pub returns : goal.returns
returns c =
    let j = c.args.judged.now in
    let places = c.args.places.now in
    in-end c.args.given.now.items c.loop-place.given.items (handed_in (code_of j) j.in_process (block_of j) c.args.heights.now (drop c.loop-place.place-index places))
    (handed_in (code_of j) j.in_process (block_of j) c.args.heights.now places)
    (λ to. ap (λ l. handed_in (code_of j) j.in_process (block_of j) c.args.heights.now l to) (drop_all c.loop-place.place-index places c.loop-place-test.false))
    c.loop-place.invariant
