use Rattle.std.proofs.Common.{◌<◌, arith}
use Rattle.campl_rules.proofs.Rounds.{covers-sorted, new-within, sorted-rising}
use Rattle.campl_rules.proofs.heights.new_places.Goals as goal

pub returns-clause-covers : goal.returns-clause-covers
returns-clause-covers c =
    covers-sorted c.loop-at.places.items c.sort.new.self.items c.args.heights.now c.sort.ensures.permutation
    (λ i n. let within = new-within c.args.heights.now i n in let past : i < c.loop-at.at = omega (arith, within, c.loop-at-test.false) in c.loop-at.invariant i past n)

pub returns-clause-rising : goal.returns-clause-rising
returns-clause-rising c = sorted-rising c.sort.new.self.items c.in_ok-sort.ensures.sorted
