use Rattle.std.proofs.Common.{sym, subst}
use Rattle.campl_rules.specs.Found.{Changed, Covers, handed_in, takes, ways_in}
use Rattle.campl_rules.specs.Given.{TakesLater}
use Rattle.campl_rules.specs.Judged.{code_of, block_of}
use Rattle.campl_rules.proofs.Rounds.{covers-sorted, none-new, round-firsts, round-heights, sorted-rising}
use Rattle.campl_rules.proofs.heights.next_round.Goals as goal

pub returns-clause-next : goal.returns-clause-next
returns-clause-next c =
    let j = c.args.judged.now in
    let fs = c.args.newest.now in
    let old = c.args.heights.now.items in
    let given = c.args.given.now.items in
    let new = c.hand_all.new.given.items in
    let settled = c.settle_all.new.heights.items in
    let taken = c.take_all.new.heights.items in
    round-heights (code_of j) j.in_process (block_of j) old settled taken fs given new c.requires.found
    (subst (λ h. TakesLater given (handed_in (code_of j) j.in_process (block_of j) h fs) new) c.as_slice.ensures.value c.in_ok-hand_all.ensures) c.settle_all.ensures
    (subst (λ g. Changed settled (ways_in (block_of j) fs) (takes g) taken) c.as_slice-2.ensures.value c.in_ok-take_all.ensures.takes)

pub returns-clause-found : goal.returns-clause-found
returns-clause-found c =
    let j = c.args.judged.now in
    let fs = c.args.newest.now in
    let old = c.args.heights.now.items in
    let given = c.args.given.now.items in
    let new = c.hand_all.new.given.items in
    let settled = c.settle_all.new.heights.items in
    let taken = c.take_all.new.heights.items in
    record {
      rising = sorted-rising c.sort.new.self.items c.in_ok-sort.ensures.sorted;
      covers =
          covers-sorted c.take_all.new.next.items c.sort.new.self.items taken c.sort.ensures.permutation
          (c.in_ok-take_all.ensures.covers (subst (λ l. Covers l settled) (sym c.new-next.ensures.items) (none-new old settled fs c.requires.found.covers c.settle_all.ensures)));
      firsts =
          round-firsts (code_of j) j.in_process (block_of j) old settled taken fs given new c.requires.found
          (subst (λ h. TakesLater given (handed_in (code_of j) j.in_process (block_of j) h fs) new) c.as_slice.ensures.value c.in_ok-hand_all.ensures) c.settle_all.ensures
          (subst (λ g. Changed settled (ways_in (block_of j) fs) (takes g) taken) c.as_slice-2.ensures.value c.in_ok-take_all.ensures.takes);
    }
