use Rattle.std.proofs.Common.{◌≡◌, ◌∙◌, ◌+◌, ◌-◌, ap, sym, arith, suc, length}
use Rattle.campl_rules.specs.Judged.{code_of, block_of}
use Rattle.campl_rules.proofs.Rounds.{rounds-stay, rounds-step}
use Rattle.campl_rules.proofs.heights.heights_of.Goals as goal

pub returns-then-are_none : goal.returns-then-are_none
returns-then-are_none c =
    let j = c.args.judged.now in
    let none = ap length (sym c.as_slice-in-rounds.ensures.value) ∙ c.are_none.ensures.0 c.if-are_none.true in
    sym (rounds-stay (code_of j) j.in_process (block_of j) (length j.block.now - c.rounds.counter) c.rounds.heights.items c.rounds.newest.items none c.rounds.invariant.1.covers) ∙ c.rounds.invariant.0

pub rounds-preserved : goal.rounds-preserved
rounds-preserved c =
    let j = c.args.judged.now in
    let one-less : length j.block.now - c.rounds.counter ≡ suc (length j.block.now - (c.rounds.counter + 1)) = omega (arith, c.rounds-test.true) in (
      rounds-step (code_of j) j.in_process (block_of j) (length j.block.now - c.rounds.counter) (length j.block.now - (c.rounds.counter + 1)) c.rounds.heights.items c.next_round.new.heights.items one-less
          c.in_ok-newest-2.ensures.next
          ∙ c.rounds.invariant.0,
      c.in_ok-newest-2.ensures.found,
    )
