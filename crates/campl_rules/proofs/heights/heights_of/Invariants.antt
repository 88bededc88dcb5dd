use Rattle.std.proofs.Common.{◌≡◌, ◌-◌}
use Rattle.campl_code.specs.Heights as rule
use Rattle.campl_rules.specs.Found.{AreFound}
use Rattle.campl_rules.specs.Judged.{code_of, block_of}
use Rattle.campl_rules.proofs.heights.heights_of.Given as goal

abbrev pub invariant-rounds : goal.invariant-rounds
invariant-rounds l =
    (rule.rounds (code_of l.judged) l.judged.in_process (block_of l.judged) (l.end - l.counter) l.heights.items ≡ rule.heights_of (code_of l.judged) l.judged.in_process (block_of l.judged))
    × AreFound l.newest.items l.heights.items l.given.items
