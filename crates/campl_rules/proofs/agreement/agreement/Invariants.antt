use Rattle.std.proofs.Common.{◌≡◌, ℕ, map, drop}
use Rattle.campl_code.specs.Rules.{height_at, ways_agree}
use Rattle.campl_instructions.specs.View.{view_instr}
use Rattle.campl_rules.specs.Judged.{code_of, block_of}
use Rattle.campl_rules.proofs.Agreeing.{agreed}
use Rattle.campl_rules.proofs.agreement.agreement.Given as goal

abbrev pub invariant-loop-at : goal.invariant-loop-at
invariant-loop-at l =
    (to : ℕ) → agreed l.agrees.items (λ n. ways_agree (code_of l.judged) l.judged.in_process (block_of l.judged) l.at (map view_instr (drop l.at l.judged.block.now)) (drop l.at l.heights) n (height_at l.heights n)) to
    ≡ agreed l.initial.agrees.items (λ n. ways_agree (code_of l.judged) l.judged.in_process (block_of l.judged) 0 (block_of l.judged) l.heights n (height_at l.heights n)) to
