use Rattle.std.proofs.Common.{◌≡◌, ℕ, drop}
use Rattle.campl_rules.specs.Found.{handed_in}
use Rattle.campl_rules.specs.Judged.{code_of, block_of}
use Rattle.campl_rules.proofs.Giving.{later}
use Rattle.campl_rules.proofs.handing.hand_all.Given as goal

abbrev pub invariant-loop-place : goal.invariant-loop-place
invariant-loop-place l =
    (to : ℕ) → later l.given.items (handed_in (code_of l.judged) l.judged.in_process (block_of l.judged) l.heights (drop l.place-index l.places)) to
    ≡ later l.initial.given.items (handed_in (code_of l.judged) l.judged.in_process (block_of l.judged) l.heights l.places) to
