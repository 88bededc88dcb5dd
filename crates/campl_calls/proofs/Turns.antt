-- What is judged in turn, where a value is one of the sequential rules.
use Rattle.std.proofs.Common.{◌≡◌, ◌∙◌, sym, subst}
use Rattle.campl_seqcheck.specs.declared.fault.SeqFault.{SeqFault}
use Rattle.campl_seqcheck.specs.Judged.{Judged, and_then}
use Rattle.campl_seqcheck.specs.Answered.{StopsAt}
use Rattle.campl_seqcheck.proofs.Answered.{stopped}

-- a turn of a loop that stops
pub seq-stopped : {B C : Type 0} (here whole : Judged SeqFault B) (first : Judged SeqFault C) (next : C → Judged SeqFault B) (fault : SeqFault)
    → StopsAt first fault → here ≡ and_then first next → here ≡ whole → StopsAt whole fault
seq-stopped here whole first next fault a step inv = subst (λ j. StopsAt j fault) (sym step ∙ inv) (stopped first next fault a)
