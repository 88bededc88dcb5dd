-- What judging answers, in turn.
use Rattle.std.proofs.Common.{◌≡◌, ◌∙◌, refl, sym, ap, subst, inl, inr, Result}
use Rattle.campl_seqcheck.specs.declared.fault.SeqFault.{SeqFault}
use Rattle.campl_seqcheck.specs.declared.fault.SeqFault.TheVariants as s
use Rattle.campl_seqcheck.specs.Judged as seq
use Rattle.campl_seqcheck.specs.Answered as seq_answered
use Rattle.campl_linear.specs.Faults as plain
use Rattle.campl_seqcheck.specs.Judged.{Judged, Fails, and_then}
use Rattle.campl_linear.specs.Judged.{from_seq}
use Rattle.campl_held.specs.declared.fault.LinFault.{LinFault}
use Rattle.campl_held.specs.Answered.{Tells, Refused, Answers, from_fault}

-- a refusal that was told
pub refused : {B : Type 0} (j : Judged plain.LinFault B) (fault : plain.LinFault) (told : LinFault) → j ≡ Fails fault → Tells fault told → Refused j told
refused j fault told i (inl e) = inl (i ∙ ap (λ g. Fails g) (sym e))
refused j fault told i (inr e) = inr e

-- a refusal stays one with what would come next
pub stopped : {B C : Type 0} (first : Judged plain.LinFault C) (next : C → Judged plain.LinFault B) (fault : LinFault) → Refused first fault → Refused (and_then first next) fault
stopped first next fault (inl e) = inl (ap (λ h. and_then h next) e)
stopped first next fault (inr e) = inr e

-- what is answered for another judging that is the same
pub follows : {A B : Type 0} (seen : A → B) (j k : Judged plain.LinFault B) (r : Result A LinFault) → j ≡ k → Answers seen k r → Answers seen j r
follows seen j k r i a = subst (λ h. Answers seen h r) (sym i) a

-- a fault of the sequential rules
pub from-seq : {B : Type 0} (j : seq.Judged SeqFault B) (fault : SeqFault) → seq_answered.StopsAt j fault → Refused (from_seq j) (from_fault fault)
from-seq j fault (inr e) = inr (ap from_fault e)
from-seq j (s.TypeDiffers at found wanted) (inl e) = inl (ap from_seq e)
from-seq j (s.NeedsType at) (inl e) = inl (ap from_seq e)
from-seq j (s.NotExhaustive at missing) (inl e) = inl (ap from_seq e)
from-seq j (s.ArgumentCount at found wanted) (inl e) = inl (ap from_seq e)
from-seq j (s.NameTwiceInPattern at x) (inl e) = inl (ap from_seq e)
from-seq j s.OutOfMemory (inl e) = inr refl

pub ruleset sequential = (from-seq)
