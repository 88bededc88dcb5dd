-- What the rules of expressions and patterns answer, as what judging a process answers.
use Rattle.campl_seqcheck.specs.declared.fault.SeqFault.{SeqFault}
use Rattle.campl_seqcheck.specs.Judged.{Judged, Is, Fails}
use Rattle.campl_linear.specs.Faults.{LinFault, Seq}

abbrev pub from_seq : {A : Type 0} → Judged SeqFault A → Judged LinFault A
from_seq (Is x) = Is x
from_seq (Fails fault) = Fails (Seq fault)
