-- What judging answers: what was found, or the first fault.

pub data Judged (Fault A : Type 0) : Type 0 where
  Is : A → Judged Fault A
  Fails : Fault → Judged Fault A

-- nothing is found beside that there is no fault
pub data Fine : Type 0 where
  fine : Fine

-- judged in turn: the second only where the first has no fault
abbrev pub and_then : {Fault A B : Type 0} → Judged Fault A → (A → Judged Fault B) → Judged Fault B
and_then (Is x) next = next x
and_then (Fails fault) next = Fails fault
