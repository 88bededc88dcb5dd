-- Evaluations with one more call.
use Rattle.std.specs.Prelude.{◌≡◌, suc}
use Rattle.campl_evaluation.specs.Evaluation.{Answer, Done, Deep, Wrong, More}

-- the second ends as the first does, wherever that one ends, with one more call left
abbrev pub Longer : {A : Type 0} → Answer A → Answer A → Type 0
Longer (Done a n) r = r ≡ Done a (suc n)
Longer (Deep n) r = r ≡ Deep (suc n)
Longer (Wrong n) r = r ≡ Wrong (suc n)
Longer More r = Unit {0}
