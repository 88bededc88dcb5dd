-- What the evaluation of a process's next command says.
use Rattle.std.specs.Prelude.{◌≡◌, ℕ}
use Rattle.campl_tree.specs.Plain.Process as b
use Rattle.campl_tree.specs.Plain.Process.{Body}
use Rattle.campl_types.specs.World.{World}
use Rattle.campl_evaluation.specs.Evaluation.{Answer, Deep, Wrong, value_of, values_of}
use Rattle.campl_peel.specs.Terms.{Term, Doing, Plugging}
use Rattle.campl_meaning.specs.States.{Running}

abbrev IsDeep : {A : Type 0} → Answer A → Type 0
IsDeep a = (left : ℕ) × (a ≡ Deep left)

abbrev IsWrong : {A : Type 0} → Answer A → Type 0
IsWrong a = (left : ℕ) × (a ≡ Wrong left)

-- the next command of a body has expressions, and their evaluation says Deep
abbrev pub BodyIsDeep : World → Running → Body → Type 0
BodyIsDeep w r (b.Then (b.Put at a x) rest) = IsDeep (value_of w a r.variables r.spent)
BodyIsDeep w r (b.Case at a rows) = IsDeep (value_of w a r.variables r.spent)
BodyIsDeep w r (b.Call at x args inputs outputs) = IsDeep (values_of w args r.variables r.spent)
BodyIsDeep w r _ = ⊥

-- the same, where it says Wrong
abbrev pub BodyIsWrong : World → Running → Body → Type 0
BodyIsWrong w r (b.Then (b.Put at a x) rest) = IsWrong (value_of w a r.variables r.spent)
BodyIsWrong w r (b.Case at a rows) = IsWrong (value_of w a r.variables r.spent)
BodyIsWrong w r (b.Call at x args inputs outputs) = IsWrong (values_of w args r.variables r.spent)
BodyIsWrong w r _ = ⊥

abbrev pub TermIsDeep : World → Running → Term → Type 0
TermIsDeep w r (Doing body) = BodyIsDeep w r body
TermIsDeep w r (Plugging links parts) = ⊥

abbrev pub TermIsWrong : World → Running → Term → Type 0
TermIsWrong w r (Doing body) = BodyIsWrong w r body
TermIsWrong w r (Plugging links parts) = ⊥

-- the evaluation of the process's next command says Deep
abbrev pub SaysDeep : World → Running → Type 0
SaysDeep w r = TermIsDeep w r r.term

-- the evaluation of the process's next command says Wrong
abbrev pub SaysWrong : World → Running → Type 0
SaysWrong w r = TermIsWrong w r r.term
