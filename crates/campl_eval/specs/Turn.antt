-- What a turn of the evaluator says of the machine's run.
use Rattle.std.specs.Prelude.{◌≡◌, ℕ, ◌+◌, Bool, true, false, List}
use Rattle.campl_evaluation.specs.Evaluation.{Answer, Done, Deep, Wrong, More}
use Rattle.campl_value.specs.Tree.{Tree}
use Rattle.campl_code.specs.Instructions.{Code}
use Rattle.campl_code.specs.Frames.{Frame}
use Rattle.campl_code.specs.Results.{TooDeep, Faulty}
use Rattle.campl_code.specs.Machine.{Next, Enters}
use Rattle.campl_code.specs.Runs.{Outcome, Gave, Broke, Pauses, run, Follows}
use Rattle.campl_eval.specs.declared.eval.Turn.{Turn}
use Rattle.campl_eval.specs.declared.eval.Turn.TheVariants as T

-- the run's end, with the calls that are spent; where it ended at a process's instruction, the frame's place and variables
abbrev pub Tells : Outcome → (given : ℕ) → Turn → Frame → List Frame → (spent : ℕ) → Type 0
Tells (Gave at vars values left) given (T.Done vs s) f fs spent = (vs.items ≡ values) × (f.at ≡ at) × (f.vars ≡ vars) × (s + left ≡ given)
Tells (Broke TooDeep left) given (T.TooDeep s) f fs spent = s + left ≡ given
Tells (Broke Faulty left) given (T.Faulty s) f fs spent = s + left ≡ given
Tells (Pauses g gs) given T.More f fs spent = (f ≡ g) × (fs ≡ gs) × (spent ≡ given)
Tells _ given turn f fs spent = ⊥

-- of so many instructions
abbrev pub Answers : Code → Frame → List Frame → (calls given : ℕ) → Turn → Frame → List Frame → (spent : ℕ) → Type 0
Answers code f fs calls given turn g gs spent = (k : ℕ) × Tells (run code k f fs calls) given turn g gs spent

abbrev pub is_entry : Next → Bool
is_entry (Enters f fs) = true
is_entry n = false

-- these are the values, after so many calls
abbrev pub GivesAll : Turn → List Tree → ℕ → Type 0
GivesAll (T.Done vs s) values spent = (vs.items ≡ values) × (s ≡ spent)
GivesAll T.More values spent = ⊥
GivesAll (T.TooDeep s) values spent = ⊥
GivesAll (T.Faulty s) values spent = ⊥

-- the evaluation's answer for so many calls; after a pause the machine still follows it
abbrev pub Speaks : Code → (ℕ → Answer (List Tree)) → (given : ℕ) → Turn → Frame → List Frame → Type 0
Speaks code whole given (T.Done vs s) f fs = (left : ℕ) × (s + left ≡ given) × (whole given ≡ Done vs.items left)
Speaks code whole given T.More f fs = (whole given ≡ More) × Follows code f fs given whole
Speaks code whole given (T.TooDeep s) f fs = (left : ℕ) × (s + left ≡ given) × (whole given ≡ Deep left)
Speaks code whole given (T.Faulty s) f fs = (left : ℕ) × (s + left ≡ given) × (whole given ≡ Wrong left)
