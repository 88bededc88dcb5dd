-- Runs of instructions, and how they end.
use Rattle.std.specs.Prelude.{◌≡◌, ℕ, zero, suc, ◌+◌, List, length}
use Rattle.campl_value.specs.Tree.{Tree}
use Rattle.campl_evaluation.specs.Evaluation.{Answer, Done, Deep, Wrong, More}
use Rattle.campl_types.specs.Matching.{Bindings}
use Rattle.campl_code.specs.Numbers.{Numbers, Framed}
use Rattle.campl_code.specs.Instructions.{Code}
use Rattle.campl_code.specs.Frames.{Frame}
use Rattle.campl_code.specs.Results.{Break, Faulty, TooDeep}
use Rattle.campl_code.specs.Machine.{Breaks, Enters, Gives, Goes, Next, step}

-- how it ends: at a process's instruction, with its place, the variables and the values; by a break, both with the
-- calls that are left; before a call for which none is left; or it hasn't ended
pub data Outcome : Type 0 where
  Gave : (at : ℕ) (vars values : List Tree) (left : ℕ) → Outcome
  Broke : Break → ℕ → Outcome
  Pauses : Frame → List Frame → Outcome
  Short : Outcome

abbrev pub Going : Type 0
Going = Frame → List Frame → ℕ → Outcome

abbrev pub goes_on : Next → Frame → List Frame → Going → ℕ → Outcome
goes_on (Goes g gs) f fs next m = next g gs m
goes_on (Enters g gs) f fs next zero = Pauses f fs
goes_on (Enters g gs) f fs next (suc m) = next g gs m
goes_on (Gives g vs) f fs next m = Gave g.at g.vars vs m
goes_on (Breaks b) f fs next m = Broke b m

-- at most k instructions and m calls
abbrev pub run : Code → ℕ → Going
run code zero f fs m = Short
run code (suc k) f fs m = goes_on (step code f fs) f fs (run code k) m

-- a run ends as an evaluation does
abbrev pub Says : Outcome → Answer (List Tree) → Type 0
Says (Gave at vars vs left) r = r ≡ Done vs left
Says (Broke TooDeep left) r = r ≡ Deep left
Says (Broke Faulty left) r = r ≡ Wrong left
Says (Pauses f fs) r = r ≡ More
Says Short r = ⊥

-- a run ends at this instruction, with this many values and the variables where they were, or as an evaluation does
abbrev pub Arrives : ℕ → ℕ → Numbers → Bindings → (q : ℕ) → Outcome → Answer (List Tree) → Type 0
Arrives size count ns env q o (Done vs left) = (vars : List Tree) × (o ≡ Gave q vars vs left) × Framed size ns env vars × (length vs ≡ count)
Arrives size count ns env q o (Deep left) = o ≡ Broke TooDeep left
Arrives size count ns env q o (Wrong left) = o ≡ Broke Faulty left
Arrives size count ns env q o More = (f : Frame) × (fs : List Frame) × (o ≡ Pauses f fs)

-- from here the machine ends as `whole` says of all calls that are given, where `spent` were given before
abbrev pub Follows : Code → Frame → List Frame → ℕ → (ℕ → Answer (List Tree)) → Type 0
Follows code f fs spent whole = (m : ℕ) → (k : ℕ) × Says (run code k f fs m) (whole (spent + m))

abbrev pub IsOver : Outcome → Type 0
IsOver (Gave at vars vs left) = Unit {0}
IsOver (Broke b left) = Unit {0}
IsOver (Pauses f fs) = Unit {0}
IsOver Short = ⊥
