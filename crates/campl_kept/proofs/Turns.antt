-- What a turn answers is what is kept.
use Rattle.std.proofs.Common.{◌≡◌, ℕ, List, refl, ◌∙◌}
use Rattle.campl_code.specs.Instructions.{Code}
use Rattle.campl_code.specs.Frames.{Frame}
use Rattle.campl_code.specs.Results.{TooDeep, Faulty}
use Rattle.campl_code.specs.Runs.{Outcome, Gave, Broke, Pauses, Short, run, IsOver}
use Rattle.campl_code_bodies.specs.Commands.{Cell}
use Rattle.campl_code_bodies.specs.Kept.{Kept, Values, AtCall, Broken, kept_of, IsKept, spent_more}
use Rattle.campl_code_bodies.proofs.KeptCells.{kept-goes}
use Rattle.campl_eval.specs.Turn.{Tells, Answers}
use Rattle.campl_eval.specs.declared.eval.Turn.{Turn}
use Rattle.campl_eval.specs.declared.eval.Turn.TheVariants as T
use Rattle.campl_kept.specs.Keeps.{Keeps}

-- what a turn came to, with the frames behind it
abbrev pub turned : Turn → Frame → List Frame → Kept
turned (T.Done vs s) f fs = Values f.at f.vars vs.items
turned T.More f fs = AtCall f fs
turned (T.TooDeep s) f fs = Broken
turned (T.Faulty s) f fs = Broken

over : (o : Outcome) (given : ℕ) (turn : Turn) (f : Frame) (fs : List Frame) (spent : ℕ) → Tells o given turn f fs spent → IsOver o
over (Gave at vars values left) given turn f fs spent t = tt
over (Broke reason left) given turn f fs spent t = tt
over (Pauses g gs) given turn f fs spent t = tt
over Short given turn f fs spent t = absurd t

same : (o : Outcome) (given : ℕ) (turn : Turn) (f : Frame) (fs : List Frame) (spent : ℕ) → Tells o given turn f fs spent → turned turn f fs ≡ kept_of o
same (Gave at vars values left) given (T.Done vs s) f fs spent t = λ i. Values (t.1 i) (t.2 i) (t.0 i)
same (Gave at vars values left) given T.More f fs spent t = absurd t
same (Gave at vars values left) given (T.TooDeep s) f fs spent t = absurd t
same (Gave at vars values left) given (T.Faulty s) f fs spent t = absurd t
same (Broke TooDeep left) given (T.TooDeep s) f fs spent t = refl
same (Broke Faulty left) given (T.Faulty s) f fs spent t = refl
same (Broke TooDeep left) given (T.Faulty s) f fs spent t = absurd t
same (Broke Faulty left) given (T.TooDeep s) f fs spent t = absurd t
same (Broke TooDeep left) given (T.Done vs s) f fs spent t = absurd t
same (Broke Faulty left) given (T.Done vs s) f fs spent t = absurd t
same (Broke TooDeep left) given T.More f fs spent t = absurd t
same (Broke Faulty left) given T.More f fs spent t = absurd t
same (Pauses g gs) given T.More f fs spent t = λ i. AtCall (t.0 i) (t.1 i)
same (Pauses g gs) given (T.Done vs s) f fs spent t = absurd t
same (Pauses g gs) given (T.TooDeep s) f fs spent t = absurd t
same (Pauses g gs) given (T.Faulty s) f fs spent t = absurd t
same Short given turn f fs spent t = absurd t

-- it is kept
pub keeps : (code : Code) (f : Frame) (fs : List Frame) (calls given : ℕ) (turn : Turn) (g : Frame) (gs : List Frame) (spent : ℕ) → Answers code f fs calls given turn g gs spent → Keeps code f fs calls (turned turn g gs)
keeps code f fs calls given turn g gs spent a = (a.0, over (run code a.0 f fs calls) given turn g gs spent a.1, same (run code a.0 f fs calls) given turn g gs spent a.1)

-- a cell that stood before a call keeps it then
pub goes-on : (code : Code) (c : Cell) (f : Frame) (fs : List Frame) (m : ℕ) (kept : Kept) → Keeps code f fs m kept → IsKept code c (AtCall f fs) → IsKept code (spent_more m c) kept
goes-on code c f fs m kept k is = let h = kept-goes code c f fs k.0 m is k.1 in (h.0, h.1, k.2 ∙ h.2)
