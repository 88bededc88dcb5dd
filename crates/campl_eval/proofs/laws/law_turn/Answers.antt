use Rattle.std.proofs.Common.{◌≡◌, ◌∙◌, sym, ap, subst, refl, ℕ, ◌+◌, List}
use Rattle.campl_value.specs.Tree.{Tree}
use Rattle.campl_evaluation.specs.Evaluation.{Answer, Done}
use Rattle.campl_code.specs.Instructions.{Code}
use Rattle.campl_code.specs.Frames.{Frame}
use Rattle.campl_code.specs.Results.{TooDeep, Faulty}
use Rattle.campl_code.specs.Runs.{Outcome, Gave, Broke, Pauses, Short, run, Follows, Says, IsOver}
use Rattle.campl_code.proofs.Resume.{over-follows, resumed}
use Rattle.campl_eval.specs.Turn.{Tells, Speaks}
use Rattle.campl_eval.specs.declared.eval.Turn.{Turn}
use Rattle.campl_eval.specs.declared.eval.Turn.TheVariants as T
use Rattle.campl_eval.proofs.laws.law_turn.Goals as goal

module _ (code : Code) (f : Frame) (fs : List Frame) (before calls : ℕ) (whole : ℕ → Answer (List Tree)) (g : Frame) (gs : List Frame) (spent : ℕ) (follows : Follows code f fs before whole) (k : ℕ) where
  says : (o : Outcome) → run code k f fs calls ≡ o → IsOver o → Says o (whole (before + calls))
  says o e over = subst (λ (x : Outcome). Says x (whole (before + calls))) e (over-follows code f fs before whole k calls follows (subst IsOver (sym e) over))

  speaks : (o : Outcome) (turn : Turn) → run code k f fs calls ≡ o → Tells o (before + calls) turn g gs spent → Speaks code whole (before + calls) turn g gs
  speaks (Gave at vars values left) (T.Done vs s) e t = (left, t.3, says (Gave at vars values left) e tt ∙ ap (λ l. Done l left) (sym t.0))
  speaks (Gave at vars values left) T.More e t = absurd t
  speaks (Gave at vars values left) (T.TooDeep s) e t = absurd t
  speaks (Gave at vars values left) (T.Faulty s) e t = absurd t
  speaks (Broke TooDeep left) (T.TooDeep s) e t = (left, t, says (Broke TooDeep left) e tt)
  speaks (Broke Faulty left) (T.Faulty s) e t = (left, t, says (Broke Faulty left) e tt)
  speaks (Broke TooDeep left) (T.Faulty s) e t = absurd t
  speaks (Broke Faulty left) (T.TooDeep s) e t = absurd t
  speaks (Broke TooDeep left) (T.Done vs s) e t = absurd t
  speaks (Broke Faulty left) (T.Done vs s) e t = absurd t
  speaks (Broke TooDeep left) T.More e t = absurd t
  speaks (Broke Faulty left) T.More e t = absurd t
  speaks (Pauses h hs) T.More e t =
      (says (Pauses h hs) e tt, resumed code f fs before whole k calls g gs follows (e ∙ ap (λ x. Pauses x hs) (sym t.0) ∙ ap (Pauses g) (sym t.1)))
  speaks (Pauses h hs) (T.Done vs s) e t = absurd t
  speaks (Pauses h hs) (T.TooDeep s) e t = absurd t
  speaks (Pauses h hs) (T.Faulty s) e t = absurd t
  speaks Short turn e t = absurd t

pub returns : goal.returns
returns c = λ code f fs before calls whole turn g gs spent follows answers. speaks code f fs before calls whole g gs spent follows answers.0 (run code answers.0 f fs calls) turn refl answers.1
