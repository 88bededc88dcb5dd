-- What it tells that a command was performed.
use Rattle.std.proofs.Common.{◌≡◌, ◌⊎◌, inl, inr, refl, ℕ, suc, Bool, true, false, Option, Some, None, if◌then◌else◌}
use Rattle.campl_machine.specs.Names.{Path, End, Process}
use Rattle.campl_machine.specs.Machine.{Does}
use Rattle.campl_evaluation.specs.Evaluation.{Answer, Done, Deep, Wrong, More}
use Rattle.campl_meaning.specs.States.{Running, Kind, Command}
use Rattle.campl_meaning.specs.Wants.{with_found, with_answer}
use Rattle.campl_meaning.specs.Reductions.{Configuration}
use Rattle.campl_kept_quiet.specs.Quiet.{behind}

-- one more call is spent
abbrev pub spent_more : Running → Running
spent_more r = record { term = r.term; variables = r.variables; ends = r.ends; steps = suc r.steps; spent = suc r.spent }

module _ (c : Configuration) (p : Path) (r : Running) (d : Configuration) where
  pub found-does : {A : Type 0} (kind : Kind) (o : Option A) (f : A → Command) → Does c (Process p) (with_found kind o f).act d → (a : A) × (o ≡ Some a) × Does c (Process p) (f a).act d
  found-does kind None f h = absurd h
  found-does kind (Some a) f h = (a, refl, h)

  pub answer-does : {A : Type 0} (kind : Kind) (end : Option End) (o : Answer A) (f : A → Command) → Does c (Process p) (with_answer r kind end o f).act d
      → ((a : A) × (left : ℕ) × (o ≡ Done a left) × Does c (Process p) (f a).act d) ⊎ (d ≡ behind c p (Some (spent_more r)))
  answer-does kind end (Done a left) f h = inl (a, left, refl, h)
  answer-does kind end (Deep left) f h = absurd h
  answer-does kind end (Wrong left) f h = absurd h
  answer-does kind end More f h = inr h

  pub if-does : (t : Bool) (A B : Command) → Does c (Process p) (if t then A else B).act d → (Does c (Process p) B.act d → ⊥) → Does c (Process p) A.act d
  if-does true A B h n = h
  if-does false A B h n = absurd (n h)
