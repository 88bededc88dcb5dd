-- What is to come of a run is the same after each step.
use Rattle.std.proofs.Common.{◌≡◌, sub-one, ℕ, zero, suc, ◌+◌, ◌-◌, ◌<◌, List, arith, ap, sym, ◌∙◌, subst, refl, true, reverse}
use Rattle.campl_value.specs.Tree.{Tree}
use Rattle.campl_code.specs.Instructions.{Code}
use Rattle.campl_code.specs.Frames.{Frame}
use Rattle.campl_code.specs.Results.{TooDeep, Faulty}
use Rattle.campl_code.specs.Machine.{Next, Goes, Enters, Gives, Breaks, step}
use Rattle.campl_code.specs.Runs.{Outcome, Gave, Pauses, goes_on, run}
use Rattle.campl_eval.specs.Turn.{Answers, Tells, GivesAll, is_entry}
use Rattle.campl_eval.specs.declared.eval.Turn.{Turn}
use Rattle.campl_eval.specs.declared.eval.Turn.TheVariants as T

abbrev pub Same : Code → Frame → List Frame → ℕ → Frame → List Frame → ℕ → Type 0
Same code f fs calls g gs left = (k : ℕ) → (j : ℕ) × (run code j f fs calls ≡ run code k g gs left)

pub same-first : (code : Code) (f : Frame) (fs : List Frame) (calls : ℕ) → Same code f fs calls f fs calls
same-first code f fs calls k = (k, refl)

module _ (code : Code) (f : Frame) (fs : List Frame) (calls : ℕ) (g : Frame) (gs : List Frame) (left : ℕ) (kept : Same code f fs calls g gs left) where
  at : (k : ℕ) (next : Next) → step code g gs ≡ next → (j : ℕ) × (run code j f fs calls ≡ goes_on next g gs (run code k) left)
  at k next e = let a = kept (suc k) in (a.0, a.1 ∙ ap (λ n. goes_on n g gs (run code k) left) e)

  pub goes : (g' : Frame) (gs' : List Frame) → step code g gs ≡ Goes g' gs' → Same code f fs calls g' gs' left
  goes g' gs' e k = at k _ e

  spends : (m : ℕ) (g' : Frame) (gs' : List Frame) (k : ℕ) → 0 < m → goes_on (Enters g' gs') g gs (run code k) m ≡ run code k g' gs' (m - 1)
  spends zero g' gs' k h = absurd (omega (arith, h))
  spends (suc m) g' gs' k h = rw sub-one refl

  pub enters : (g' : Frame) (gs' : List Frame) → 0 < left → step code g gs ≡ Enters g' gs' → Same code f fs calls g' gs' (left - 1)
  enters g' gs' h e k = let a = at k _ e in (a.0, a.1 ∙ spends left g' gs' k h)

  module _ (given spent : ℕ) (room : spent + left ≡ given) where
    tells : (o : Outcome) (turn : Turn) (h : Frame) (hs : List Frame) (s : ℕ) → (j : ℕ) × (run code j f fs calls ≡ o) → Tells o given turn h hs s → Answers code f fs calls given turn h hs s
    tells o turn h hs s a t = (a.0, subst (λ (x : Outcome). Tells x given turn h hs s) (sym a.1) t)

    pub gives : (h h' : Frame) (hs : List Frame) (s : ℕ) (vs : List Tree) (turn : Turn) → step code g gs ≡ Gives h vs → Tells (Gave h.at h.vars vs left) given turn h' hs s → Answers code f fs calls given turn h' hs s
    gives h h' hs s vs turn e t = tells _ turn h' hs s (at 0 _ e) t

    pub gives-all : (h h' : Frame) (hs : List Frame) (s : ℕ) (turn : Turn) → step code g gs ≡ Gives h (reverse h.stack) → GivesAll turn (reverse h.stack) spent → h'.at ≡ h.at → h'.vars ≡ h.vars → Answers code f fs calls given turn h' hs s
    gives-all h h' hs s (T.Done vs n) e t p q = let r : n + left ≡ given = omega (arith, t.1, room) in gives h h' hs s (reverse h.stack) (T.Done vs n) e (t.0, p, q, r)
    gives-all h h' hs s T.More e t p q = absurd t
    gives-all h h' hs s (T.TooDeep n) e t p q = absurd t
    gives-all h h' hs s (T.Faulty n) e t p q = absurd t

    pub too-deep : (h : Frame) (hs : List Frame) (s : ℕ) → step code g gs ≡ Breaks TooDeep → Answers code f fs calls given (T.TooDeep spent) h hs s
    too-deep h hs s e = tells _ (T.TooDeep spent) h hs s (at 0 _ e) room

    pub faulty : (h : Frame) (hs : List Frame) (s : ℕ) → step code g gs ≡ Breaks Faulty → Answers code f fs calls given (T.Faulty spent) h hs s
    faulty h hs s e = tells _ (T.Faulty spent) h hs s (at 0 _ e) room

    pub pauses : left ≡ 0 → is_entry (step code g gs) ≡ true → Answers code f fs calls given T.More g gs spent
    pauses z h = by (step code g gs) refl h
      where
        stays : (m : ℕ) (h : Frame) (hs : List Frame) → m ≡ 0 → goes_on (Enters h hs) g gs (run code 0) m ≡ Pauses g gs
        stays zero h hs e = refl
        stays (suc m) h hs e = absurd cc

        by : (next : Next) → step code g gs ≡ next → is_entry next ≡ true → Answers code f fs calls given T.More g gs spent
        by (Goes h hs) e t = absurd cc
        by (Enters h hs) e t = let a = at 0 _ e in tells _ T.More g gs spent (a.0, a.1 ∙ stays left h hs z) (refl, refl, omega (arith, room, z))
        by (Gives h vs) e t = absurd cc
        by (Breaks b) e t = absurd cc
