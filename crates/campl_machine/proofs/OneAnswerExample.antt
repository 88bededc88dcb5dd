-- A program of two processes to which the law of one answer applies: it may send before or after it receives, and ends alike.
use Rattle.std.proofs.Common.{◌≡◌, ◌≢◌, ℕ, zero, suc, true, ◌⊎◌, inl, inr, refl, sym, ap, subst, ◌∙◌, Option, Some, None, if◌then◌else◌, eqb, ◌&&◌}
use Rattle.campl_machine.specs.Names.{End, Who, same_who}
use Rattle.campl_machine.specs.Machine.{Config, Act, Stands, moved, looked, performs}
use Rattle.campl_machine.specs.Independence.{Independent, NotBoth, only_sends}
use Rattle.campl_machine.specs.Graph.{Mutual}
use Rattle.campl_machine.specs.Programs.{reduce, reduce_state, Steps, KeepsApart}
use Rattle.campl_machine.specs.Runs.{Run, Stuck, AllEndAt}
use Rattle.campl_machine.proofs.Same.{same_who-is}
use Rattle.campl_machine.proofs.Updates.{split, both}
use Rattle.campl_machine.proofs.Ends.{unlike}
use Rattle.campl_machine.proofs.Performs.{does_of}
use Rattle.campl_machine.proofs.Meeting.{back-independent}
use Rattle.campl_machine.proofs.Beside.{independent, sends-on}
use Rattle.campl_machine.proofs.OneAnswer.{program-answer}
use Rattle.campl_machine.proofs.Examples.{sender, receiver, near, far, two, two-paired, put, get}

-- the sender has sent 7 already, and goes on in state 0
abbrev begin : Config ℕ ℕ
begin = moved two sender (only_sends (near 1) 7 (Some 0))

-- in state 0 the sender sends 8, and the receiver waits for a number; neither does more
abbrev program : Who → ℕ → ℕ → Act ℕ ℕ
program w s i = if same_who sender w && eqb s 0 then put (near 1) 8 else if same_who receiver w && eqb s 0 then get (far 1) else Stands

-- the steps of the program
Kinds : Who → Act ℕ ℕ → Type 0
Kinds w A = ((sender ≡ w) × (A ≡ put (near 1) 8)) ⊎ ((receiver ≡ w) × (A ≡ get (far 1))) ⊎ (A ≡ Stands)

-- each step is one of them
kinds : (w : Who) (s i : ℕ) → Kinds w (program w s i)
unfolding Kinds
kinds w s i = elim (split (same_who sender w && eqb s 0)) [
  | inl a ↦ inl (same_who-is sender w (both _ _ a).0, rw a refl)
  | inr a ↦ elim (split (same_who receiver w && eqb s 0)) [
    | inl b ↦ inr (inl (same_who-is receiver w (both _ _ b).0, rw (a, b) refl))
    | inr b ↦ inr (inr (rw (a, b) refl))
  ]
]

-- the two processes use different ends
send-and-get : (c : Config ℕ ℕ) (p q : Who) → p ≢ q → Independent c p (put (near 1) 8) q (get (far 1))
send-and-get c p q n = independent c p q (put (near 1) 8) (get (far 1)) n (refl, refl) tt (λ e u v. unlike (near 1) (far 1) refl (sends-on {S = ℕ} {M = ℕ} (near 1) e 8 (Some 1) u ∙ v))

-- so the program keeps its steps apart wherever the channel is as at the start
keeps-apart : (c : Config ℕ ℕ) → c.partner ≡ two.partner → KeepsApart program c
unfolding Kinds
keeps-apart c e = record {
  paired = subst (λ (f : End → Option End). Mutual f) (sym e) two-paired;
  apart = λ p q s t i j b d n ps qt f g. steps p q (program p s i) (program q t j) b d n (kinds p s i) (kinds q t j) f g;
}
  where
    steps : (p q : Who) (A B : Act ℕ ℕ) (b d : Config ℕ ℕ) → p ≢ q → Kinds p A → Kinds q B → performs c p A ≡ Some b → performs c q B ≡ Some d → Independent c p A q B × NotBoth c A B
    steps p q A B b d n (inl (i, x)) (inl (j, y)) f g = absurd (n (sym i ∙ j))
    steps p q A B b d n (inl (i, x)) (inr (inl (j, y))) f g = rw (x, y) (send-and-get c p q n, tt)
    steps p q A B b d n (inr (inl (i, x))) (inl (j, y)) f g = rw (x, y) (swapped (send-and-get c q p (λ k. n (sym k))), tt)
      where
        swapped : Independent c q (put (near 1) 8) p (get (far 1)) → Independent c p (get (far 1)) q (put (near 1) 8)
        swapped s = back-independent c q p (put (near 1) 8) (get (far 1)) s
    steps p q A B b d n (inr (inl (i, x))) (inr (inl (j, y))) f g = absurd (n (sym i ∙ j))
    steps p q A B b d n (inr (inr x)) k f g = let z : None ≡ Some b = rw x at f in absurd (cc z)
    steps p q A B b d n (inl (i, x)) (inr (inr y)) f g = let z : None ≡ Some d = rw y at g in absurd (cc z)
    steps p q A B b d n (inr (inl (i, x))) (inr (inr y)) f g = let z : None ≡ Some d = rw y at g in absurd (cc z)

-- no step changes the channel
channel-stays : (c d : Config ℕ ℕ) (w : Who) (A : Act ℕ ℕ) → Kinds w A → performs c w A ≡ Some d → d.partner ≡ c.partner
unfolding Kinds
channel-stays c d w A (inl (i, x)) f =
    let z : Some (moved c w (only_sends (near 1) 8 (Some 1))) ≡ Some d = rw x at f in
    let q : moved c w (only_sends (near 1) 8 (Some 1)) ≡ d = cc z in
    sym (ap (λ (k : Config ℕ ℕ). k.partner) q)
channel-stays c d w A (inr (inl (i, x))) f =
    let g : performs c w (get (far 1)) ≡ Some d = rw x at f in
    let (z, m, rest, s, pz, is, fits, q) = does_of c w (get (far 1)) d g in
    ap (λ (k : Config ℕ ℕ). k.partner) q
channel-stays c d w A (inr (inr x)) f = let z : None ≡ Some d = rw x at f in absurd (cc z)

-- so it is in one reduction
one-step : (c d : Config ℕ ℕ) (w : Who) → reduce program c w 0 ≡ Some d → d.partner ≡ c.partner
one-step c d w r = go (c.nodes w) r
  where
    go : (o : Option ℕ) → reduce_state program c w 0 o ≡ Some d → d.partner ≡ c.partner
    go None f = absurd (cc f)
    go (Some s) f = channel-stays c d w (program w s 0) (kinds w s 0) f

-- and in a run
reached : (n : ℕ) (a c : Config ℕ ℕ) → Run (Steps program 0) n a c → c.partner ≡ a.partner
reached zero a c e = ap (λ (k : Config ℕ ℕ). k.partner) (sym e)
reached (suc n) a c (w, x, r, run) = reached n x c run ∙ one-step a x w r

-- both have done what they want
abbrev finish : Config ℕ ℕ
finish = looked (moved begin sender (only_sends (near 1) 8 (Some 1))) receiver true (near 1) 107

-- the sender first, then the receiver
two-steps : Run (Steps program 0) 2 begin finish
two-steps = (sender, moved begin sender (only_sends (near 1) 8 (Some 1)), refl, (receiver, finish, refl, refl))

-- then neither goes on
finished : Stuck (Steps program 0) finish
finished w c f = elim (split (same_who receiver w)) [
  | inl i ↦ subst (λ k. reduce program finish k 0 ≡ Some c → ⊥) (same_who-is receiver w i) (λ h. absurd (cc h)) f
  | inr i ↦ elim (split (same_who sender w)) [
    | inl j ↦ subst (λ k. reduce program finish k 0 ≡ Some c → ⊥) (same_who-is sender w j) (λ h. absurd (cc h)) f
    | inr j ↦ let z : None ≡ Some c = rw (i, j) at f in absurd (cc z)
  ]
]

-- whichever goes first, the receiver has 7, and 8 is owed
all-end-alike : AllEndAt (Steps program 0) begin finish 2
all-end-alike = program-answer program 0 begin (λ c (n, run). keeps-apart c (reached n begin c run)) finish 2 two-steps finished
