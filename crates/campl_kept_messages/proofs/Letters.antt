-- Messages without ends: sending or taking one leaves the pairs of ends that are owed.
use Rattle.std.proofs.Common.{◌≡◌, ◌≢◌, true, List, [], ◌∷◌, ◌++◌, inl, inr, refl, sym, ap, subst, Some, None}
use Rattle.campl_machine.specs.Names.{End, same_end}
use Rattle.campl_machine.specs.Machine.{sent, taken}
use Rattle.campl_machine.proofs.Updates.{split}
use Rattle.campl_machine.proofs.Same.{same_end-is, same_end-refl}
use Rattle.campl_machine.proofs.Ends.{apart}
use Rattle.campl_meaning.specs.States.{Message, Word, Pick, EndPair}
use Rattle.campl_meaning.specs.Reductions.{Configuration}
use Rattle.campl_meaning.specs.Apart.{IsCarried, owes_pair}
use Rattle.campl_meaning.proofs.Pairs.{carried-left}

-- the same pairs of ends are owed
pub record SamePairs (c : Configuration) (owed2 : End → List Message) : Type 0 where
  pub unpaired : (z : End) → c.partner z ≡ None → owed2 z ≡ c.owed z
  pub carried_to : (z e : End) → IsCarried (c.owed z) e → IsCarried (owed2 z) e
  pub carried_from : (z e : End) → IsCarried (owed2 z) e → IsCarried (c.owed z) e
  pub owes : (z : End) → owes_pair (owed2 z) ≡ owes_pair (c.owed z)

abbrev pub IsLetter : Message → Type 0
IsLetter (Word v) = Unit {0}
IsLetter (Pick n) = Unit {0}
IsLetter (EndPair e f) = ⊥

-- A letter behind others

letter-behind : (ms : List Message) (m : Message) (x : End) → IsLetter m → IsCarried (ms ++ (m ∷ [])) x → IsCarried ms x
letter-behind [] (Word v) x l h = h
letter-behind [] (Pick n) x l h = h
letter-behind [] (EndPair e f) x l h = absurd l
letter-behind (Word v ∷ ms) m x l h = letter-behind ms m x l h
letter-behind (Pick n ∷ ms) m x l h = letter-behind ms m x l h
letter-behind (EndPair e f ∷ ms) m x l (inl h) = inl h
letter-behind (EndPair e f ∷ ms) m x l (inr (inl h)) = inr (inl h)
letter-behind (EndPair e f ∷ ms) m x l (inr (inr h)) = inr (inr (letter-behind ms m x l h))

owes-behind : (ms : List Message) (m : Message) → IsLetter m → owes_pair (ms ++ (m ∷ [])) ≡ owes_pair ms
owes-behind [] (Word v) l = refl
owes-behind [] (Pick n) l = refl
owes-behind [] (EndPair e f) l = absurd l
owes-behind (Word v ∷ ms) m l = owes-behind ms m l
owes-behind (Pick n ∷ ms) m l = owes-behind ms m l
owes-behind (EndPair e f ∷ ms) m l = refl

pub pair-before : (ms : List Message) (m : Message) (before : List Message) (a b : End) (after : List Message) → IsLetter m
    → ms ++ (m ∷ []) ≡ before ++ (EndPair a b ∷ after) → (rest : List Message) × (ms ≡ before ++ (EndPair a b ∷ rest))
pair-before [] m [] a b after l e = let q : m ≡ EndPair a b = cc e in absurd (subst IsLetter q l)
pair-before [] m (x ∷ []) a b after l e = absurd (cc e)
pair-before [] m (x ∷ (y ∷ before)) a b after l e = absurd (cc e)
pair-before (x ∷ ms) m [] a b after l e = let q : x ≡ EndPair a b = cc e in (ms, ap (λ z. z ∷ ms) q)
pair-before (x ∷ ms) m (y ∷ before) a b after l e =
    let q : x ≡ y = cc e in
    let (rest, i) = pair-before ms m before a b after l (cc e) in
    (rest, (λ k. q k ∷ i k))

-- A letter before others

pub letter-before : (m : Message) (ms : List Message) (x : End) → IsLetter m → IsCarried (m ∷ ms) x → IsCarried ms x
letter-before (Word v) ms x l h = h
letter-before (Pick n) ms x l h = h
letter-before (EndPair e f) ms x l h = absurd l

pub more-before : (m : Message) (ms : List Message) (x : End) → IsLetter m → IsCarried ms x → IsCarried (m ∷ ms) x
more-before (Word v) ms x l h = h
more-before (Pick n) ms x l h = h
more-before (EndPair e f) ms x l h = absurd l

owes-before : (m : Message) (ms : List Message) → IsLetter m → owes_pair (m ∷ ms) ≡ owes_pair ms
owes-before (Word v) ms l = refl
owes-before (Pick n) ms l = refl
owes-before (EndPair e f) ms l = absurd l

-- What is owed after a send, or a receipt

module _ (c : Configuration) (e : End) where
  pub sent-here : (m : Message) → sent (Some (e, m)) c.owed e ≡ c.owed e ++ (m ∷ [])
  sent-here m = rw (same_end-refl e) refl

  pub sent-other : (m : Message) (a : End) → e ≢ a → sent (Some (e, m)) c.owed a ≡ c.owed a
  sent-other m a n = rw (apart e a n) refl

  pub taken-here : (m : Message) (rest : List Message) → c.owed e ≡ m ∷ rest → taken true e c.owed e ≡ rest
  taken-here m rest i = rw (same_end-refl e, i) refl

  pub taken-other : (a : End) → e ≢ a → taken true e c.owed a ≡ c.owed a
  taken-other a n = rw (apart e a n) refl

  pub send-pairs : (f : End) (m : Message) → c.partner e ≡ Some f → IsLetter m → SamePairs c (sent (Some (e, m)) c.owed)
  send-pairs f m pe l = record {
    unpaired = λ z pz. sent-other m z (λ i. cc (pe, pz, i));
    carried_to = λ z x h. elim (split (same_end e z)) [
      | inl i ↦ rw i (carried-left (c.owed z) (m ∷ []) x h)
      | inr i ↦ rw i h
    ];
    carried_from = λ z x h. elim (split (same_end e z)) [
      | inl i ↦ letter-behind (c.owed z) m x l (rw i at h)
      | inr i ↦ rw i at h
    ];
    owes = λ z. elim (split (same_end e z)) [
      | inl i ↦ rw i (owes-behind (c.owed z) m l)
      | inr i ↦ rw i refl
    ];
  }

  pub take-pairs : (f : End) (m : Message) (rest : List Message) → c.partner e ≡ Some f → c.owed e ≡ m ∷ rest → IsLetter m → SamePairs c (taken true e c.owed)
  take-pairs f m rest pe i l = record {
    unpaired = λ z pz. taken-other z (λ i. cc (pe, pz, i));
    carried_to = λ z x h. elim (split (same_end e z)) [
      | inl j ↦
          let k : c.owed z ≡ m ∷ rest = subst (λ y. c.owed y ≡ m ∷ rest) (same_end-is e z j) i in
          rw (j, k) (letter-before m rest x l (rw k at h))
      | inr j ↦ rw j h
    ];
    carried_from = λ z x h. elim (split (same_end e z)) [
      | inl j ↦
          let k : c.owed z ≡ m ∷ rest = subst (λ y. c.owed y ≡ m ∷ rest) (same_end-is e z j) i in
          rw k (more-before m rest x l (rw (j, k) at h))
      | inr j ↦ rw j at h
    ];
    owes = λ z. elim (split (same_end e z)) [
      | inl j ↦
          let k : c.owed z ≡ m ∷ rest = subst (λ y. c.owed y ≡ m ∷ rest) (same_end-is e z j) i in
          rw (j, k) (sym (owes-before m rest l))
      | inr j ↦ rw j refl
    ];
  }
