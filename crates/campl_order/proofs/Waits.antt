-- What waking, resting and births leave of what the tables keep.
use Rattle.std.proofs.Common.{◌≡◌, ◌≢◌, ◌<◌, ◌≤◌, inl, inr, ℕ, zero, suc, Bool, true, false, List, [], ◌∷◌, Option, Some, None, length, set, refl, sym, ap, subst, ◌∙◌, arith, get_or-set_other, get_or-set_same, true≢false}
use Rattle.campl_order.specs.Boards.{is_flagged}
use Rattle.campl_order.specs.Waiting.{Keeps, waiter, flags_woken}
use Rattle.campl_order.proofs.Matches.{same}

module _ (still : ℕ → Type 0) (waits : ℕ → ℕ → Type 0) where
  -- an end where something changed is dealt with: who waits there is flagged, and nobody waits there any more
  pub keeps-woken : (flags : List Bool) (waiting : List (Option ℕ)) (count e : ℕ) (changed : List ℕ) → ((i : ℕ) → waiter waiting e ≡ Some i → i < length flags) →
      Keeps still waits flags waiting count (e ∷ changed) → Keeps still waits (flags_woken (waiter waiting e) flags) (set waiting e None) count changed
  keeps-woken flags waiting count e changed there k = go (waiter waiting e) refl
    where
      none : waiter waiting e ≡ None → Keeps still waits flags (set waiting e None) count changed
      none is = record {
        stuck = λ i hi fi free. k.stuck i hi fi (λ x g h. elim g [
          | inl r ↦ (let f : None ≡ Some i = sym is ∙ k.known i hi fi e (subst (waits i) (sym r) h) in let z : ⊥ = cc in z)
          | inr r ↦ free x r h
        ]);
        known = λ i hi fi x h. elim (same x e) [
          | inl r ↦ absurd (let f : None ≡ Some i = sym is ∙ k.known i hi fi e (subst (waits i) r h) in let z : ⊥ = cc in z)
          | inr r ↦ get_or-set_other waiting e x None None r ∙ k.known i hi fi x h
        ];
      }

      go : (o : Option ℕ) → waiter waiting e ≡ o → Keeps still waits (flags_woken o flags) (set waiting e None) count changed
      go None is = none is
      go (Some q) is = record {
        stuck = λ i hi fi free. k.stuck i hi (old i fi) (λ x g h. elim g [ inl r ↦ elsewhere i hi fi (subst (waits i) (sym r) h) | inr r ↦ free x r h ]);
        known = λ i hi fi x h.
            let ne : x ≢ e = (λ r. elsewhere i hi fi (subst (waits i) r h)) in
            get_or-set_other waiting e x None None ne ∙ k.known i hi (old i fi) x h;
      }
        where
          not-q : (i : ℕ) → is_flagged (set flags q true) i ≡ false → i ≢ q
          not-q i fi r = true≢false (sym (get_or-set_same flags q true false (there q is)) ∙ (ap (is_flagged (set flags q true)) (sym r) ∙ fi))

          old : (i : ℕ) → is_flagged (set flags q true) i ≡ false → is_flagged flags i ≡ false
          old i fi = sym (get_or-set_other flags q i true false (not-q i fi)) ∙ fi

          elsewhere : (i : ℕ) → i < count → is_flagged (set flags q true) i ≡ false → waits i e → ⊥
          elsewhere i hi fi h =
              let f : Some q ≡ Some i = sym is ∙ k.known i hi (old i fi) e h in
              not-q i fi (let r : i ≡ q = cc in r)

  -- a child that is flagged
  pub keeps-child : (flags : List Bool) (waiting : List (Option ℕ)) (count : ℕ) (changed : List ℕ) → count < length flags →
      Keeps still waits flags waiting count changed → Keeps still waits (set flags count true) waiting (suc count) changed
  keeps-child flags waiting count changed hc k = record {
    stuck = λ i hi fi free. k.stuck i (below i hi fi) (old i fi) free;
    known = λ i hi fi x h. k.known i (below i hi fi) (old i fi) x h;
  }
    where
      not-it : (i : ℕ) → is_flagged (set flags count true) i ≡ false → i ≢ count
      not-it i fi r = true≢false (sym (get_or-set_same flags count true false hc) ∙ (ap (is_flagged (set flags count true)) (sym r) ∙ fi))

      old : (i : ℕ) → is_flagged (set flags count true) i ≡ false → is_flagged flags i ≡ false
      old i fi = sym (get_or-set_other flags count i true false (not-it i fi)) ∙ fi

      below : (i : ℕ) → i < suc count → is_flagged (set flags count true) i ≡ false → i < count
      below i hi fi = let n = not-it i fi in omega (arith, n)

-- nothing is set behind the end of a list
pub set-past : {A : Type 0} (xs : List A) (i : ℕ) (y : A) → length xs ≤ i → set xs i y ≡ xs
set-past [] i y h = refl
set-past (x ∷ xs) zero y h = absurd (let f : ⊥ = omega (arith, h) in f)
set-past (x ∷ xs) (suc i) y h = ap (λ l. x ∷ l) (set-past xs i y (omega (arith, h)))

-- nobody who waits on an end is taken off
pub set-nobody : (waiting : List (Option ℕ)) (e : ℕ) → waiter waiting e ≡ None → set waiting e None ≡ waiting
set-nobody [] e h = refl
set-nobody (x ∷ xs) zero h = ap (λ (y : Option ℕ). y ∷ xs) (sym h)
set-nobody (x ∷ xs) (suc e) h = ap (λ l. x ∷ l) (set-nobody xs e h)
