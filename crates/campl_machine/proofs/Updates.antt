-- Updates of a function at listed places.
use Rattle.std.proofs.Common.{◌≡◌, ◌≢◌, Bool, true, false, List, [], ◌∷◌, ◌⊎◌, inl, inr, refl, sym, ap, ◌∙◌, true≢false}
pub use Rattle.std.proofs.lemmas.Bool.{cases_Bool as split, and_parts as both}
use Rattle.std.proofs.Math.Path.{fun_ext}
use Rattle.campl_machine.specs.Names.{TellsApart}
use Rattle.campl_machine.specs.Machine.{update, Lies}

-- different names fail a test
pub differ : {K : Type 0} → (same : K → K → Bool) → ((a b : K) → same a b ≡ true → a ≡ b) → (a b : K) → a ≢ b → same a b ≡ false
differ same is a b ne = elim (split (same a b)) [ inl e ↦ absurd (ne (is a b e)) | inr e ↦ e ]

-- a test decides
pub decides : {K : Type 0} (same : K → K → Bool) → TellsApart same → (a b : K) → (a ≡ b) ⊎ (a ≢ b)
decides same t a b = elim (split (same a b)) [
  | inl i ↦ inl (t.is a b i)
  | inr i ↦ inr (λ k. true≢false (sym (t.own a) ∙ (ap (same a) k ∙ i)))
]

module _ {K V : Type 0} (same : K → K → Bool) (is : (a b : K) → same a b ≡ true → a ≡ b) (own : (a : K) → same a a ≡ true) where
  -- nothing is updated elsewhere
  pub elsewhere : (d : List (K × V)) (f : K → V) (k : K) → (Lies d k → ⊥) → update same d f k ≡ f k
  elsewhere [] f k n = refl
  elsewhere (e ∷ es) f k n = rw (differ same is e.0 k (λ i. n (inl i))) (elsewhere es f k (λ l. n (inr l)))

  -- at a listed place the old function is not read
  pub there : (d : List (K × V)) (k : K) → (Lies d k × ((f g : K → V) → update same d f k ≡ update same d g k)) ⊎ (Lies d k → ⊥)
  there [] k = inr (λ l. l)
  there (e ∷ es) k = elim (split (same e.0 k)) [
    | inl i ↦ inl (inl (is e.0 k i), λ f g. rw i refl)
    | inr i ↦ elim (there es k) [
      | inl j ↦ inl (inr j.0, λ f g. rw i (j.1 f g))
      | inr n ↦ inr (λ l. elim l [ inl q ↦ absurd (true≢false (sym (own k) ∙ (ap (λ z. same z k) (sym q) ∙ i))) | inr m ↦ n m ])
    ]
  ]

  -- updates at different places can be made in either order
  pub swap_updates : (d1 d2 : List (K × V)) (f : K → V) → ((k : K) → Lies d1 k → Lies d2 k → ⊥) →
      update same d1 (update same d2 f) ≡ update same d2 (update same d1 f)
  swap_updates d1 d2 f apart = fun_ext (λ k. elim (there d1 k) [
    | inl i ↦ i.1 (update same d2 f) f ∙ sym (elsewhere d2 (update same d1 f) k (apart k i.0))
    | inr n ↦ elsewhere d1 (update same d2 f) k n ∙ elim (there d2 k) [
      | inl j ↦ j.1 f (update same d1 f)
      | inr m ↦ elsewhere d2 f k m ∙ sym (elsewhere d2 (update same d1 f) k m ∙ elsewhere d1 f k n)
    ]
  ])
