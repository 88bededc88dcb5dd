-- What one more link makes of a labelling.
use Rattle.std.proofs.Common.{◌≡◌, ℕ, zero, suc, inl, inr, Bool, true, eqb, List, [], ◌∷◌, ◌++◌, refl, sym, ap, subst, ◌∙◌}
use Rattle.std.proofs.lemmas.Bool.{eq-eqb, ne_eqb, cases_eq}
use Rattle.campl_plug.specs.declared.plug.Link.{Link}
use Rattle.campl_plug.specs.Links.{IsPart, IsWithin, Linked, Joined}
use Rattle.campl_plug.specs.Labels.{IsLabelling, relabel_of}
use Rattle.campl_plug.proofs.Paths.{linked-back, linked-last, joined-one, joined-on, joined-turned, joined-front}
use Rattle.campl_plug.proofs.Counts.{passing, passing-same, passing-more, passing-all}

-- the part has itself for its label
abbrev pub is_root : (ℕ → ℕ) → ℕ → Bool
is_root f p = eqb (f p) p

pub own-labelling : (k : ℕ) (f : ℕ → ℕ) → ((p : ℕ) → IsPart k p → f p ≡ p) → IsLabelling k [] f
own-labelling k f own = record {
  linked = λ p q h. absurd h;
  joined = λ p q i j e. (zero, sym (own p i) ∙ (e ∙ own q j));
  inside = λ p i. subst (IsPart k) (sym (own p i)) i;
  own = λ p i. ap f (own p i);
}

pub own-roots : (k : ℕ) (f : ℕ → ℕ) → ((p : ℕ) → IsPart k p → f p ≡ p) → passing (is_root f) k ≡ k
own-roots k f own = passing-same (is_root f) (λ p. true) k (λ p i. eq-eqb (f p) p (own p i)) ∙ passing-all k

relabel-hit : (from to : ℕ) (n : ℕ) → n ≡ from → relabel_of from to n ≡ to
relabel-hit from to n e = rw (eq-eqb n from e) refl

relabel-miss : (from to : ℕ) (n : ℕ) → (n ≡ from → ⊥) → relabel_of from to n ≡ n
relabel-miss from to n e = rw (ne_eqb n from e) refl

module _ (k : ℕ) (links : List Link) (f : ℕ → ℕ) (lab : IsLabelling k links f) (l : Link) (w : IsWithin k l) where
  -- a link between joined parts changes no label
  pub same-labelling : f l.a ≡ f l.b → IsLabelling k (links ++ l ∷ []) f
  same-labelling e = record {
    linked = λ p q h. elim (linked-last links l p q h) [
      | inl j ↦ lab.linked p q j
      | inr j ↦ elim j [ inl (a, b) ↦ ap f (sym a) ∙ (e ∙ ap f b) | inr (a, b) ↦ ap f (sym b) ∙ (sym e ∙ ap f a) ]
    ];
    joined = λ p q i j h. joined-front links (l ∷ []) p q (lab.joined p q i j h);
    inside = lab.inside;
    own = lab.own;
  }

  module _ (apart : f l.a ≡ f l.b → ⊥) (g : ℕ → ℕ) (is : (p : ℕ) → g p ≡ relabel_of (f l.a) (f l.b) (f p)) where
    pub g-hit : (p : ℕ) → f p ≡ f l.a → g p ≡ f l.b
    g-hit p e = is p ∙ relabel-hit (f l.a) (f l.b) (f p) e

    pub g-miss : (p : ℕ) → (f p ≡ f l.a → ⊥) → g p ≡ f p
    g-miss p e = is p ∙ relabel-miss (f l.a) (f l.b) (f p) e

    g-b : g l.b ≡ f l.b
    g-b = g-miss l.b (λ e. apart (sym e))

    new_linked : (p q : ℕ) → Linked (links ++ l ∷ []) p q → g p ≡ g q
    new_linked p q h = elim (linked-last links l p q h) [
      | inl j ↦ is p ∙ (ap (relabel_of (f l.a) (f l.b)) (lab.linked p q j) ∙ sym (is q))
      | inr j ↦ elim j [
        | inl (a, b) ↦ g-hit p (ap f (sym a)) ∙ (sym g-b ∙ ap g b)
        | inr (a, b) ↦ ap g (sym b) ∙ (g-b ∙ sym (g-hit q (ap f (sym a))))
      ]
    ]

    old : (p q : ℕ) → IsPart k p → IsPart k q → f p ≡ f q → Joined (links ++ l ∷ []) p q
    old p q i j e = joined-front links (l ∷ []) p q (lab.joined p q i j e)

    -- a part with the label of a, and one with that of b, are joined by the new link
    across : (p q : ℕ) → IsPart k p → IsPart k q → f p ≡ f l.a → f q ≡ f l.b → Joined (links ++ l ∷ []) p q
    across p q i j a b =
        let here : Linked (links ++ l ∷ []) l.a l.b = linked-back links (l ∷ []) l.a l.b (inl (inl (refl, refl))) in
        joined-on (links ++ l ∷ []) p l.a q (old p l.a i w.a_part a)
        (joined-on (links ++ l ∷ []) l.a l.b q (joined-one (links ++ l ∷ []) l.a l.b here) (old l.b q w.b_part j (sym b)))

    new_joined : (p q : ℕ) → IsPart k p → IsPart k q → g p ≡ g q → Joined (links ++ l ∷ []) p q
    new_joined p q i j e = elim (cases_eq (f p) (f l.a)) [
      | inl a ↦ elim (cases_eq (f q) (f l.a)) [
        | inl b ↦ old p q i j (a ∙ sym b)
        | inr b ↦ across p q i j a (sym (g-miss q b) ∙ (sym e ∙ g-hit p a))
      ]
      | inr a ↦ elim (cases_eq (f q) (f l.a)) [
        | inl b ↦ joined-turned (links ++ l ∷ []) q p (across q p j i b (sym (g-miss p a) ∙ (e ∙ g-hit q b)))
        | inr b ↦ old p q i j (sym (g-miss p a) ∙ (e ∙ g-miss q b))
      ]
    ]

    new_inside : (p : ℕ) → IsPart k p → IsPart k (g p)
    new_inside p i = elim (cases_eq (f p) (f l.a)) [
      | inl a ↦ subst (IsPart k) (sym (g-hit p a)) (lab.inside l.b w.b_part)
      | inr a ↦ subst (IsPart k) (sym (g-miss p a)) (lab.inside p i)
    ]

    new_own : (p : ℕ) → IsPart k p → g (g p) ≡ g p
    new_own p i = elim (cases_eq (f p) (f l.a)) [
      | inl a ↦
          let e : f (f l.b) ≡ f l.b = lab.own l.b w.b_part in
          ap g (g-hit p a) ∙ (g-miss (f l.b) (λ h. apart (sym h ∙ e)) ∙ (e ∙ sym (g-hit p a)))
      | inr a ↦
          let e : f (f p) ≡ f p = lab.own p i in
          ap g (g-miss p a) ∙ (g-miss (f p) (λ h. a (sym e ∙ h)) ∙ (e ∙ sym (g-miss p a)))
    ]

    -- a link between parts that weren't joined gives the label of b to all that had the label of a
    pub new-labelling : IsLabelling k (links ++ l ∷ []) g
    new-labelling = record { linked = new_linked; joined = new_joined; inside = new_inside; own = new_own }

    -- and the label of a is one that no part has any more
    pub new-roots : passing (is_root f) k ≡ suc (passing (is_root g) k)
    new-roots = passing-more (is_root g) (is_root f) k (f l.a) (lab.inside l.a w.a_part)
        (ne_eqb (g (f l.a)) (f l.a) (λ h. apart (sym h ∙ g-hit (f l.a) (lab.own l.a w.a_part))))
        (eq-eqb (f (f l.a)) (f l.a) (lab.own l.a w.a_part))
        (λ p i ne. elim (cases_eq (f p) (f l.a)) [
          | inl a ↦
              ne_eqb (g p) p (λ h.
              let t : f l.b ≡ p = sym (g-hit p a) ∙ h in
              apart (sym a ∙ (ap f (sym t) ∙ lab.own l.b w.b_part)))
              ∙ sym (ne_eqb (f p) p (λ h. ne (sym h ∙ a)))
          | inr a ↦ ap (λ z. eqb z p) (g-miss p a)
        ])
