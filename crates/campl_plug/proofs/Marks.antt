-- Marks of the parts that links join to a part.
use Rattle.std.proofs.Common.{◌≡◌, ℕ, zero, suc, ◌+◌, ◌<◌, ◌⊎◌, ◌↔◌, inl, inr, Bool, true, false, IsTrue, List, [], ◌∷◌, ◌++◌, Some, None, length, get_or, set, take, replicate, refl, sym, ap, subst, ◌∙◌, add-one, get_or-set_other, get_or-set_same}
use Rattle.std.specs.List.{slice_get}
use Rattle.std.proofs.lemmas.Bool.{cases_eq}
use Rattle.campl_plug.specs.declared.plug.Link.{Link}
use Rattle.campl_plug.specs.Links.{Joins, Linked}
use Rattle.campl_plug.proofs.Places.{take-one-more}
use Rattle.campl_plug.proofs.Paths.{linked-front, linked-back, linked-last}

-- marked are the parts that the first i links join to p
abbrev pub AreMarked : List Bool → List Link → ℕ → ℕ → Type 0
AreMarked marks links i p = (q : ℕ) → IsTrue (get_or marks q false) ↔ Linked (take i links) p q

none-set : (n q : ℕ) → get_or (replicate n false) q false ≡ false
none-set zero q = refl
none-set (suc n) zero = refl
none-set (suc n) (suc q) = none-set n q

pub marked-none : (n : ℕ) (links : List Link) (p : ℕ) → AreMarked (replicate n false) links 0 p
marked-none n links p q = ((λ h. let e : false ≡ true = sym (none-set n q) ∙ h in let z : ⊥ = cc in z), (λ h. absurd h))

module _ (links : List Link) (i p : ℕ) (l : Link) (at : slice_get links i ≡ Some l) (marks : List Bool) (m : AreMarked marks links i p) where
  more : take (i + 1) links ≡ take i links ++ l ∷ []
  more = rw add-one (take-one-more links i l at)

  from-last : (q : ℕ) → Linked (take (i + 1) links) p q → Linked (take i links) p q ⊎ Joins l p q
  from-last q h = linked-last (take i links) l p q (subst (λ z. Linked z p q) more h)

  kept : (q : ℕ) → Linked (take i links) p q → Linked (take (i + 1) links) p q
  kept q h = subst (λ z. Linked z p q) (sym more) (linked-front (take i links) (l ∷ []) p q h)

  -- a link that doesn't join the part marks nothing
  pub marked-same : ((q : ℕ) → (None ≡ Some q) ↔ Joins l p q) → AreMarked marks links (i + 1) p
  marked-same other q = (
    (λ h. kept q ((m q).0 h)),
    (λ h. elim (from-last q h) [
      | inl a ↦ (m q).1 a
      | inr a ↦ absurd (let e : None ≡ Some q = (other q).1 a in let z : ⊥ = cc in z)
    ]),
  )

  -- and one that joins it marks its other end
  pub marked-more : (e : ℕ) → e < length marks → ((q : ℕ) → (Some e ≡ Some q) ↔ Joins l p q) → AreMarked (set marks e true) links (i + 1) p
  marked-more e small other q = elim (cases_eq q e) [
    | inl s ↦ (
      (λ h. subst (λ z. Linked z p q) (sym more) (linked-back (take i links) (l ∷ []) p q (inl ((other q).0 (ap Some (sym s)))))),
      (λ h. subst (λ z. IsTrue (get_or (set marks e true) z false)) (sym s) (get_or-set_same marks e true false small)),
    )
    | inr s ↦
        let same : get_or (set marks e true) q false ≡ get_or marks q false = get_or-set_other marks e q true false s in (
          (λ h. kept q ((m q).0 (sym same ∙ h))),
          (λ h. elim (from-last q h) [
            | inl a ↦ same ∙ (m q).1 a
            | inr a ↦ absurd (let c : Some e ≡ Some q = (other q).1 a in s (let d : q ≡ e = cc in d))
          ]),
        )
  ]
