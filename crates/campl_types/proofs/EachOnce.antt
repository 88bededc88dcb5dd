-- Where each constructor that is offered has one row, the row of each is there, and is found by the constructor's number.
use Rattle.std.proofs.Common.{◌≡◌, ◌∙◌, inl, inr, refl, sym, subst, ℕ, zero, suc, Bool, true, false, [], ◌∷◌, Some, if◌then◌else◌, slice_get, eq-eqb, true≢false}
use Rattle.campl_tree.specs.declared.place.Ident.{Ident}
use Rattle.campl_tree.specs.Plain.ChanType.{ChanType}
use Rattle.campl_tree.specs.Plain.Process as b
use Rattle.campl_tree.specs.Plain.Process.{Body, HcaseRows}
use Rattle.campl_types.specs.Names.{Name, same_name}
use Rattle.campl_types.specs.World.{World}
use Rattle.campl_types.specs.Matching.{number_of, is_number, row_picked}
use Rattle.campl_types.specs.Polarity.{Choices}
use Rattle.campl_types.specs.Linear.{HasEachOnce}
use Rattle.campl_types.proofs.Names.{same-is}
use Rattle.campl_types.proofs.Truth.{split, and-first, and-second, and-both}

-- each choice has its row
pub each-one : (rows : HcaseRows) (cs : Choices) (n : ℕ) (x : Name) (u : ChanType) → HasEachOnce rows cs → slice_get cs n ≡ Some (x, u) → HasEachOnce rows ((x, u) ∷ [])
each-one rows [] n x u h i = absurd (cc i)
each-one rows (e ∷ cs) zero x u h i =
    let q : ◌≡◌ {A = Name × ChanType} e (x, u) = cc i in
    subst (λ z. HasEachOnce rows (z ∷ [])) q (h.0, and-both _ true (and-first _ _ h.1) refl)
each-one rows (e ∷ cs) (suc n) x u h i = each-one rows cs n x u (h.0, and-second _ _ h.1) i

-- a row with another name isn't it
pub other-row : (x : Name) (u : ChanType) (k : Ident) (first : Body) (rows : HcaseRows) → HasEachOnce (b.hcase_row_then k first rows) ((x, u) ∷ []) → same_name x k.name ≡ false
    → HasEachOnce rows ((x, u) ∷ [])
other-row x u k first rows (distinct, all) other = (and-second _ _ distinct, rw other at all)

-- and is found by its number
pub one-row : (w : World) (n : ℕ) (x : Name) (u : ChanType) (rows : HcaseRows) → number_of w x ≡ Some n → HasEachOnce rows ((x, u) ∷ []) → (body : Body) × (row_picked w n rows ≡ Some body)
one-row w n x u b.no_hcase_rows e h = absurd (true≢false (sym h.1))
one-row w n x u (b.hcase_row_then k first rows) e h = go (is_number (number_of w k.name) n) refl (one-row w n x u rows e)
  where
    here : same_name x k.name ≡ true → is_number (number_of w k.name) n ≡ true
    here i = let q : number_of w k.name ≡ Some n = subst (λ z. number_of w z ≡ Some n) (same-is x k.name i) e in rw q (eq-eqb n n refl)

    go : (t : Bool) → is_number (number_of w k.name) n ≡ t → (HasEachOnce rows ((x, u) ∷ []) → (body : Body) × (row_picked w n rows ≡ Some body))
        → (body : Body) × ((if is_number (number_of w k.name) n then Some first else row_picked w n rows) ≡ Some body)
    go true i later = (first, rw i refl)
    go false i later =
        let other : same_name x k.name ≡ false = elim (split (same_name x k.name)) [
          | inl same ↦ absurd (true≢false (sym (here same) ∙ i))
          | inr other ↦ other
        ] in
        let (body, j) = later (other-row x u k first rows h other) in
        (body, rw i j)
