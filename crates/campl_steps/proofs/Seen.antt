-- The changes behind kinds of steps, branch after branch.
use Rattle.std.proofs.Common.{◌≡◌, ◌<◌, ◌+◌, ◌⊎◌, inl, inr, ℕ, true, List, Option, Some, None, length, ltb, ltb-true, ltb-false, get_or, slice_get, option_map, refl, sym, ap, ◌∙◌, arith}
use Rattle.std.proofs.lemmas.Option.{slice_get_read}
use Rattle.campl_meaning.specs.States as k
use Rattle.campl_cells.specs.Wants.{Want, Rests}
use Rattle.campl_cells.specs.Steps.{Change}
use Rattle.campl_cells.proofs.Puts.{same, split}
use Rattle.campl_steps.specs.Outlook.{IsFirst, IsFirstKind, kind_in}
use Rattle.campl_steps.specs.Watching.{IsNoBranch}

kind-some : (o : Option Change) (kind : k.Kind) → kind_in o ≡ Some kind → (change : Change) × (o ≡ Some change) × (change.entry.kind ≡ kind)
kind-some None kind e = absurd (let z : ⊥ = cc e in z)
kind-some (Some change) kind e = (change, refl, cc e)

pub kind-none : (o : Option Change) → kind_in o ≡ None → o ≡ None
kind-none None e = refl
kind-none (Some change) e = absurd (let z : ⊥ = cc e in z)

-- the first kind is that of the first change
pub first-change : (f : ℕ → Option Change) (kind : k.Kind) → IsFirstKind (λ i. kind_in (f i)) (Some kind) → IsFirst f kind
first-change f kind z =
    let s = kind-some (f z.0) kind z.1 in
    record { branch = z.0; change = s.0; changes = s.1; kind_is = s.2; before = λ j h. kind-none (f j) (z.2 j h) }

-- none before a branch, nor there
pub all-none : (f : ℕ → Option k.Kind) (b : ℕ) → ((j : ℕ) → j < b → f j ≡ None) → f b ≡ None → (j : ℕ) → j < b + 1 → f j ≡ None
all-none f b before here j l = elim (same j b) [
  | inl e ↦ ap f e ∙ here
  | inr n ↦ before j (omega (arith, l, n))
]

-- nor behind the last branch that there is
pub none-behind : (kind : Want → Option k.Kind) → kind Rests ≡ None → (g : ℕ → Want) (b i : ℕ) → ((j : ℕ) → j < b + 1 → kind (g j) ≡ None) → (b < i → IsNoBranch g i) → kind (g i) ≡ None
none-behind kind rests g b i before behind = go (below i b)
  where
    below : (i b : ℕ) → (i < b + 1) ⊎ (b < i)
    below i b = elim (split (ltb b i)) [
      | inl e ↦ inr (ltb-true b i e)
      | inr e ↦ inl (let l = ltb-false b i e in omega (arith, l))
    ]

    go : (i < b + 1) ⊎ (b < i) → kind (g i) ≡ None
    go (inl l) = before i l
    go (inr l) = none (behind l)
      where
        none : IsNoBranch g i → kind (g i) ≡ None
        none (inl e) = ap kind e ∙ rests
        none (inr e) = ap kind e ∙ before 0 (omega arith)

-- what a look-up found stands there
pub stands : {A B : Type 0} (f : A → B) (xs : List A) (i : ℕ) (x : A) → true ≡ ltb i (length xs) → x ≡ get_or xs i x → option_map f (slice_get xs i) ≡ Some (f x)
stands f xs i x l is = ap (option_map f) (slice_get_read xs (length xs) i x refl (ltb-true i (length xs) (sym l)) is)
