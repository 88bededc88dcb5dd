-- Rows of a decision whose variables have values.
use Rattle.std.proofs.Common.{◌≡◌, ℕ, true, false, ◌&&◌, List, [], ◌∷◌, ◌++◌, Option, Some, None, option_map, is_some, reverse, refl, sym, ap, subst, ◌∙◌, true≢false}
use Rattle.std.proofs.lemmas.List.{reverse-append}
use Rattle.campl_value.specs.Tree.{Tree}
use Rattle.campl_code.specs.Decisions.{Spot, value_at, values_at, with_first}
use Rattle.campl_code.specs.Frames.{set_from}
use Rattle.campl_cells.specs.Wants.{Start}
use Rattle.campl_parts.specs.declared.place.Begun.{Begun}
use Rattle.campl_parts.specs.Ends.{ends_of}
use Rattle.campl_parts.specs.Plans.{begun_of}
use Rattle.campl_parts.specs.Wanted.{all_there, or_none, row_vars, with_vars}

first-there : (o : Option Tree) (r : Option (List Tree)) → is_some (with_first o r) ≡ is_some o && is_some r
first-there None r = refl
first-there (Some t) None = refl
first-there (Some t) (Some ts) = refl

-- the test tells whether the row's values are there
pub there-are : (vs : List Tree) (spots : List Spot) → is_some (values_at vs spots) ≡ all_there vs spots
there-are vs [] = refl
there-are vs (s ∷ spots) = first-there (value_at vs s) (values_at vs spots) ∙ ap (λ b. is_some (value_at vs s) && b) (there-are vs spots)

chosen-found : (row : ℕ) (o : Option (List Tree)) → is_some o ≡ true → option_map {U = ℕ × List Tree} (λ ts. (row, ts)) o ≡ Some (row, or_none o)
chosen-found row None h = absurd (true≢false (sym h))
chosen-found row (Some ts) h = refl

chosen-missing : (row : ℕ) (o : Option (List Tree)) → is_some o ≡ false → option_map {U = ℕ × List Tree} (λ ts. (row, ts)) o ≡ None
chosen-missing row None h = refl
chosen-missing row (Some ts) h = absurd (true≢false h)

-- a row that was found is chosen where its values are there, and none is where not
pub row-found : (row : ℕ) (vs : List Tree) (spots : List Spot) (o : Option (ℕ × List Tree)) → o ≡ option_map {U = ℕ × List Tree} (λ ts. (row, ts)) (values_at vs spots) → all_there vs spots ≡ true → o ≡ Some (row, or_none (values_at vs spots))
row-found row vs spots o e h = e ∙ chosen-found row (values_at vs spots) (there-are vs spots ∙ h)

pub row-missing : (row : ℕ) (vs : List Tree) (spots : List Spot) (o : Option (ℕ × List Tree)) → o ≡ option_map {U = ℕ × List Tree} (λ ts. (row, ts)) (values_at vs spots) → all_there vs spots ≡ false → o ≡ None
row-missing row vs spots o e h = e ∙ chosen-missing row (values_at vs spots) (there-are vs spots ∙ h)

-- variables that a row set, and those where its values aren't there
set-all : (first : ℕ) (o : Option (List Tree)) (old new : List Tree) → option_map (λ ts. set_from first ts old) o ≡ Some new → set_from first (or_none o) old ≡ new
set-all first None old new e = absurd (let z : ⊥ = cc in z)
set-all first (Some ts) old new e = cc

-- a place with a row's variables
pub row-done : (b : Begun) (p : Start) (first : ℕ) (vs : List Tree) (spots : List Spot) (new : List Tree) → begun_of b ≡ p → option_map (λ ts. set_from first ts b.variables) (values_at vs spots) ≡ Some new →
    record { block = b.block; at = b.at; vars = new; ends = ends_of b.ends } ≡ with_vars p (row_vars first vs spots p.vars)
row-done b p first vs spots new e h =
    subst (λ (q : Start). record { block = b.block; at = b.at; vars = new; ends = ends_of b.ends } ≡ with_vars q (row_vars first vs spots q.vars)) e
    (ap (λ (v : List Tree). with_vars (begun_of b) v) (sym (set-all first (values_at vs spots) b.variables new h)))

none-there : (o : Option (List Tree)) (f : List Tree → List Tree) → option_map f o ≡ None → o ≡ None
none-there None f e = refl
none-there (Some ts) f e = absurd (let z : ⊥ = cc in z)

pub row-lacking : (b : Begun) (p : Start) (first : ℕ) (vs : List Tree) (spots : List Spot) (f : List Tree → List Tree) → begun_of b ≡ p → option_map f (values_at vs spots) ≡ None → begun_of b ≡ with_vars p (row_vars first vs spots p.vars)
row-lacking b p first vs spots f e h = e ∙ ap (λ (o : Option (List Tree)). with_vars p (set_from first (or_none o) p.vars)) (sym (none-there (values_at vs spots) f h))

pub reverse-one : (v : Tree) (vs : List Tree) → reverse (v ∷ vs) ≡ reverse vs ++ v ∷ []
reverse-one v vs = reverse-append (v ∷ []) vs
