-- What a row sets, one variable after another.
use Rattle.std.proofs.Common.{◌≡◌, ℕ, zero, suc, ◌<◌, length, take, arith, ap, List, [], ◌∷◌, Option, Some, None, sym, ◌∙◌, refl}
use Rattle.std.specs.Prelude.{option_map, slice_set, slice_get}
use Rattle.campl_value.specs.Tree.{Tree}
use Rattle.campl_code.specs.Decisions.{Spot, within, value_at, values_at, with_first}
use Rattle.campl_code.specs.Frames.{set_from}

-- the values at these places, set in turn
abbrev pub set_next : Option Tree → (List Tree → Option (List Tree)) → ℕ → List Tree → Option (List Tree)
set_next None next n vars = None
set_next (Some t) next n vars = next (slice_set vars n t)

abbrev pub row_set : List Tree → List Spot → ℕ → List Tree → Option (List Tree)
row_set vs [] n vars = Some vars
row_set vs (s ∷ spots) n vars = set_next (value_at vs s) (row_set vs spots (suc n)) n vars

map-with : (t : Tree) (o : Option (List Tree)) (n : ℕ) (vars : List Tree) → option_map (λ ts. set_from n ts vars) (with_first (Some t) o) ≡ option_map (λ ts. set_from n (t ∷ ts) vars) o
map-with t None n vars = refl
map-with t (Some ts) n vars = refl

row-next : (vs : List Tree) (spots : List Spot) (n : ℕ) (vars : List Tree) (o : Option Tree) → ((t : Tree) → row_set vs spots (suc n) (slice_set vars n t) ≡ option_map (λ ts. set_from (suc n) ts (slice_set vars n t)) (values_at vs spots))
    → set_next o (row_set vs spots (suc n)) n vars ≡ option_map (λ ts. set_from n ts vars) (with_first o (values_at vs spots))
row-next vs spots n vars None h = refl
row-next vs spots n vars (Some t) h = h t ∙ sym (map-with t (values_at vs spots) n vars)

row-is : (vs : List Tree) (spots : List Spot) (n : ℕ) (vars : List Tree) → row_set vs spots n vars ≡ option_map (λ ts. set_from n ts vars) (values_at vs spots)
row-is vs [] n vars = refl
row-is vs (s ∷ spots) n vars = row-next vs spots n vars (value_at vs s) (λ t. row-is vs spots (suc n) (slice_set vars n t))

-- the values are set in turn
pub in-turn : (vs : List Tree) (spots : List Spot) (n : ℕ) (vars : List Tree) → option_map (λ ts. set_from n ts vars) (values_at vs spots) ≡ row_set vs spots n vars
in-turn vs spots n vars = sym (row-is vs spots n vars)

-- where one isn't there, nothing is set
pub none-set : (o : Option Tree) (next : List Tree → Option (List Tree)) (n : ℕ) (vars : List Tree) → option_map (slice_set vars n) o ≡ None → set_next o next n vars ≡ None
none-set None next n vars e = refl
none-set (Some t) next n vars e = absurd cc

-- where a variable stays, the next ones are set
pub same-set : (o : Option Tree) (next : List Tree → Option (List Tree)) (n : ℕ) (vars : List Tree) → option_map (slice_set vars n) o ≡ Some vars → set_next o next n vars ≡ next vars
same-set None next n vars e = absurd cc
same-set (Some t) next n vars e = let s : slice_set vars n t ≡ vars = cc in ap next s

onto-all : (v : Tree) (vs : List Tree) (n : ℕ) (o : Option Tree) → option_map (slice_set vs n) o ≡ Some vs → option_map (slice_set (v ∷ vs) (suc n)) o ≡ Some (v ∷ vs)
onto-all v vs n None e = absurd cc
onto-all v vs n (Some t) e = let s : slice_set vs n t ≡ vs = cc in ap (λ l. Some (v ∷ l)) s

-- a variable that is set to what it holds
pub same-at : (vs : List Tree) (w n : ℕ) → n < w → n < length vs → option_map (slice_set vs n) (slice_get (take w vs) n) ≡ Some vs
same-at [] w n h k = absurd (omega (arith, k))
same-at (v ∷ vs) zero n h k = absurd (omega (arith, h))
same-at (v ∷ vs) (suc w) zero h k = refl
same-at (v ∷ vs) (suc w) (suc n) h k =
    let a : n < w = omega (arith, h) in
    let b : n < length vs = omega (arith, k) in
    onto-all v vs n (slice_get (take w vs) n) (same-at vs w n a b)

itself : (o : Option Tree) → within o [] ≡ o
itself None = refl
itself (Some t) = refl

pub set_same : (vs : List Tree) (w n k : ℕ) → k ≡ n → n < w → n < length vs → option_map (slice_set vs n) (value_at (take w vs) (k ∷ [])) ≡ Some vs
set_same vs w n k e h l = ap (λ (m : ℕ). option_map (slice_set vs n) (value_at (take w vs) (m ∷ []))) e ∙ ap (option_map (slice_set vs n)) (itself (slice_get (take w vs) n)) ∙ same-at vs w n h l
