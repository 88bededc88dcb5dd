-- Where heights begin.
use Rattle.std.proofs.Common.{◌≡◌, refl, ℕ, zero, suc, ◌+◌, Bool, true, false, List, [], ◌∷◌, map, ap, sym, ◌∙◌, Option, Some, None, arith}
use Rattle.std.proofs.lemmas.Option.{slice_get-map}
use Rattle.std.specs.Prelude.{slice_get, slice_set, option_map, eqb, if◌then◌else◌, ◌||◌}
use Rattle.campl_code.specs.Heights.{Heights, first_heights, is_among}
use Rattle.campl_code.specs.Instructions.{Instr}
use Rattle.campl_rules.specs.Found.{set_all}
use Rattle.campl_rules.proofs.Items.{item-set, same-items}

item-set-all : (places : List ℕ) (h : Option (ℕ × Bool)) (heights : Heights) (i : ℕ) → slice_get (set_all places h heights) i ≡ option_map (λ x. if is_among i places then h else x) (slice_get heights i)
item-set-all [] h heights i = go (slice_get heights i)
  where
    go : (o : Option (Option (ℕ × Bool))) → o ≡ option_map (λ x. x) o
    go None = refl
    go (Some x) = refl
item-set-all (w ∷ places) h heights i =
    item-set-all places h (slice_set heights w h) i ∙ ap (option_map (λ x. if is_among i places then h else x)) (item-set heights w i h) ∙ go (slice_get heights i) (eqb i w) (is_among i places)
  where
    go : (o : Option (Option (ℕ × Bool))) (b c : Bool) → option_map (λ x. if c then h else x) (option_map (λ x. if b then h else x) o) ≡ option_map (λ x. if b || c then h else x) o
    go None b c = refl
    go (Some x) true true = refl
    go (Some x) true false = refl
    go (Some x) false c = refl

item-first : (starts : List ℕ) (at : ℕ) (block : List Instr) (i : ℕ) → slice_get (first_heights starts at block) i ≡ option_map (λ x. if eqb (at + i) 0 || is_among (at + i) starts then Some (0, true) else None) (slice_get block i)
item-first starts at [] i = refl
item-first starts at (x ∷ block) zero = let here : at ≡ at + 0 = omega arith in ap (λ n. Some (if eqb n 0 || is_among n starts then Some (0, true) else None)) here
item-first starts at (x ∷ block) (suc i) =
    let there : suc at + i ≡ at + suc i = omega arith in
    item-first starts (suc at) block i ∙ ap (λ n. option_map (λ (y : Instr). if eqb n 0 || is_among n starts then Some (0, true) else None) (slice_get block i)) there

abbrev pub start : Option (ℕ × Bool)
start = Some (0, true)

pub begun : {A : Type 0} (view : A → Instr) (block : List A) (starts : List ℕ) → set_all starts start (slice_set (map (λ x. None) block) 0 start) ≡ first_heights starts 0 (map view block)
begun {A} view block starts = same-items _ _ (λ i.
    item-set-all (0 ∷ starts) start (map (λ x. None) block) i
    ∙ ap (option_map (λ (x : Option (ℕ × Bool)). if is_among i (0 ∷ starts) then start else x)) (slice_get-map (λ (x : A). None) block i)
    ∙ go i (slice_get block i)
    ∙ ap (λ n. option_map (λ (y : Instr). if eqb n 0 || is_among n starts then start else None) (option_map view (slice_get block i))) (let there : i ≡ 0 + i = omega arith in there)
    ∙ ap (option_map (λ (y : Instr). if eqb (0 + i) 0 || is_among (0 + i) starts then start else None)) (sym (slice_get-map view block i))
    ∙ sym (item-first starts 0 (map view block) i))
  where
    go : (i : ℕ) (o : Option A) → option_map (λ (x : Option (ℕ × Bool)). if is_among i (0 ∷ starts) then start else x) (option_map (λ (x : A). None) o) ≡ option_map (λ (y : Instr). if eqb i 0 || is_among i starts then start else None) (option_map view o)
    go i None = refl
    go i (Some x) = refl
