-- Places by the numbers of constructors.
use Rattle.std.proofs.Common.{◌≡◌, ◌∙◌, refl, sym, ap, ℕ, zero, suc, ◌+◌, ◌<◌, ◌≤◌, max, List, [], ◌∷◌, ◌++◌, map, Option, Some, None, if◌then◌else◌, eqb, eq-eqb, ne_eqb, length, drop, get_or, slice_get, slice_set, inl, inr, ◌⊎◌, arith}
use Rattle.std.proofs.lemmas.List.{drop_all, drop_more}
use Rattle.campl_tree.specs.declared.process.HcaseRow.{HcaseRow}
use Rattle.campl_tree.specs.View.{view_hcase_row}
use Rattle.campl_tree.proofs.Views.{view_hcase_row-out}
use Rattle.campl_types.specs.World.{World}
use Rattle.campl_types.specs.Matching.{number_of, is_number}
use Rattle.campl_code.specs.Generated.{or_zero}
use Rattle.campl_code_bodies.specs.BodyCode.{listed}
use Rattle.campl_gen_bodies.specs.Commands.{row_numbers, start_at, count_numbers, placed, placed_row, no_places}

drop-at : {A : Type 0} (xs : List A) (n : ℕ) (x : A) → n < length xs → x ≡ get_or xs n x → drop n xs ≡ x ∷ drop (n + 1) xs
drop-at xs n x l is = drop_more xs n x l ∙ ap (λ y. y ∷ drop (n + 1) xs) (sym is)

pub ruleset rows = (view_hcase_row-out)

pub numbers-at : (w : World) (rows : List HcaseRow) (n : ℕ) (r : HcaseRow) → n < length rows → r ≡ get_or rows n r
    → row_numbers w (map view_hcase_row (drop n rows)) ≡ number_of w (view_hcase_row r).0.name ∷ row_numbers w (map view_hcase_row (drop (n + 1) rows))
numbers-at w rows n r l is = ap (λ d. row_numbers w (map view_hcase_row d)) (drop-at rows n r l is)

pub count-at : (ks : List (Option ℕ)) (n : ℕ) (k : Option ℕ) → n < length ks → k ≡ get_or ks n k → count_numbers (drop n ks) ≡ max (suc (or_zero k)) (count_numbers (drop (n + 1) ks))
count-at ks n k l is = ap count_numbers (drop-at ks n k l is)

pub count-end : (ks : List (Option ℕ)) (n : ℕ) → length ks ≤ n → count_numbers (drop n ks) ≡ 0
count-end ks n l = ap count_numbers (drop_all n ks l)

-- Lists of places

listed-within : (f g : ℕ → ℕ) (b more : ℕ) → ((n : ℕ) → b ≤ n → f n ≡ g n) → listed f b more ≡ listed g b more
listed-within f g b zero same = refl
listed-within f g b (suc more) same = ap (λ k. k ∷ listed f (suc b) more) (same b (omega arith)) ∙ ap (λ l. g b ∷ l) (listed-within f g (suc b) more (λ n l. same n (omega (arith, l))))

pub listed-same : (f g : ℕ → ℕ) (more : ℕ) → ((n : ℕ) → f n ≡ g n) → listed f 0 more ≡ listed g 0 more
listed-same f g more same = listed-within f g 0 more (λ n l. same n)

abbrev given : ℕ → ℕ → (ℕ → ℕ) → ℕ → ℕ
given m p f n = if eqb m n then p else f n

not-given : (m p n : ℕ) (f : ℕ → ℕ) → m < n → f n ≡ given m p f n
not-given m p n f l = sym (ap (λ b. if b then p else f n) (ne_eqb m n (λ i. omega (arith, i, l))))

set-listed : (f : ℕ → ℕ) (p m b more : ℕ) → slice_set (listed f b more) m p ≡ listed (given (m + b) p f) b more
set-listed f p m b zero = refl
set-listed f p zero b (suc more) =
    let here : given (0 + b) p f b ≡ p = ap (λ t. if t then p else f b) (eq-eqb (0 + b) b (omega arith)) in
    ap (λ l. p ∷ l) (listed-within f (given (0 + b) p f) (suc b) more (λ n l. not-given (0 + b) p n f (omega (arith, l)))) ∙ ap (λ k. k ∷ listed (given (0 + b) p f) (suc b) more) (sym here)
set-listed f p (suc m) b (suc more) =
    let place : m + suc b ≡ suc m + b = omega arith in
    let here : f b ≡ given (suc m + b) p f b = sym (ap (λ t. if t then p else f b) (ne_eqb (suc m + b) b (λ i. omega (arith, i)))) in
    ap (λ l. f b ∷ l) (set-listed f p m (suc b) more ∙ ap (λ k. listed (given k p f) (suc b) more) place) ∙ ap (λ k. k ∷ listed (given (suc m + b) p f) (suc b) more) here

placed-listed : (k : Option ℕ) (p : ℕ) (f : ℕ → ℕ) (count : ℕ) → placed k p (listed f 0 count) ≡ listed (λ n. if is_number k n then p else f n) 0 count
placed-listed None p f count = refl
placed-listed (Some m) p f count = let same : m + 0 ≡ m = omega arith in set-listed f p m 0 count ∙ ap (λ k. listed (given k p f) 0 count) same

no-start : (ks : List (Option ℕ)) (n : ℕ) → start_at ks [] n ≡ 0
no-start [] n = refl
no-start (k ∷ ks) n = refl

-- what stands at a place, and what is behind it
found-at : {A : Type 0} (xs : List A) (n : ℕ) → n < length xs → (x : A) × (slice_get xs n ≡ Some x) × (drop n xs ≡ x ∷ drop (suc n) xs)
found-at [] n l = absurd (let none : ⊥ = omega (arith, l) in none)
found-at (x ∷ xs) zero l = (x, refl, refl)
found-at (x ∷ xs) (suc n) l = found-at xs n (omega (arith, l))

nothing-at : {A : Type 0} (xs : List A) (n : ℕ) → length xs ≤ n → slice_get xs n ≡ None
nothing-at [] n l = refl
nothing-at (x ∷ xs) zero l = absurd (let none : ⊥ = omega (arith, l) in none)
nothing-at (x ∷ xs) (suc n) l = nothing-at xs n (omega (arith, l))

-- a list ends before a place, or goes on there
ends-or-not : {A : Type 0} (xs : List A) (n : ℕ) → (length xs ≤ n) ⊎ (n < length xs)
ends-or-not [] n = inl (omega arith)
ends-or-not (x ∷ xs) zero = inr (omega arith)
ends-or-not (x ∷ xs) (suc n) = go (ends-or-not xs n)
  where
    go : (length xs ≤ n) ⊎ (n < length xs) → (suc (length xs) ≤ suc n) ⊎ (suc n < suc (length xs))
    go (inl l) = inl (omega (arith, l))
    go (inr l) = inr (omega (arith, l))

module _ (ks : List (Option ℕ)) (starts : List ℕ) (count n m : ℕ) (one : m ≡ n + 1) where
  with-start : (k : Option ℕ) (p : ℕ) → slice_get ks n ≡ Some k → drop n ks ≡ k ∷ drop (suc n) ks → slice_get starts n ≡ Some p → drop n starts ≡ p ∷ drop (suc n) starts
      → placed_row (slice_get ks n) (slice_get starts n) (listed (start_at (drop m ks) (drop m starts)) 0 count) ≡ listed (start_at (drop n ks) (drop n starts)) 0 count
  with-start k p is from its behind =
      let up : m ≡ suc n = omega (arith, one) in
      ap (λ o. placed_row o (slice_get starts n) (listed (start_at (drop m ks) (drop m starts)) 0 count)) is
      ∙ ap (λ o. placed_row (Some k) o (listed (start_at (drop m ks) (drop m starts)) 0 count)) its
      ∙ ap (λ j. placed k p (listed (start_at (drop j ks) (drop j starts)) 0 count)) up
      ∙ placed-listed k p (start_at (drop (suc n) ks) (drop (suc n) starts)) count
      ∙ sym (ap (λ d. listed (start_at d (drop n starts)) 0 count) from ∙ ap (λ d. listed (start_at (k ∷ drop (suc n) ks) d) 0 count) behind)

  without-start : (k : Option ℕ) → slice_get ks n ≡ Some k → length starts ≤ n
      → placed_row (slice_get ks n) (slice_get starts n) (listed (start_at (drop m ks) (drop m starts)) 0 count) ≡ listed (start_at (drop n ks) (drop n starts)) 0 count
  without-start k is past =
      ap (λ o. placed_row o (slice_get starts n) (listed (start_at (drop m ks) (drop m starts)) 0 count)) is
      ∙ ap (λ o. placed_row (Some k) o (listed (start_at (drop m ks) (drop m starts)) 0 count)) (nothing-at starts n past)
      ∙ ap (λ d. listed (start_at (drop m ks) d) 0 count) (drop_all m starts (omega (arith, past, one)))
      ∙ listed-same (start_at (drop m ks) []) (start_at (drop n ks) []) count (λ j. no-start (drop m ks) j ∙ sym (no-start (drop n ks) j))
      ∙ ap (λ d. listed (start_at (drop n ks) d) 0 count) (sym (drop_all n starts past))

  -- one row more, from behind
  pub placed-at : n < length ks → placed_row (slice_get ks n) (slice_get starts n) (listed (start_at (drop m ks) (drop m starts)) 0 count) ≡ listed (start_at (drop n ks) (drop n starts)) 0 count
  placed-at l = go (found-at ks n l) (ends-or-not starts n)
    where
      go : (k : Option ℕ) × (slice_get ks n ≡ Some k) × (drop n ks ≡ k ∷ drop (suc n) ks) → (length starts ≤ n) ⊎ (n < length starts)
          → placed_row (slice_get ks n) (slice_get starts n) (listed (start_at (drop m ks) (drop m starts)) 0 count) ≡ listed (start_at (drop n ks) (drop n starts)) 0 count
      go (k, is, from) (inl past) = without-start k is past
      go (k, is, from) (inr within) = let p = found-at starts n within in with-start k p.0 is from p.1 p.2

pub placed-end : (ks : List (Option ℕ)) (starts : List ℕ) (count n : ℕ) → length ks ≤ n → listed no_places 0 count ≡ listed (start_at (drop n ks) (drop n starts)) 0 count
placed-end ks starts count n l = sym (ap (λ d. listed (start_at d (drop n starts)) 0 count) (drop_all n ks l) ∙ listed-same (start_at [] (drop n starts)) no_places count (λ m. refl))

-- zeros
zero-more : (b n : ℕ) → listed no_places b n ++ 0 ∷ [] ≡ listed no_places b (suc n)
zero-more b zero = refl
zero-more b (suc n) = ap (λ l. 0 ∷ l) (zero-more (suc b) n)

pub zeros-more : (n : ℕ) → listed no_places 0 n ++ 0 ∷ [] ≡ listed no_places 0 (n + 1)
zeros-more n = let one : suc n ≡ n + 1 = omega arith in zero-more 0 n ∙ ap (listed no_places 0) one

-- nothing stands there
pub set-beyond : (xs : List ℕ) (n x : ℕ) → length xs ≤ n → slice_set xs n x ≡ xs
set-beyond [] n x l = refl
set-beyond (y ∷ xs) zero x l = absurd (let none : ⊥ = omega (arith, l) in none)
set-beyond (y ∷ xs) (suc n) x l = ap (λ m. y ∷ m) (set-beyond xs n x (omega (arith, l)))

pub ruleset setting = (set-beyond)
