-- The order in which parts are peeled, as code finds it.
use Rattle.std.proofs.Common.{◌≡◌, ◌∙◌, refl, sym, ap, ℕ, zero, suc, ◌+◌, ◌-◌, ◌<◌, ◌≤◌, Bool, true, false, not, ◌&&◌, ◌||◌, ◌==◌, List, [], ◌∷◌, ◌++◌, map, reverse, Option, Some, None, if◌then◌else◌, option_map, length, drop, take, get_or, slice_get, append_assoc, ne_eqb, arith}
use Rattle.std.specs.List.{list_any}
use Rattle.std.proofs.lemmas.List.{drop_all, drop_more, reverse-append}
use Rattle.campl_tree.specs.declared.place.Ident.{Ident}
use Rattle.campl_tree.specs.declared.service.Side.{Side}
use Rattle.campl_tree.specs.declared.process.Part.{Part}
use Rattle.campl_tree.specs.Plain.Process as b
use Rattle.campl_tree.specs.Plain.Process.{Body, Header, Parts}
use Rattle.campl_tree.specs.View.{view_part, view_link, parts as part_list}
use Rattle.campl_tree.proofs.Views.{view_part-out}
use Rattle.campl_types.specs.Headers.{count}
use Rattle.campl_types.specs.Names.{Name, same_name, is_among}
use Rattle.campl_types.specs.World.{names_of}
use Rattle.campl_plug.specs.declared.plug.Link.{Link as Join}
use Rattle.campl_plug.specs.TreeOrder.{joins, is_linked, new_neighbours, searched, tree_order_of}
use Rattle.campl_peel.specs.Numbered.{part_at, picked, add_part, one_up, number_of, inputs_in, outputs_in, joined_by, joined_parts, last_first}
use Rattle.campl_gen_channels.specs.Orders.{names_on, put_before, item_at, items_at, view_part_at}

drop-at : {A : Type 0} (xs : List A) (i : ℕ) (x : A) → i < length xs → x ≡ get_or xs i x → drop i xs ≡ x ∷ drop (i + 1) xs
drop-at xs i x l is = drop_more xs i x l ∙ ap (λ y. y ∷ drop (i + 1) xs) (sym is)

-- Names

pub named-at : (x : Name) (xs : List Ident) (i : ℕ) (y : Ident) → i < length xs → y ≡ get_or xs i y → is_among x (names_of (drop i xs)) ≡ (same_name x y.name || is_among x (names_of (drop (i + 1) xs)))
named-at x xs i y l is = ap (λ d. is_among x (names_of d)) (drop-at xs i y l is)

pub named-end : (x : Name) (xs : List Ident) (i : ℕ) → length xs ≤ i → is_among x (names_of (drop i xs)) ≡ false
named-end x xs i l = ap (λ d. is_among x (names_of d)) (drop_all i xs l)

pub ruleset headers = (view_part-out)

-- Numbers of parts

-- a number so many parts further on
abbrev pub further : ℕ → ℕ → ℕ
further i zero = 0
further i (suc p) = suc (p + i)

further-up : (i n : ℕ) → further i (one_up n) ≡ further (i + 1) n
further-up i zero = refl
further-up i (suc n) = omega arith

module _ (side : Side) (x : Name) (parts : List Part) (i : ℕ) where
  pub with-at : (p : Part) → i < length parts → p ≡ get_or parts i p → is_among x (names_of (names_on side (view_part p).0)) ≡ false
      → further i (number_of (names_on side) x (part_list (map view_part (drop i parts)))) ≡ further (i + 1) (number_of (names_on side) x (part_list (map view_part (drop (i + 1) parts))))
  with-at p l is isnt =
      let rest = part_list (map view_part (drop (i + 1) parts)) in
      ap (λ d. further i (number_of (names_on side) x (part_list (map view_part d)))) (drop-at parts i p l is)
      ∙ ap (λ k. further i (if k then 1 else one_up (number_of (names_on side) x rest))) isnt ∙ further-up i (number_of (names_on side) x rest)

  pub with-here : (p : Part) → i < length parts → p ≡ get_or parts i p → is_among x (names_of (names_on side (view_part p).0)) ≡ true
      → further i (number_of (names_on side) x (part_list (map view_part (drop i parts)))) ≡ i + 1
  with-here p l is stands =
      let one : suc (0 + i) ≡ i + 1 = omega arith in
      ap (λ d. further i (number_of (names_on side) x (part_list (map view_part d)))) (drop-at parts i p l is)
      ∙ ap (λ k. further i (if k then 1 else one_up (number_of (names_on side) x (part_list (map view_part (drop (i + 1) parts)))))) stands ∙ one

  pub with-end : length parts ≤ i → further i (number_of (names_on side) x (part_list (map view_part (drop i parts)))) ≡ 0
  with-end l = ap (λ d. further i (number_of (names_on side) x (part_list (map view_part d)))) (drop_all i parts l)

further-none : (n : ℕ) → further 0 n ≡ n
further-none zero = refl
further-none (suc n) = let z : suc (n + 0) ≡ suc n = omega arith in z

pub with-start : (side : Side) (x : Name) (parts : List Part) → further 0 (number_of (names_on side) x (part_list (map view_part parts))) ≡ number_of (names_on side) x (part_list (map view_part parts))
with-start side x parts = further-none (number_of (names_on side) x (part_list (map view_part parts)))

-- The order

pub neighbours-more : (n k : ℕ) (links : List Join) (order : List ℕ) (p : ℕ) → k ≡ n + 1
    → new_neighbours k links order p ≡ new_neighbours n links order p ++ (if is_linked links p k && not (list_any (λ x. x == k) order) then k ∷ [] else [])
neighbours-more n k links order p is =
    let up : k ≡ suc n = omega (arith, is) in
    ap (λ m. new_neighbours m links order p) up ∙ ap (λ m. new_neighbours n links order p ++ (if is_linked links p m && not (list_any (λ x. x == m) order) then m ∷ [] else [])) (sym up)

pub linked-at : (links : List Join) (i : ℕ) (l : Join) (p q : ℕ) → i < length links → l ≡ get_or links i l → is_linked (drop i links) p q ≡ (joins l p q || is_linked (drop (i + 1) links) p q)
linked-at links i l p q less is = ap (λ d. is_linked d p q) (drop-at links i l less is)

pub linked-end : (links : List Join) (i p q : ℕ) → length links ≤ i → is_linked (drop i links) p q ≡ false
linked-end links i p q l = ap (λ d. is_linked d p q) (drop_all i links l)

-- one more step of the search
pub searched-on : (k i : ℕ) (links : List Join) (order : List ℕ) (p : ℕ) → i < k → slice_get order i ≡ Some p
    → searched (k - i) k links order i ≡ searched (k - (i + 1)) k links (order ++ new_neighbours k links order p) (i + 1)
searched-on k i links order p l is =
    let up : k - i ≡ suc (k - (i + 1)) = omega (arith, l) in
    let one : suc i ≡ i + 1 = omega arith in
    ap (λ n. searched n k links order i) up
    ∙ ap (λ o. elim o [ None ↦ order | Some q ↦ searched (k - (i + 1)) k links (order ++ new_neighbours k links order q) (suc i) ]) is
    ∙ ap (λ j. searched (k - (i + 1)) k links (order ++ new_neighbours k links order p) j) one

pub searched-out : (k i : ℕ) (links : List Join) (order : List ℕ) → i < k → slice_get order i ≡ None → searched (k - i) k links order i ≡ order
searched-out k i links order l is =
    let up : k - i ≡ suc (k - (i + 1)) = omega (arith, l) in
    ap (λ n. searched n k links order i) up
    ∙ ap (λ o. elim o [ None ↦ order | Some q ↦ searched (k - (i + 1)) k links (order ++ new_neighbours k links order q) (suc i) ]) is

pub searched-end : (k i : ℕ) (links : List Join) (order : List ℕ) → k ≤ i → searched (k - i) k links order i ≡ order
searched-end k i links order l = let none : k - i ≡ 0 = omega (arith, l) in ap (λ n. searched n k links order i) none

pub searched-start : (k : ℕ) (links : List Join) → searched (k - 0) k links (1 ∷ []) 0 ≡ tree_order_of k links
searched-start k links = let all : k - 0 ≡ k = omega arith in ap (λ n. searched n k links (1 ∷ []) 0) all

-- Parts by numbers

item-next : {A : Type 0} (xs : List A) (p : ℕ) → item_at xs (suc p) ≡ slice_get xs p
item-next xs p = rw (ne_eqb (suc p) 0 (λ i. omega arith)) (let less : suc p - 1 ≡ p = omega arith in ap (slice_get xs) less)

part-there : (parts : List Part) (p : ℕ) → part_at (part_list (map view_part parts)) p ≡ option_map view_part (item_at parts p)
part-there parts zero = none parts
  where
    none : (xs : List Part) → part_at (part_list (map view_part xs)) zero ≡ None
    none [] = refl
    none (x ∷ xs) = refl
part-there parts (suc p) = go parts p ∙ ap (option_map view_part) (sym (item-next parts p))
  where
    go : (xs : List Part) (q : ℕ) → part_at (part_list (map view_part xs)) (suc q) ≡ option_map view_part (slice_get xs q)
    go [] q = refl
    go (x ∷ xs) zero = refl
    go (x ∷ xs) (suc q) = go xs q

add-before : (o : Option Part) (rest : List Part) → add_part (option_map view_part o) (part_list (map view_part rest)) ≡ part_list (map view_part (put_before o rest))
add-before None rest = refl
add-before (Some p) rest = refl

pub picked-items : (parts : List Part) (ns : List ℕ) → part_list (map view_part (items_at parts ns)) ≡ picked (part_list (map view_part parts)) ns
picked-items parts [] = refl
picked-items parts (n ∷ ns) =
    sym (ap (add_part (part_at (part_list (map view_part parts)) n)) (sym (picked-items parts ns)) ∙ ap (λ o. add_part o (part_list (map view_part (items_at parts ns)))) (part-there parts n)
    ∙ add-before (item_at parts n) (items_at parts ns))

pub counted : (parts : List Part) → count (part_list (map view_part parts)) ≡ length parts
counted [] = refl
counted (p ∷ parts) = let h : count (part_list (map view_part parts)) ≡ length parts = counted parts in omega (arith, h)

before-append : (o : Option Part) (rest : List Part) → map view_part (put_before o rest) ≡ map view_part (put_before o []) ++ map view_part rest
before-append None rest = refl
before-append (Some p) rest = refl

take-more : (xs : List ℕ) (n x : ℕ) → slice_get xs n ≡ Some x → take (n + 1) xs ≡ take n xs ++ x ∷ []
take-more xs n x is = let one : n + 1 ≡ suc n = omega arith in ap (λ m. take m xs) one ∙ go xs n is
  where
    go : (ys : List ℕ) (m : ℕ) → slice_get ys m ≡ Some x → take (suc m) ys ≡ take m ys ++ x ∷ []
    go [] m j = absurd (let none : ⊥ = cc in none)
    go (y ∷ ys) zero j = let same : y ≡ x = cc in ap (λ z. z ∷ []) same
    go (y ∷ ys) (suc m) j = ap (λ l. y ∷ l) (go ys m j)

-- one more part is picked
pub pick-at : (parts : List Part) (order : List ℕ) (n p : ℕ) → slice_get order n ≡ Some p
    → map view_part (items_at parts (reverse (take (n + 1) order))) ≡ map view_part (put_before (item_at parts p) []) ++ map view_part (items_at parts (reverse (take n order)))
pick-at parts order n p is =
    ap (λ l. map view_part (items_at parts (reverse l))) (take-more order n p is)
    ∙ ap (λ l. map view_part (items_at parts l)) (reverse-append (take n order) (p ∷ []))
    ∙ before-append (item_at parts p) (items_at parts (reverse (take n order)))

pub ruleset lists = (picked-items, counted)
