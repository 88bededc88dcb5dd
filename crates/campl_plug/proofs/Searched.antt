-- The search: what its order is like after each step, and at the end.
use Rattle.std.proofs.Common.{◌≡◌, ℕ, zero, suc, ◌+◌, ◌<◌, ◌≤◌, ◌⊎◌, inl, inr, Bool, true, false, eqb, ltb, if◌then◌else◌, List, [], ◌∷◌, ◌++◌, Some, length, refl, sym, ap, subst, arith, length-append}
use Rattle.std.proofs.lemmas.Bool.{eq-eqb, cases_Bool, cases_eq, ne_eqb, ltb-false}
use Rattle.std.specs.List.{slice_get}
use Rattle.std.proofs.lemmas.Option.{slice_get_within}
use Rattle.campl_plug.specs.declared.plug.Link.{Link}
use Rattle.campl_plug.specs.Links.{IsPart, Linked, Path}
use Rattle.campl_plug.specs.Tree.{AreReached}
use Rattle.campl_plug.specs.Order.{IsDistance, IsPredecessor, IsBefore, ComesFirst, IsBreadthFirst}
use Rattle.campl_plug.specs.Search.{AreNewNeighbours}
use Rattle.campl_plug.proofs.Places.{get-front, get-back, get-split, get-there, get-one}
use Rattle.campl_plug.proofs.Counts.{passing, passing-more, passing-none, passing-within}

-- the search has been through the first n parts of its order; the part at place j came by the one at place up j
pub record Searched (k : ℕ) (links : List Link) (n : ℕ) (order : List ℕ) (up : ℕ → ℕ) : Type 0 where
  pub first : slice_get order 0 ≡ Some 1
  pub gone : n ≤ length order
  pub parts_alone : (i p : ℕ) → slice_get order i ≡ Some p → IsPart k p
  pub once : (i j p : ℕ) → slice_get order i ≡ Some p → slice_get order j ≡ Some p → i ≡ j
  pub later : (j q : ℕ) → slice_get order j ≡ Some q → 0 < j → (up j < n) × (up j < j)
  pub linked : (j p q : ℕ) → slice_get order j ≡ Some q → 0 < j → slice_get order (up j) ≡ Some p → Linked links p q
  pub rising : (i j p q : ℕ) → 0 < i → i < j → slice_get order i ≡ Some p → slice_get order j ≡ Some q → (up i < up j) ⊎ ((up i ≡ up j) × (p < q))
  pub closed : (i p q : ℕ) → i < n → slice_get order i ≡ Some p → Linked links p q → (j : ℕ) × (slice_get order j ≡ Some q) × ((0 < j) → up j ≤ i)

-- by some places
abbrev pub AreSearched : ℕ → List Link → ℕ → List ℕ → Type 0
AreSearched k links n order = (up : ℕ → ℕ) × Searched k links n order up

pub searched-first : (k : ℕ) (links : List Link) → 1 ≤ k → AreSearched k links 0 (1 ∷ [])
searched-first k links some = (
  (λ j. 0),
  record {
    first = refl;
    gone = omega arith;
    parts_alone = λ i p e. subst (IsPart k) (of_one i p e).1 (record { low = omega arith; high = some });
    once = λ i j p a b. let x : i ≡ 0 = (of_one i p a).0 in let y : j ≡ 0 = (of_one j p b).0 in omega (arith, x, y);
    later = λ j q e h. absurd (let y : j ≡ 0 = (of_one j q e).0 in omega (arith, y, h));
    linked = λ j p q e h f. absurd (let y : j ≡ 0 = (of_one j q e).0 in omega (arith, y, h));
    rising = λ i j p q h g e f. absurd (let y : j ≡ 0 = (of_one j q f).0 in omega (arith, y, h, g));
    closed = λ i p q h. absurd (omega (arith, h));
  },
)
  where
    of_one : (i p : ℕ) → slice_get (1 ∷ []) i ≡ Some p → (i ≡ 0) × (1 ≡ p)
    of_one zero p e = (refl, cc)
    of_one (suc i) p e = absurd (let no : ⊥ = cc in no)

-- the place that a new part came by is n
came_by : (size n : ℕ) → (ℕ → ℕ) → ℕ → ℕ
came_by size n up j = if ltb j size then up j else n

module _ (k : ℕ) (links : List Link) (n : ℕ) (order : List ℕ) (up : ℕ → ℕ) (s : Searched k links n order up)
    (p : ℕ) (here : slice_get order n ≡ Some p) (found : List ℕ) (new : AreNewNeighbours k links order p found) where
  next : ℕ → ℕ
  next = came_by (length order) n up

  next-old : (j : ℕ) → j < length order → next j ≡ up j
  unfolding next came_by
  next-old j h = elim (cases_Bool (ltb j (length order))) [
    | inl i ↦ rw i refl
    | inr i ↦ absurd (omega (arith, h, ltb-false j (length order) i))
  ]

  next-new : (j m : ℕ) → j ≡ length order + m → next j ≡ n
  unfolding next came_by
  next-new j m h = elim (cases_Bool (ltb j (length order))) [
    | inl i ↦ absurd (let g : j < length order = grind (arith, i) in omega (arith, g, h))
    | inr i ↦ rw i refl
  ]

  wide : suc n ≤ length order
  wide = let h : n < length order = slice_get_within order n p here in omega (arith, h)

  -- in the order as it grows a part is old, or one of those found
  cases : (j q : ℕ) → slice_get (order ++ found) j ≡ Some q → ((j < length order) × (slice_get order j ≡ Some q)) ⊎ ((m : ℕ) × (j ≡ length order + m) × (slice_get found m ≡ Some q))
  cases = get-split order found

  new_once : (i j q : ℕ) → slice_get (order ++ found) i ≡ Some q → slice_get (order ++ found) j ≡ Some q → i ≡ j
  new_once i j q a b = elim (cases i q a) [
    | inl x ↦ elim (cases j q b) [
      | inl y ↦ s.once i j q x.1 y.1
      | inr y ↦ absurd (new.unseen y.0 i q y.2 x.1)
    ]
    | inr x ↦ elim (cases j q b) [
      | inl y ↦ absurd (new.unseen x.0 j q x.2 y.1)
      | inr y ↦ let e : x.0 ≡ y.0 = found_once x.0 y.0 q x.2 y.2 in omega (arith, e, x.1, y.1)
    ]
  ]
    where
      found_once : (i j q : ℕ) → slice_get found i ≡ Some q → slice_get found j ≡ Some q → i ≡ j
      found_once i j q a b = elim (cases_eq i j) [
        | inl e ↦ e
        | inr e ↦ elim (cases_Bool (ltb i j)) [
          | inl h ↦ absurd (let g : i < j = grind (arith, h) in let r : q < q = new.rising i j q q g a b in omega (arith, r))
          | inr h ↦ absurd (let g : j < i = grind (arith, h, e) in let r : q < q = new.rising j i q q g b a in omega (arith, r))
        ]
      ]

  new_later : (j q : ℕ) → slice_get (order ++ found) j ≡ Some q → 0 < j → (next j < suc n) × (next j < j)
  new_later j q e h = elim (cases j q e) [
    | inl x ↦ let o : next j ≡ up j = next-old j x.0 in let l : (up j < n) × (up j < j) = s.later j q x.1 h in (omega (arith, o, l.0), omega (arith, o, l.1))
    | inr x ↦ let o : next j ≡ n = next-new j x.0 x.1 in (omega (arith, o), omega (arith, o, wide, x.1))
  ]

  new_linked : (j r q : ℕ) → slice_get (order ++ found) j ≡ Some q → 0 < j → slice_get (order ++ found) (next j) ≡ Some r → Linked links r q
  new_linked j r q e h f = elim (cases j q e) [
    | inl x ↦
        let o : next j ≡ up j = next-old j x.0 in
        let l : (up j < n) × (up j < j) = s.later j q x.1 h in
        let (t, g) = get-there order (up j) (omega (arith, l.0, s.gone)) in
        let same : t ≡ r = get-one (order ++ found) (up j) t r (get-front order found (up j) t g) (subst (λ z. slice_get (order ++ found) z ≡ Some r) o f) in
        subst (λ z. Linked links z q) same (s.linked j t q x.1 h g)
    | inr x ↦
        let o : next j ≡ n = next-new j x.0 x.1 in
        let same : p ≡ r = get-one (order ++ found) n p r (get-front order found n p here) (subst (λ z. slice_get (order ++ found) z ≡ Some r) o f) in
        subst (λ z. Linked links z q) same (new.linked x.0 q x.2)
  ]

  new_rising : (i j q r : ℕ) → 0 < i → i < j → slice_get (order ++ found) i ≡ Some q → slice_get (order ++ found) j ≡ Some r → (next i < next j) ⊎ ((next i ≡ next j) × (q < r))
  new_rising i j q r h g a b = elim (cases i q a) [
    | inl x ↦
        let o : next i ≡ up i = next-old i x.0 in
        elim (cases j r b) [
          | inl y ↦
              let u : next j ≡ up j = next-old j y.0 in
              elim (s.rising i j q r h g x.1 y.1) [
                | inl z ↦ inl (omega (arith, o, u, z))
                | inr z ↦ inr (omega (arith, o, u, z.0), z.1)
              ]
          | inr y ↦
              let u : next j ≡ n = next-new j y.0 y.1 in
              let l : (up i < n) × (up i < i) = s.later i q x.1 h in
              inl (omega (arith, o, u, l.0))
        ]
    | inr x ↦
        let o : next i ≡ n = next-new i x.0 x.1 in
        elim (cases j r b) [
          | inl y ↦ absurd (omega (arith, x.1, y.0, g))
          | inr y ↦
              let u : next j ≡ n = next-new j y.0 y.1 in
              inr (omega (arith, o, u), new.rising x.0 y.0 q r (omega (arith, x.1, y.1, g)) x.2 y.2)
        ]
  ]

  new_closed : ((q r : ℕ) → Linked links q r → IsPart k r) → (i q r : ℕ) → i < suc n → slice_get (order ++ found) i ≡ Some q → Linked links q r → (j : ℕ) × (slice_get (order ++ found) j ≡ Some r) × ((0 < j) → next j ≤ i)
  new_closed parts i q r h e l =
      let small : i < length order = omega (arith, h, wide) in
      let (t, g) = get-there order i small in
      let same : t ≡ q = get-one (order ++ found) i t q (get-front order found i t g) e in
      let old : slice_get order i ≡ Some q = subst (λ z. slice_get order i ≡ Some z) same g in
      elim (cases_eq i n) [
        | inl at ↦ elim (new.each r (parts q r l) (subst (λ z. Linked links z r) (get-one order n q p (subst (λ z. slice_get order z ≡ Some q) at old) here) l)) [
          | inl there ↦ (
            there.0,
            get-front order found there.0 r there.1,
            λ pos.
                let o : next there.0 ≡ up there.0 = next-old there.0 (slice_get_within order there.0 r there.1) in
                let u : (up there.0 < n) × (up there.0 < there.0) = s.later there.0 r there.1 pos in
                omega (arith, o, u.0, at),
          )
          | inr there ↦ (
            length order + there.0,
            get-back order found (length order + there.0) there.0 r refl there.1,
            λ pos.
                let o : next (length order + there.0) ≡ n = next-new (length order + there.0) there.0 refl in
                omega (arith, o, at),
          )
        ]
        | inr off ↦
            let there : (j : ℕ) × (slice_get order j ≡ Some r) × ((0 < j) → up j ≤ i) = s.closed i q r (omega (arith, h, off)) old l in (
              there.0,
              get-front order found there.0 r there.1,
              λ pos.
                  let o : next there.0 ≡ up there.0 = next-old there.0 (slice_get_within order there.0 r there.1) in
                  let u : up there.0 ≤ i = there.2 pos in
                  omega (arith, o, u),
            )
      ]

  -- after the neighbours of the next part are added
  pub searched-more : ((q r : ℕ) → Linked links q r → IsPart k r) → AreSearched k links (suc n) (order ++ found)
  searched-more parts = (
    next,
    record {
      first = get-front order found 0 1 s.first;
      gone = let e : length (order ++ found) ≡ length order + length found = length-append order found in omega (arith, wide, e);
      parts_alone = λ i q e. elim (cases i q e) [ inl x ↦ s.parts_alone i q x.1 | inr x ↦ new.parts_alone x.0 q x.2 ];
      once = new_once;
      later = new_later;
      linked = new_linked;
      rising = new_rising;
      closed = new_closed parts;
    },
  )

-- a list in which each part stands at most once is no longer than there are parts
abbrev seen : List ℕ → ℕ → Bool
seen [] p = false
seen (x ∷ xs) p = if eqb x p then true else seen xs p

abbrev Once : List ℕ → Type 0
Once xs = (i j p : ℕ) → slice_get xs i ≡ Some p → slice_get xs j ≡ Some p → i ≡ j

unseen : (xs : List ℕ) (p : ℕ) → ((i : ℕ) → slice_get xs i ≡ Some p → ⊥) → seen xs p ≡ false
unseen [] p h = refl
unseen (x ∷ xs) p h = rw (ne_eqb x p (λ e. h zero (ap Some e))) (unseen xs p (λ i. h (suc i)))

seen-all : (k : ℕ) (xs : List ℕ) → ((i p : ℕ) → slice_get xs i ≡ Some p → IsPart k p) → Once xs → passing (seen xs) k ≡ length xs
seen-all k [] parts once = passing-none k
seen-all k (x ∷ xs) parts once =
    let r : passing (seen xs) k ≡ length xs = seen-all k xs (λ i. parts (suc i)) (λ i j p a b. let e : suc i ≡ suc j = once (suc i) (suc j) p a b in omega (arith, e)) in
    let more : passing (seen (x ∷ xs)) k ≡ suc (passing (seen xs) k) = passing-more (seen xs) (seen (x ∷ xs)) k x (parts zero x refl)
    (unseen xs x (λ i e. absurd (let h : zero ≡ suc i = once zero (suc i) x refl e in omega (arith, h))))
    (rw (eq-eqb x x refl) refl)
    (λ p part ne. rw (ne_eqb x p (λ e. ne (sym e))) refl) in
    omega (arith, r, more)

pub once-length : (k : ℕ) (xs : List ℕ) → ((i p : ℕ) → slice_get xs i ≡ Some p → IsPart k p) → Once xs → length xs ≤ k
once-length k xs parts once = let e : passing (seen xs) k ≡ length xs = seen-all k xs parts once in let w : passing (seen xs) k ≤ k = passing-within (seen xs) k in omega (arith, e, w)

-- how many steps back by up lead from place j to the first, which fuel bounds
abbrev depth : (ℕ → ℕ) → ℕ → ℕ → ℕ
depth up zero j = 0
depth up (suc fuel) zero = 0
depth up (suc fuel) (suc j) = suc (depth up fuel (up (suc j)))

-- when the search has been through its whole order
module _ (k : ℕ) (links : List Link) (order : List ℕ) (up : ℕ → ℕ) (s : Searched k links (length order) order up) where
  below : (j : ℕ) → suc j < length order → up (suc j) ≤ j
  below j h =
      let (q, e) = get-there order (suc j) h in
      let l : (up (suc j) < length order) × (up (suc j) < suc j) = s.later (suc j) q e (omega arith) in
      omega (arith, l.1)

  -- any bound that suffices gives the same depth
  same-depth : (f g j : ℕ) → j < length order → j ≤ f → j ≤ g → depth up f j ≡ depth up g j
  same-depth zero zero j h a b = refl
  same-depth zero (suc g) zero h a b = refl
  same-depth zero (suc g) (suc j) h a b = absurd (omega (arith, a))
  same-depth (suc f) zero zero h a b = refl
  same-depth (suc f) zero (suc j) h a b = absurd (omega (arith, b))
  same-depth (suc f) (suc g) zero h a b = refl
  same-depth (suc f) (suc g) (suc j) h a b =
      let u : up (suc j) ≤ j = below j h in
      ap suc (same-depth f g (up (suc j)) (omega (arith, u, h)) (omega (arith, u, a)) (omega (arith, u, b)))

  deep : ℕ → ℕ
  deep j = depth up (length order) j

  deep-first : deep 0 ≡ 0
  unfolding deep
  deep-first = go (length order)
    where
      go : (n : ℕ) → depth up n 0 ≡ 0
      go zero = refl
      go (suc n) = refl

  deep-later : (j : ℕ) → 0 < j → j < length order → deep j ≡ suc (deep (up j))
  unfolding deep
  deep-later zero h g = absurd (omega (arith, h))
  deep-later (suc j) h g =
      let u : up (suc j) ≤ j = below j g in
      same-depth (length order) (suc (length order)) (suc j) g (omega (arith, g)) (omega (arith, g))

  -- the depth rises along the order
  deep-rises : (n i j : ℕ) → j ≤ n → i ≤ j → j < length order → deep i ≤ deep j
  deep-rises n zero j b h g = let e : deep 0 ≡ 0 = deep-first in omega (arith, e)
  deep-rises n (suc i) zero b h g = absurd (omega (arith, h))
  deep-rises zero (suc i) (suc j) b h g = absurd (omega (arith, b))
  deep-rises (suc n) (suc i) (suc j) b h g = elim (cases_eq (suc i) (suc j)) [
    | inl e ↦ let r : deep (suc i) ≡ deep (suc j) = ap deep e in omega (arith, r)
    | inr e ↦
        let a : deep (suc i) ≡ suc (deep (up (suc i))) = deep-later (suc i) (omega arith) (omega (arith, h, g)) in
        let c : deep (suc j) ≡ suc (deep (up (suc j))) = deep-later (suc j) (omega arith) g in
        let u : up (suc j) ≤ j = below j g in
        let v : up (suc i) ≤ up (suc j) = ups (suc i) (suc j) (omega arith) (omega (arith, h, e)) g in
        let r : deep (up (suc i)) ≤ deep (up (suc j)) = deep-rises n (up (suc i)) (up (suc j)) (omega (arith, u, b)) v (omega (arith, u, g)) in
        omega (arith, a, c, r)
  ]
    where
      ups : (i j : ℕ) → 0 < i → i < j → j < length order → up i ≤ up j
      ups i j h g t =
          let (p, a) = get-there order i (omega (arith, g, t)) in
          let (q, b) = get-there order j t in
          elim (s.rising i j p q h g a b) [ inl z ↦ omega (arith, z) | inr z ↦ omega (arith, z.0) ]

  -- a path of as many links as the depth leads to a part of the order
  deep-path : (n j q : ℕ) → j ≤ n → slice_get order j ≡ Some q → Path links (deep j) 1 q
  deep-path n zero q b e = subst (λ z. Path links z 1 q) (sym deep-first) (get-one order 0 1 q s.first e)
  deep-path zero (suc j) q b e = absurd (omega (arith, b))
  deep-path (suc n) (suc j) q b e =
      let t : suc j < length order = slice_get_within order (suc j) q e in
      let u : up (suc j) ≤ j = below j t in
      let (r, f) = get-there order (up (suc j)) (omega (arith, u, t)) in
      let c : deep (suc j) ≡ suc (deep (up (suc j))) = deep-later (suc j) (omega arith) t in
      subst (λ z. Path links z 1 q) (sym c) (r, deep-path n (up (suc j)) r (omega (arith, u, b)) f, s.linked (suc j) r q e (omega arith) f)

  -- what a path of m links leads to stands in the order, at a depth of at most m
  path-deep : (m q : ℕ) → Path links m 1 q → (j : ℕ) × (slice_get order j ≡ Some q) × (deep j ≤ m)
  path-deep zero q e = (0, subst (λ z. slice_get order 0 ≡ Some z) e s.first, omega (arith, deep-first))
  path-deep (suc m) q (r, path, last) =
      let (i, e, d) = path-deep m r path in
      let t : i < length order = slice_get_within order i r e in
      let (j, f, by) = s.closed i r q t e last in (
        j,
        f,
        elim (cases_eq j 0) [
          | inl z ↦ let c : deep j ≡ deep 0 = ap deep z in omega (arith, c, deep-first)
          | inr z ↦
              let c : deep j ≡ suc (deep (up j)) = deep-later j (omega (arith, z)) (slice_get_within order j q f) in
              let u : up j ≤ i = by (omega (arith, z)) in
              let v : deep (up j) ≤ deep i = deep-rises i (up j) i (omega arith) u t in
              omega (arith, c, v, d)
        ],
      )

  distance : (j q : ℕ) → slice_get order j ≡ Some q → IsDistance links q (deep j)
  distance j q e = record {
    path = deep-path j j q (omega arith) e;
    shortest = λ m path.
        let (i, f, d) = path-deep m q path in
        let same : deep i ≡ deep j = ap deep (s.once i j q f e) in
        omega (arith, same, d);
  }

  -- the part that q came by is its predecessor
  came-by : (j r q : ℕ) → 0 < j → slice_get order j ≡ Some q → slice_get order (up j) ≡ Some r → IsPredecessor links r q
  came-by j r q h e f =
      let c : deep j ≡ suc (deep (up j)) = deep-later j h (slice_get_within order j q e) in
      let d : deep j ≡ deep (up j) + 1 = omega (arith, c) in
      record { linked = s.linked j r q e h f; nearer = (deep (up j), distance (up j) r f, subst (IsDistance links q) d (distance j q e)) }

  in_order : (p q : ℕ) → IsBefore order p q → ComesFirst links order p q
  in_order p q (i, j, h, a, b) =
      let t : j < length order = slice_get_within order j q b in
      let r : deep i ≤ deep j = deep-rises j i j (omega arith) (omega (arith, h)) t in
      elim (cases_eq (deep i) (deep j)) [
        | inr e ↦ inl (deep i, deep j, distance i p a, distance j q b, omega (arith, e, r))
        | inl e ↦
            let c : deep j ≡ suc (deep (up j)) = deep-later j (omega (arith, h)) t in
            let pos : 0 < i = elim (cases_eq i 0) [
              | inl z ↦ absurd (let d : deep i ≡ deep 0 = ap deep z in omega (arith, d, deep-first, e, c))
              | inr z ↦ omega (arith, z)
            ] in
            let ib : (up i < length order) × (up i < i) = s.later i p a pos in
            let jb : (up j < length order) × (up j < j) = s.later j q b (omega (arith, h)) in
            let (x, ex) = get-there order (up i) ib.0 in
            let (y, ey) = get-there order (up j) jb.0 in
            let px : IsPredecessor links x p = came-by i x p pos a ex in
            let py : IsPredecessor links y q = came-by j y q (omega (arith, h)) b ey in
            inr (
              (deep i, distance i p a, subst (IsDistance links q) (sym e) (distance j q b)),
              elim (s.rising i j p q pos h a b) [
                | inl z ↦ inl (x, y, px, py, (up i, up j, z, ex, ey))
                | inr z ↦ inr (x, px, subst (λ v. IsPredecessor links v q) (get-one order (up j) y x ey (subst (λ v. slice_get order v ≡ Some x) z.0 ex)) py, z.1)
              ],
            )
      ]

  -- the order of the search is the breadth-first order
  pub search-is-breadth-first : AreReached k links → IsBreadthFirst k links order
  search-is-breadth-first reached = record {
    parts_alone = s.parts_alone;
    each_part = λ p part. let (n, path) = reached p part in let (j, e, d) = path-deep n p path in (j, e);
    once = s.once;
    sorted = in_order;
  }
