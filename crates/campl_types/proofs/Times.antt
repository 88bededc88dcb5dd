-- How often names stand in lists of names.
use Rattle.std.proofs.Common.{◌≡◌, inl, inr, refl, sym, ap, subst, ◌+◌, ◌≤◌, arith, Bool, true, false, not, List, [], ◌∷◌, ◌++◌}
use Rattle.campl_tree.specs.declared.place.Ident.{Ident}
use Rattle.campl_types.specs.Names.{Name, same_name, is_among, are_distinct}
use Rattle.campl_types.specs.World.{names_of}
use Rattle.campl_types.specs.Headers.{times, one_if}
use Rattle.campl_types.proofs.Names.{same-is}
use Rattle.campl_types.proofs.Truth.{split, no-both, not-true, and-first, and-second, or-split, or-none}

one-none : (b : Bool) → b ≡ false → one_if b ≡ 0
one-none b i = ap one_if i

one-some : (b : Bool) → b ≡ true → one_if b ≡ 1
one-some b i = ap one_if i

pub among-some : (n : Name) (xs : List Ident) → is_among n (names_of xs) ≡ true → 1 ≤ times n xs
among-some n [] i = absurd (no-both false i refl)
among-some n (x ∷ xs) i = elim (or-split (same_name n x.name) (is_among n (names_of xs)) i) [
  | inl j ↦ let e : one_if (same_name n x.name) ≡ 1 = one-some (same_name n x.name) j in omega (arith, e)
  | inr j ↦ let h : 1 ≤ times n xs = among-some n xs j in omega (arith, h)
]

pub among-none : (n : Name) (xs : List Ident) → is_among n (names_of xs) ≡ false → times n xs ≡ 0
among-none n [] i = refl
among-none n (x ∷ xs) i =
    let (a, b) = or-none (same_name n x.name) (is_among n (names_of xs)) i in
    let e : one_if (same_name n x.name) ≡ 0 = one-none (same_name n x.name) a in
    let h : times n xs ≡ 0 = among-none n xs b in
    omega (arith, e, h)

-- A header has no name twice

none-append : (n : Name) (xs ys : List Name) → is_among n (xs ++ ys) ≡ false → (is_among n xs ≡ false) × (is_among n ys ≡ false)
none-append n [] ys i = (refl, i)
none-append n (x ∷ xs) ys i =
    let (a, b) = or-none (same_name n x) (is_among n (xs ++ ys)) i in
    let (c, d) = none-append n xs ys b in
    (rw (a, c) refl, d)

pub at-most-once : (n : Name) (ys : List Ident) → are_distinct (names_of ys) ≡ true → times n ys ≤ 1
at-most-once n [] i = omega arith
at-most-once n (y ∷ ys) i =
    let a = and-first (not (is_among y.name (names_of ys))) (are_distinct (names_of ys)) i in
    let b = and-second (not (is_among y.name (names_of ys))) (are_distinct (names_of ys)) i in
    let r : times n ys ≤ 1 = at-most-once n ys b in
    elim (split (same_name n y.name)) [
      | inl j ↦
          let e : times n ys ≡ 0 = subst (λ z. times z ys ≡ 0) (sym (same-is n y.name j)) (among-none y.name ys (not-true (is_among y.name (names_of ys)) a)) in
          let f : one_if (same_name n y.name) ≡ 1 = one-some (same_name n y.name) j in
          omega (arith, e, f)
      | inr j ↦ let f : one_if (same_name n y.name) ≡ 0 = one-none (same_name n y.name) j in omega (arith, r, f)
    ]

pub once : (n : Name) (xs ys : List Ident) → are_distinct (names_of xs ++ names_of ys) ≡ true → times n xs + times n ys ≤ 1
once n [] ys i = let r : times n ys ≤ 1 = at-most-once n ys i in omega (arith, r)
once n (x ∷ xs) ys i =
    let a = and-first (not (is_among x.name (names_of xs ++ names_of ys))) (are_distinct (names_of xs ++ names_of ys)) i in
    let b = and-second (not (is_among x.name (names_of xs ++ names_of ys))) (are_distinct (names_of xs ++ names_of ys)) i in
    let r : times n xs + times n ys ≤ 1 = once n xs ys b in
    elim (split (same_name n x.name)) [
      | inl j ↦
          let (c, d) = none-append x.name (names_of xs) (names_of ys) (not-true (is_among x.name (names_of xs ++ names_of ys)) a) in
          let e : times n xs ≡ 0 = subst (λ z. times z xs ≡ 0) (sym (same-is n x.name j)) (among-none x.name xs c) in
          let g : times n ys ≡ 0 = subst (λ z. times z ys ≡ 0) (sym (same-is n x.name j)) (among-none x.name ys d) in
          let f : one_if (same_name n x.name) ≡ 1 = one-some (same_name n x.name) j in
          omega (arith, e, g, f)
      | inr j ↦ let f : one_if (same_name n x.name) ≡ 0 = one-none (same_name n x.name) j in omega (arith, r, f)
    ]
