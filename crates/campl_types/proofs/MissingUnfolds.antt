-- The missing pattern is what its rules say, however deep heads are tried inside heads: the bound on that
-- depth never cuts a trial off.
use Rattle.std.proofs.Common.{◌≡◌, refl, sym, ap, subst, ℕ, zero, suc, ◌+◌, ◌≤◌, Bool, true, false, ◌&&◌, List, [], ◌∷◌, ◌++◌, Option, Some, None, if◌then◌else◌, length, option_map, arith, eqb}
use Rattle.campl_tree.specs.Plain.SeqType.{SeqType}
use Rattle.campl_types.specs.Names.{same_name}
use Rattle.campl_types.specs.Forms as f
use Rattle.campl_types.specs.Forms.{Form, Forms, anythings}
use Rattle.campl_types.specs.World.{World}
use Rattle.campl_types.specs.Missing.{Row, Head, IsNumber, IsCharacter, IsTruth, IsNil, IsCons, IsPair, IsBuilt, IsOther, parts_of, heads, opened, opened_rows, and_then, is_open, all_open, column, first_missing, missing_by, missing_within, missing, weight, weights, row_weight, rows_weight}

-- Weights

weight-append : (qs ps : Row) → row_weight (qs ++ ps) ≡ row_weight qs + row_weight ps
weight-append [] ps = omega arith
weight-append (q ∷ qs) ps = let i : row_weight (qs ++ ps) ≡ row_weight qs + row_weight ps = weight-append qs ps in omega (arith, i)

weight-anythings : (n : ℕ) → row_weight (anythings n) ≡ 0
weight-anythings zero = refl
weight-anythings (suc n) = let i : row_weight (anythings n) ≡ 0 = weight-anythings n in omega (arith, i)

weight-parts : (ps : Forms) → weights ps ≡ row_weight (f.list_of ps)
weight-parts f.none = refl
weight-parts (f.more p ps) = let i : weights ps ≡ row_weight (f.list_of ps) = weight-parts ps in omega (arith, i)

-- what an open pattern is opened to weighs nothing, and what another is opened to weighs less than it
abbrev pub one_if_closed : Bool → ℕ
one_if_closed true = 0
one_if_closed false = 1

so-weight : (b : Bool) (ps qs : List Form) → (if b then Some ps else None) ≡ Some qs → row_weight qs ≡ row_weight ps
so-weight true ps qs i = let e : ps ≡ qs = cc i in ap row_weight (sym e)
so-weight false ps qs i = absurd (cc i)

some-weight : (ps qs : List Form) → Some ps ≡ Some qs → row_weight qs ≡ row_weight ps
some-weight ps qs i = let e : ps ≡ qs = cc i in ap row_weight (sym e)

opened-weight : (h : Head) (p : Form) (qs : List Form) → opened h p ≡ Some qs → row_weight qs + one_if_closed (is_open p) ≤ weight p
opened-weight h f.Anything qs i = let a = some-weight (anythings (length (parts_of h))) qs i in let z = weight-anythings (length (parts_of h)) in omega (arith, a, z)
opened-weight h (f.Variable x) qs i = let a = some-weight (anythings (length (parts_of h))) qs i in let z = weight-anythings (length (parts_of h)) in omega (arith, a, z)
opened-weight (IsNumber m) (f.Number n) qs i = let a = so-weight _ [] qs i in omega (arith, a)
opened-weight (IsCharacter c) (f.Character d) qs i = let a = so-weight _ [] qs i in omega (arith, a)
opened-weight (IsTruth b) (f.Truth c) qs i = let a = so-weight _ [] qs i in omega (arith, a)
opened-weight IsNil f.Nil qs i = let a = some-weight [] qs i in omega (arith, a)
opened-weight (IsCons t) (f.Cons p q) qs i = let a : row_weight qs ≡ weight p + (weight q + 0) = some-weight (p ∷ q ∷ []) qs i in omega (arith, a)
opened-weight (IsPair t u) (f.Pair p q) qs i = let a : row_weight qs ≡ weight p + (weight q + 0) = some-weight (p ∷ q ∷ []) qs i in omega (arith, a)
opened-weight (IsBuilt k ts) (f.Built x ps) qs i =
    let a : row_weight qs ≡ row_weight (f.list_of ps) = so-weight (same_name k x && eqb (length ts) (length (f.list_of ps))) (f.list_of ps) qs i in
    let b : weights ps ≡ row_weight (f.list_of ps) = weight-parts ps in omega (arith, a, b)
opened-weight _ _ qs i = absurd (cc i)

closed-weight : (p : Form) → one_if_closed (is_open p) ≤ weight p
closed-weight f.Anything = omega arith
closed-weight (f.Variable x) = omega arith
closed-weight (f.Number n) = omega arith
closed-weight (f.Character n) = omega arith
closed-weight (f.Truth b) = omega arith
closed-weight f.Nil = omega arith
closed-weight (f.Cons p q) = omega arith
closed-weight (f.Pair p q) = omega arith
closed-weight (f.Built x ps) = omega arith

either-closed : (a b : Bool) → one_if_closed (a && b) ≤ one_if_closed a + one_if_closed b
either-closed true b = omega arith
either-closed false b = omega arith

pub rows-lighter : (h : Head) (rows : List Row) → rows_weight (opened_rows h rows) + one_if_closed (all_open (column rows)) ≤ rows_weight rows
rows-lighter h [] = omega arith
rows-lighter h ([] ∷ rows) = let i = rows-lighter h rows in omega (arith, i)
rows-lighter h ((p ∷ ps) ∷ rows) = go (opened h p) refl (rows-lighter h rows) (either-closed (is_open p) (all_open (column rows)))
  where
    go : (o : Option (List Form)) → opened h p ≡ o → rows_weight (opened_rows h rows) + one_if_closed (all_open (column rows)) ≤ rows_weight rows → one_if_closed (is_open p && all_open (column rows)) ≤ one_if_closed (is_open p) + one_if_closed (all_open (column rows)) → rows_weight (and_then (option_map (λ (parts : List Form). parts ++ ps) o) (opened_rows h rows)) + one_if_closed (is_open p && all_open (column rows)) ≤ weight p + row_weight ps + rows_weight rows
    go None i later e = let c = closed-weight p in omega (arith, later, e, c)
    go (Some qs) i later e = let a : row_weight (qs ++ ps) ≡ row_weight qs + row_weight ps = weight-append qs ps in let b = opened-weight h p qs i in omega (arith, a, b, later, e)

-- Two ways of telling what is deeper

-- they agree on rows that are lighter
abbrev Agree : (List Row → List SeqType → Option (List Form)) → (List Row → List SeqType → Option (List Form)) → ℕ → Type 0
Agree d e n = (rows : List Row) (ts : List SeqType) → suc (rows_weight rows) ≤ n → d rows ts ≡ e rows ts

same-tries : (d e : Head → Option (List Form)) (hs : List Head) → ((h : Head) → d h ≡ e h) → first_missing d hs ≡ first_missing e hs
same-tries d e [] i = refl
same-tries d e (h ∷ hs) i = let p : d h ≡ e h = i h in let q : first_missing d hs ≡ first_missing e hs = same-tries d e hs i in rw (p, q) refl

by-agreeing : (w : World) (d e : List Row → List SeqType → Option (List Form)) (rows : List Row) (ts : List SeqType) → Agree d e (rows_weight rows) → missing_by w d rows ts ≡ missing_by w e rows ts
by-agreeing w d e rows [] i = refl
by-agreeing w d e [] (t ∷ ts) i = refl
by-agreeing w d e (r ∷ rows) (t ∷ ts) i = go (all_open (column (r ∷ rows))) refl (by-agreeing w d e (opened_rows IsOther (r ∷ rows)) ts (λ later us j. let k = rows-lighter IsOther (r ∷ rows) in i later us (omega (arith, j, k))))
  where
    go : (b : Bool) → all_open (column (r ∷ rows)) ≡ b → missing_by w d (opened_rows IsOther (r ∷ rows)) ts ≡ missing_by w e (opened_rows IsOther (r ∷ rows)) ts
        → (if b then option_map (λ (ps : List Form). f.Anything ∷ ps) (missing_by w d (opened_rows IsOther (r ∷ rows)) ts) else first_missing (λ h. d (opened_rows h (r ∷ rows)) (parts_of h ++ ts)) (heads w t (column (r ∷ rows))))
        ≡ (if b then option_map (λ (ps : List Form). f.Anything ∷ ps) (missing_by w e (opened_rows IsOther (r ∷ rows)) ts) else first_missing (λ h. e (opened_rows h (r ∷ rows)) (parts_of h ++ ts)) (heads w t (column (r ∷ rows))))
    go true j k = ap (option_map (λ (ps : List Form). f.Anything ∷ ps)) k
    go false j k = same-tries (λ h. d (opened_rows h (r ∷ rows)) (parts_of h ++ ts)) (λ h. e (opened_rows h (r ∷ rows)) (parts_of h ++ ts)) (heads w t (column (r ∷ rows))) (λ h. i (opened_rows h (r ∷ rows)) (parts_of h ++ ts) (lighter h j))
      where
        lighter : (h : Head) → all_open (column (r ∷ rows)) ≡ false → suc (rows_weight (opened_rows h (r ∷ rows))) ≤ rows_weight (r ∷ rows)
        lighter h m = let a : rows_weight (opened_rows h (r ∷ rows)) + one_if_closed false ≤ rows_weight (r ∷ rows) = subst (λ c. rows_weight (opened_rows h (r ∷ rows)) + one_if_closed c ≤ rows_weight (r ∷ rows)) m (rows-lighter h (r ∷ rows)) in omega (arith, a)

-- enough depth is enough
stable : (w : World) (m n : ℕ) (rows : List Row) (ts : List SeqType) → rows_weight rows ≤ m → rows_weight rows ≤ n → missing_within m w rows ts ≡ missing_within n w rows ts
stable w zero zero rows ts i j = refl
stable w zero (suc n) rows ts i j = by-agreeing w (λ later us. Some (anythings (length us))) (missing_within n w) rows ts (λ later us k. absurd (omega (arith, i, k)))
stable w (suc m) zero rows ts i j = by-agreeing w (missing_within m w) (λ later us. Some (anythings (length us))) rows ts (λ later us k. absurd (omega (arith, j, k)))
stable w (suc m) (suc n) rows ts i j = by-agreeing w (missing_within m w) (missing_within n w) rows ts (λ later us k. stable w m n later us (omega (arith, i, k)) (omega (arith, j, k)))

-- what is missing, where of the rows that fit a head it is told what is missing
pub missing-unfolds : (w : World) (rows : List Row) (ts : List SeqType) → missing w rows ts ≡ missing_by w (missing w) rows ts
missing-unfolds w rows ts = go (rows_weight rows) refl
  where
    go : (n : ℕ) → rows_weight rows ≡ n → missing_within n w rows ts ≡ missing_by w (missing w) rows ts
    go zero e = by-agreeing w (λ later us. Some (anythings (length us))) (missing w) rows ts (λ later us k. absurd (omega (arith, e, k)))
    go (suc n) e = by-agreeing w (missing_within n w) (missing w) rows ts (λ later us k. stable w n (rows_weight later) later us (omega (arith, e, k)) (omega arith))
