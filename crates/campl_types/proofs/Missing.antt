-- Where nothing is missing, each list of values of the types matches a row, and the first that it matches is known.
use Rattle.std.proofs.Common.{◌≡◌, refl, sym, ap, subst, ◌∙◌, ℕ, zero, suc, Bool, true, false, ◌&&◌, ◌||◌, ◌⊎◌, inl, inr, List, [], ◌∷◌, ◌++◌, Option, Some, None, is_some, if◌then◌else◌, eqb, eqb-true, eq-eqb, map, length, slice_get, option_map, true≢false}
use Rattle.campl_tree.specs.declared.place.Place.{Place}
use Rattle.campl_tree.specs.Plain.SeqType.{SeqType, SeqTypes, Named, Variable}
use Rattle.campl_tree.specs.Plain.SeqType as s
use Rattle.campl_tree.specs.Plain.Decl.{DataDecl, DataConstructor}
use Rattle.campl_value.specs.Tree.{Tree, Trees, Truth, Nil, Cell, Pair, Built, none, more, list_of}
use Rattle.campl_types.specs.Names.{Name, same_name}
use Rattle.campl_types.proofs.Names.{same-is}
use Rattle.campl_types.proofs.Truth.{and-first, and-second, or-first, or-second, or-split, and-both}
use Rattle.campl_types.specs.Substitution as types
use Rattle.campl_types.specs.Forms as f
use Rattle.campl_types.specs.Forms.{Form, Forms, anythings}
use Rattle.campl_types.specs.Values.{IsValue, AreValues, AllAreValues, ConstructorsAreKnown, parts_at}
use Rattle.campl_types.specs.World.{World, OfData, constructor_named, data_named}
use Rattle.campl_types.specs.Matching.{Bindings, both, matched, all_matched, row_matched, number_of, is_number, same_truth, SomeRowMatches}
use Rattle.campl_types.specs.Missing.{Row, AsLong, AllAsLong, Head, IsNumber, IsCharacter, IsTruth, IsNil, IsCons, IsPair, IsBuilt, IsOther, parts_of, heads, opened, opened_rows, and_then, put_back, all_open, column, or_try, first_missing, missing_by, missing_within, missing, literals}

-- Whether rows match, as truth values

abbrev pub hits : World → Row → List Tree → Bool
hits w [] [] = true
hits w (p ∷ ps) (v ∷ vs) = is_some (matched w p v) && hits w ps vs
hits w [] (v ∷ vs) = false
hits w (p ∷ ps) [] = false

abbrev pub covers : World → List Row → List Tree → Bool
covers w [] vs = false
covers w (r ∷ rows) vs = hits w r vs || covers w rows vs

some-both : (a b : Option Bindings) → is_some (both a b) ≡ (is_some a && is_some b)
some-both (Some xs) (Some ys) = refl
some-both (Some xs) None = refl
some-both None b = refl

pub hits-row : (w : World) (ps : Row) (vs : List Tree) → is_some (row_matched w ps vs) ≡ hits w ps vs
hits-row w [] [] = refl
hits-row w (p ∷ ps) (v ∷ vs) = some-both (matched w p v) (row_matched w ps vs) ∙ ap (λ b. is_some (matched w p v) && b) (hits-row w ps vs)
hits-row w [] (v ∷ vs) = refl
hits-row w (p ∷ ps) [] = refl

hits-parts : (w : World) (ps : Forms) (vs : Trees) → is_some (all_matched w ps vs) ≡ hits w (f.list_of ps) (list_of vs)
hits-parts w f.none none = refl
hits-parts w (f.more p ps) (more v vs) = some-both (matched w p v) (all_matched w ps vs) ∙ ap (λ b. is_some (matched w p v) && b) (hits-parts w ps vs)
hits-parts w f.none (more v vs) = refl
hits-parts w (f.more p ps) none = refl

-- Truth values

pub truth-same : (b : Bool) → same_truth b b ≡ true
truth-same true = refl
truth-same false = refl

truth-moves : (a b c : Bool) → same_truth a b ≡ true → same_truth a c ≡ true → same_truth b c ≡ true
truth-moves true b c i j = rw (i, j) refl
truth-moves false false c i j = j
truth-moves false true c i j = absurd (true≢false (sym i))

-- Rows as long as the types

long-append : (qs ps : Row) (us ts : List SeqType) → AsLong qs us → AsLong ps ts → AsLong (qs ++ ps) (us ++ ts)
long-append [] ps [] ts i j = j
long-append (q ∷ qs) ps (u ∷ us) ts i j = long-append qs ps us ts i j
long-append [] ps (u ∷ us) ts i j = absurd i
long-append (q ∷ qs) ps [] ts i j = absurd i

long-anythings : (ts : List SeqType) → AsLong (anythings (length ts)) ts
long-anythings [] = tt
long-anythings (t ∷ ts) = long-anythings ts

long-counted : (ps : Row) (ts : List SeqType) → length ts ≡ length ps → AsLong ps ts
long-counted [] [] i = tt
long-counted (p ∷ ps) (t ∷ ts) i = long-counted ps ts (cc i)
long-counted [] (t ∷ ts) i = absurd (cc i)
long-counted (p ∷ ps) [] i = absurd (cc i)

-- A value's head and its parts; of what no pattern names, the value itself is looked at no further

abbrev HasHead : World → Head → Tree → List Tree → Type 0
HasHead w (IsTruth b) (Truth c) hs = (same_truth b c ≡ true) × (hs ≡ [])
HasHead w IsNil Nil hs = hs ≡ []
HasHead w (IsCons t) (Cell a b) hs = hs ≡ a ∷ b ∷ []
HasHead w (IsPair t u) (Pair a b) hs = hs ≡ a ∷ b ∷ []
HasHead w (IsBuilt k ts) (Built n vs) hs = (is_number (number_of w k) n ≡ true) × (hs ≡ list_of vs)
HasHead w IsOther v hs = hs ≡ []
HasHead w _ _ hs = ⊥

-- Opened patterns are as many as the head's parts

where-so : (b : Bool) (ps qs : List Form) → (if b then Some ps else None) ≡ Some qs → (b ≡ true) × (ps ≡ qs)
where-so true ps qs i = (refl, cc i)
where-so false ps qs i = absurd (cc i)

long-moved : (ts : List SeqType) (ps qs : List Form) → Some ps ≡ Some qs → AsLong ps ts → AsLong qs ts
long-moved ts ps qs i j = let k : ps ≡ qs = cc i in subst (λ x. AsLong x ts) k j

opened-long : (h : Head) (p : Form) (qs : List Form) → opened h p ≡ Some qs → AsLong qs (parts_of h)
opened-long h f.Anything qs i = long-moved (parts_of h) (anythings (length (parts_of h))) qs i (long-anythings (parts_of h))
opened-long h (f.Variable x) qs i = long-moved (parts_of h) (anythings (length (parts_of h))) qs i (long-anythings (parts_of h))
opened-long (IsNumber m) (f.Number n) qs i = subst (λ x. AsLong x []) (where-so _ [] qs i).1 tt
opened-long (IsCharacter c) (f.Character d) qs i = subst (λ x. AsLong x []) (where-so _ [] qs i).1 tt
opened-long (IsTruth b) (f.Truth c) qs i = subst (λ x. AsLong x []) (where-so _ [] qs i).1 tt
opened-long IsNil f.Nil qs i = long-moved [] [] qs i tt
opened-long (IsCons t) (f.Cons p q) qs i = long-moved (t ∷ s.List t ∷ []) (p ∷ q ∷ []) qs i tt
opened-long (IsPair t u) (f.Pair p q) qs i = long-moved (t ∷ u ∷ []) (p ∷ q ∷ []) qs i tt
opened-long (IsBuilt k ts) (f.Built x ps) qs i =
    let j = where-so (same_name k x && eqb (length ts) (length (f.list_of ps))) (f.list_of ps) qs i in
    subst (λ y. AsLong y ts) j.1 (long-counted (f.list_of ps) ts (eqb-true (length ts) (length (f.list_of ps)) (and-second (same_name k x) (eqb (length ts) (length (f.list_of ps))) j.0)))
opened-long _ _ qs i = absurd (cc i)

rows-long : (h : Head) (rows : List Row) (t : SeqType) (ts : List SeqType) → AllAsLong rows (t ∷ ts) → AllAsLong (opened_rows h rows) (parts_of h ++ ts)
rows-long h [] t ts i = tt
rows-long h ([] ∷ rows) t ts (i, j) = absurd i
rows-long h ((p ∷ ps) ∷ rows) t ts (i, j) = go (opened h p) refl (rows-long h rows t ts j)
  where
    go : (o : Option (List Form)) → opened h p ≡ o → AllAsLong (opened_rows h rows) (parts_of h ++ ts) → AllAsLong (and_then (option_map (λ (parts : List Form). parts ++ ps) o) (opened_rows h rows)) (parts_of h ++ ts)
    go None k rest = rest
    go (Some qs) k rest = (long-append qs ps (parts_of h) ts (opened-long h p qs k) i, rest)

-- A row that is opened at a value's head and matches its parts matches the value

skip : (w : World) (ts : List SeqType) (ps : Row) (hs vs : List Tree) → AllAreValues w hs ts → hits w (anythings (length ts) ++ ps) (hs ++ vs) ≡ true → hits w ps vs ≡ true
skip w [] ps [] vs i j = j
skip w (t ∷ ts) ps (h ∷ hs) vs (i, k) j = skip w ts ps hs vs k j
skip w [] ps (h ∷ hs) vs i j = absurd i
skip w (t ∷ ts) ps [] vs i j = absurd i

-- as many patterns as values in front match by themselves
front : (w : World) (qs ps : Row) (ts : List SeqType) (hs vs : List Tree) → AsLong qs ts → AllAreValues w hs ts → hits w (qs ++ ps) (hs ++ vs) ≡ true → (hits w qs hs ≡ true) × (hits w ps vs ≡ true)
front w [] ps [] [] vs a b j = (refl, j)
front w (q ∷ qs) ps (t ∷ ts) (h ∷ hs) vs a (i, b) j =
    let k = front w qs ps ts hs vs a b (and-second (is_some (matched w q h)) (hits w (qs ++ ps) (hs ++ vs)) j) in
    (and-both _ _ (and-first (is_some (matched w q h)) (hits w (qs ++ ps) (hs ++ vs)) j) k.0, k.1)
front w [] ps (t ∷ ts) hs vs a b j = absurd a
front w (q ∷ qs) ps [] hs vs a b j = absurd a
front w [] ps [] (h ∷ hs) vs a b j = absurd b
front w (q ∷ qs) ps (t ∷ ts) [] vs a b j = absurd b

built-matched : (w : World) (k x : Name) (ts : List SeqType) (ps : Forms) (n : ℕ) (vs : Trees) (hs : List Tree) (qs : List Form) → is_number (number_of w k) n ≡ true → hs ≡ list_of vs → opened (IsBuilt k ts) (f.Built x ps) ≡ Some qs → hits w qs hs ≡ true → is_some (matched w (f.Built x ps) (Built n vs)) ≡ true
built-matched w k x ts ps n vs hs qs a e i j =
    let m = where-so (same_name k x && eqb (length ts) (length (f.list_of ps))) (f.list_of ps) qs i in
    let named : k ≡ x = same-is k x (and-first (same_name k x) _ m.0) in
    let known : is_number (number_of w x) n ≡ true = subst (λ y. is_number (number_of w y) n ≡ true) named a in
    let parts : hits w (f.list_of ps) (list_of vs) ≡ true = rw (← m.1, e) at j in
    rw known (hits-parts w ps vs ∙ parts)

-- what is opened of one pattern
unopened : (w : World) (h : Head) (p : Form) (v : Tree) (hs : List Tree) (qs : List Form) → HasHead w h v hs → AllAreValues w hs (parts_of h) → opened h p ≡ Some qs → hits w qs hs ≡ true → is_some (matched w p v) ≡ true
unopened w h f.Anything v hs qs a b i j = refl
unopened w h (f.Variable x) v hs qs a b i j = refl
unopened w (IsTruth b) (f.Truth c) (Truth d) hs qs (a, e) k i j =
    let m : same_truth c d ≡ true = truth-moves b c d (where-so (same_truth b c) [] qs i).0 a in rw m refl
unopened w IsNil f.Nil Nil hs qs a b i j = refl
unopened w (IsCons t) (f.Cons p q) (Cell x y) hs qs a b i j =
    let k : qs ≡ p ∷ q ∷ [] = cc i in
    let m : hits w (p ∷ q ∷ []) (x ∷ y ∷ []) ≡ true = rw (k, a) at j in
    some-both (matched w p x) (matched w q y)
    ∙ and-both _ _ (and-first (is_some (matched w p x)) _ m) (and-first (is_some (matched w q y)) _ (and-second (is_some (matched w p x)) _ m))
unopened w (IsPair t u) (f.Pair p q) (Pair x y) hs qs a b i j =
    let k : qs ≡ p ∷ q ∷ [] = cc i in
    let m : hits w (p ∷ q ∷ []) (x ∷ y ∷ []) ≡ true = rw (k, a) at j in
    some-both (matched w p x) (matched w q y)
    ∙ and-both _ _ (and-first (is_some (matched w p x)) _ m) (and-first (is_some (matched w q y)) _ (and-second (is_some (matched w p x)) _ m))
unopened w (IsBuilt k ts) (f.Built x ps) (Built n vs) hs qs (a, e) b i j = built-matched w k x ts ps n vs hs qs a e i j
unopened w (IsNumber n) p v hs qs a b i j = absurd a
unopened w (IsCharacter n) p v hs qs a b i j = absurd a
unopened w (IsTruth b) (f.Truth c) v hs qs a k i j = absurd a
unopened w IsNil f.Nil v hs qs a k i j = absurd a
unopened w (IsCons t) (f.Cons p q) v hs qs a k i j = absurd a
unopened w (IsPair t u) (f.Pair p q) v hs qs a k i j = absurd a
unopened w (IsBuilt k ts) (f.Built x ps) v hs qs a b i j = absurd a
unopened w h p v hs qs a b i j = absurd (cc i)

opened-hits : (w : World) (h : Head) (p : Form) (ps : Row) (v : Tree) (hs vs : List Tree) (qs : List Form) → HasHead w h v hs → AllAreValues w hs (parts_of h) → opened h p ≡ Some qs → hits w (qs ++ ps) (hs ++ vs) ≡ true → hits w (p ∷ ps) (v ∷ vs) ≡ true
opened-hits w h p ps v hs vs qs a b i j =
    let k = front w qs ps (parts_of h) hs vs (opened-long h p qs i) b j in
    and-both _ _ (unopened w h p v hs qs a b i k.0) k.1

row-opened : (w : World) (h : Head) (r : Row) (v : Tree) (hs vs : List Tree) (rest : List Row) → HasHead w h v hs → AllAreValues w hs (parts_of h) → (covers w (opened_rows h rest) (hs ++ vs) ≡ true → covers w rest (v ∷ vs) ≡ true) → covers w (opened_rows h (r ∷ rest)) (hs ++ vs) ≡ true → covers w (r ∷ rest) (v ∷ vs) ≡ true
row-opened w h [] v hs vs rest a b later i = or-second (hits w [] (v ∷ vs)) (covers w rest (v ∷ vs)) (later i)
row-opened w h (p ∷ ps) v hs vs rest a b later i = go (opened h p) refl i
  where
    go : (o : Option (List Form)) → opened h p ≡ o → covers w (and_then (option_map (λ (parts : List Form). parts ++ ps) o) (opened_rows h rest)) (hs ++ vs) ≡ true → covers w ((p ∷ ps) ∷ rest) (v ∷ vs) ≡ true
    go None k j = or-second (hits w (p ∷ ps) (v ∷ vs)) (covers w rest (v ∷ vs)) (later j)
    go (Some qs) k j = by (or-split (hits w (qs ++ ps) (hs ++ vs)) (covers w (opened_rows h rest) (hs ++ vs)) j)
      where
        by : (hits w (qs ++ ps) (hs ++ vs) ≡ true) ⊎ (covers w (opened_rows h rest) (hs ++ vs) ≡ true) → covers w ((p ∷ ps) ∷ rest) (v ∷ vs) ≡ true
        by (inl m) = or-first (hits w (p ∷ ps) (v ∷ vs)) (covers w rest (v ∷ vs)) (opened-hits w h p ps v hs vs qs a b k m)
        by (inr m) = or-second (hits w (p ∷ ps) (v ∷ vs)) (covers w rest (v ∷ vs)) (later m)

rows-opened : (w : World) (h : Head) (rows : List Row) (v : Tree) (hs vs : List Tree) → HasHead w h v hs → AllAreValues w hs (parts_of h) → covers w (opened_rows h rows) (hs ++ vs) ≡ true → covers w rows (v ∷ vs) ≡ true
rows-opened w h [] v hs vs a b i = i
rows-opened w h (r ∷ rows) v hs vs a b i = row-opened w h r v hs vs rows a b (rows-opened w h rows v hs vs a b) i

-- Each value of a type has one of the heads that are tried for it

abbrev IsIn : Head → List Head → Type 0
IsIn h [] = ⊥
IsIn h (k ∷ ks) = (h ≡ k) ⊎ IsIn h ks

in-behind : (h : Head) (hs ks : List Head) → IsIn h ks → IsIn h (hs ++ ks)
in-behind h [] ks i = i
in-behind h (x ∷ hs) ks i = inr (in-behind h hs ks i)

-- a head of the value that is among the heads, with parts of the head's types
record TriedHead (w : World) (t : SeqType) (column : List Form) (v : Tree) : Type 0 where
  head : Head
  parts : List Tree
  tried : IsIn head (heads w t column)
  has : HasHead w head v parts
  typed : AllAreValues w parts (parts_of head)

other : (w : World) (t : SeqType) (c : List Form) (v : Tree) → IsIn IsOther (heads w t c) → TriedHead w t c v
other w t c v i = record { head = IsOther; parts = []; tried = i; has = refl; typed = tt }

parts-typed : (w : World) (vs : Trees) (ts : List SeqType) → AreValues w vs ts → AllAreValues w (list_of vs) ts
parts-typed w none [] i = tt
parts-typed w (more v vs) (t ∷ ts) (i, j) = (i, parts-typed w vs ts j)
parts-typed w none (t ∷ ts) i = absurd i
parts-typed w (more v vs) [] i = absurd i

built-in : (f : DataConstructor → Head) (ks : List DataConstructor) (n : ℕ) (k : DataConstructor) → slice_get ks n ≡ Some k → IsIn (f k) (map f ks)
built-in f [] n k i = absurd (cc i)
built-in f (x ∷ ks) zero k i = inl (ap f (let e : x ≡ k = cc i in sym e))
built-in f (x ∷ ks) (suc n) k i = inr (built-in f ks n k i)

literals-known : (w : World) (x : Name) (d : DataDecl) (n : ℕ) (k : DataConstructor) → ConstructorsAreKnown w → data_named w x ≡ Some d → slice_get d.constructors n ≡ Some k → is_number (number_of w k.name.name) n ≡ true
literals-known w x d n k known i j = let e : constructor_named w k.name.name ≡ Some (OfData d n k) = known x d n k i j in rw e (eq-eqb n n refl)

built-tried : (w : World) → ConstructorsAreKnown w → (at : Place) (x : Name) (ts : SeqTypes) (c : List Form) (n : ℕ) (vs : Trees) → IsValue w (Built n vs) (Named at x ts) → TriedHead w (Named at x ts) c (Built n vs)
built-tried w known at x ts c n vs (d, k, i, j, long, typed) =
    record {
      head = IsBuilt k.name.name (parts_at d (types.list_of ts) k);
      parts = list_of vs;
      tried = rw i (built-in (λ (y : DataConstructor). IsBuilt y.name.name (parts_at d (types.list_of ts) y)) d.constructors n k j);
      has = (literals-known w x d n k known i j, refl);
      typed = parts-typed w vs (parts_at d (types.list_of ts) k) typed;
    }

tried-head : (w : World) → ConstructorsAreKnown w → (t : SeqType) (c : List Form) (v : Tree) → IsValue w v t → TriedHead w t c v
tried-head w known (Variable at x) c v i = other w (Variable at x) c v (inl refl)
tried-head w known s.Int c v i = other w s.Int c v (in-behind IsOther (literals c) (IsOther ∷ []) (inl refl))
tried-head w known s.Char c v i = other w s.Char c v (in-behind IsOther (literals c) (IsOther ∷ []) (inl refl))
tried-head w known s.Bool c (Truth true) i = record { head = IsTruth true; parts = []; tried = inl refl; has = (refl, refl); typed = tt }
tried-head w known s.Bool c (Truth false) i = record { head = IsTruth false; parts = []; tried = inr (inl refl); has = (refl, refl); typed = tt }
tried-head w known (s.List t) c Nil i = record { head = IsNil; parts = []; tried = inl refl; has = refl; typed = tt }
tried-head w known (s.List t) c (Cell a b) (i, j) = record { head = IsCons t; parts = a ∷ b ∷ []; tried = inr (inl refl); has = refl; typed = (i, (j, tt)) }
tried-head w known (s.Pair t u) c (Pair a b) (i, j) = record { head = IsPair t u; parts = a ∷ b ∷ []; tried = inl refl; has = refl; typed = (i, (j, tt)) }
tried-head w known (Named at x ts) c (Built n vs) i = built-tried w known at x ts c n vs i
tried-head w known t c v i = absurd i

-- Nothing missing

none-mapped : {A B : Type 0} (f : A → B) (o : Option A) → option_map f o ≡ None → o ≡ None
none-mapped f None i = refl
none-mapped f (Some x) i = absurd (cc i)

none-tried : (try : Head → Option (List Form)) (h : Head) (hs : List Head) → IsIn h hs → first_missing try hs ≡ None → try h ≡ None
none-tried try h [] x i = absurd x
none-tried try h (k ∷ ks) (inl e) i = go (option_map (put_back k) (try k)) refl i
  where
    go : (o : Option (List Form)) → option_map (put_back k) (try k) ≡ o → or_try o (first_missing try ks) ≡ None → try h ≡ None
    go None j m = subst (λ y. try y ≡ None) (sym e) (none-mapped (put_back k) (try k) j)
    go (Some ps) j m = absurd (cc m)
none-tried try h (k ∷ ks) (inr e) i = go (option_map (put_back k) (try k)) i (none-tried try h ks e)
  where
    go : (o : Option (List Form)) → or_try o (first_missing try ks) ≡ None → (first_missing try ks ≡ None → try h ≡ None) → try h ≡ None
    go None m later = later m
    go (Some ps) m later = absurd (cc m)

values-append : (w : World) (hs vs : List Tree) (us ts : List SeqType) → AllAreValues w hs us → AllAreValues w vs ts → AllAreValues w (hs ++ vs) (us ++ ts)
values-append w [] vs [] ts i j = j
values-append w (h ∷ hs) vs (u ∷ us) ts (i, k) j = (i, values-append w hs vs us ts k j)
values-append w [] vs (u ∷ us) ts i j = absurd i
values-append w (h ∷ hs) vs [] ts i j = absurd i

-- what is told of the rows that fit a head
abbrev Deeper : World → (List Row → List SeqType → Option (List Form)) → Type 0
Deeper w deeper = (rows : List Row) (ts : List SeqType) (vs : List Tree) → deeper rows ts ≡ None → AllAsLong rows ts → AllAreValues w vs ts → covers w rows vs ≡ true

open-column : (w : World) (deeper : List Row → List SeqType → Option (List Form)) (rows : List Row) (ts : List SeqType) → option_map (λ (ps : List Form). f.Anything ∷ ps) (missing_by w deeper rows ts) ≡ None → missing_by w deeper rows ts ≡ None
open-column w deeper rows ts i = none-mapped (λ (ps : List Form). f.Anything ∷ ps) (missing_by w deeper rows ts) i

-- the first column, where a head is tried that the value has
tried-column : (w : World) (deeper : List Row → List SeqType → Option (List Form)) → Deeper w deeper → (rows : List Row) (t : SeqType) (ts : List SeqType) (v : Tree) (vs : List Tree) (c : List Form) → TriedHead w t c v → first_missing (λ h. deeper (opened_rows h rows) (parts_of h ++ ts)) (heads w t c) ≡ None → AllAsLong rows (t ∷ ts) → AllAreValues w vs ts → covers w rows (v ∷ vs) ≡ true
tried-column w deeper deep rows t ts v vs c h i long typed =
    let none = none-tried (λ k. deeper (opened_rows k rows) (parts_of k ++ ts)) h.head (heads w t c) h.tried i in
    rows-opened w h.head rows v h.parts vs h.has h.typed
    (deep (opened_rows h.head rows) (parts_of h.head ++ ts) (h.parts ++ vs) none (rows-long h.head rows t ts long) (values-append w h.parts vs (parts_of h.head) ts h.typed typed))

by-columns : (w : World) → ConstructorsAreKnown w → (deeper : List Row → List SeqType → Option (List Form)) → Deeper w deeper → Deeper w (missing_by w deeper)
by-columns w known deeper deep [] [] vs i long typed = absurd (cc i)
by-columns w known deeper deep ([] ∷ rows) [] [] i long typed = refl
by-columns w known deeper deep (r ∷ rows) [] (v ∷ vs) i long typed = absurd typed
by-columns w known deeper deep ((p ∷ ps) ∷ rows) [] vs i (a, b) typed = absurd a
by-columns w known deeper deep [] (t ∷ ts) vs i long typed = absurd (cc i)
by-columns w known deeper deep (r ∷ rows) (t ∷ ts) [] i long typed = absurd typed
by-columns w known deeper deep (r ∷ rows) (t ∷ ts) (v ∷ vs) i long (a, b) =
    go (all_open (column (r ∷ rows))) i (λ j. by-columns w known deeper deep (opened_rows IsOther (r ∷ rows)) ts vs j (rows-long IsOther (r ∷ rows) t ts long) b)
  where
    go : (o : Bool) → (if o then option_map (λ (ps : List Form). f.Anything ∷ ps) (missing_by w deeper (opened_rows IsOther (r ∷ rows)) ts) else first_missing (λ h. deeper (opened_rows h (r ∷ rows)) (parts_of h ++ ts)) (heads w t (column (r ∷ rows)))) ≡ None → (missing_by w deeper (opened_rows IsOther (r ∷ rows)) ts ≡ None → covers w (opened_rows IsOther (r ∷ rows)) vs ≡ true) → covers w (r ∷ rows) (v ∷ vs) ≡ true
    go true j rest = rows-opened w IsOther (r ∷ rows) v [] vs refl tt (rest (open-column w deeper (opened_rows IsOther (r ∷ rows)) ts j))
    go false j rest = tried-column w deeper deep (r ∷ rows) t ts v vs (column (r ∷ rows)) (tried-head w known t (column (r ∷ rows)) v a) j long b

within : (n : ℕ) (w : World) → ConstructorsAreKnown w → Deeper w (missing_within n w)
within zero w known = by-columns w known (λ rows ts. Some (anythings (length ts))) (λ rows ts vs i. absurd (cc i))
within (suc n) w known = by-columns w known (missing_within n w) (within n w known)

next-chosen : (w : World) (row : Row) (rows : List Row) (vs : List Tree) → row_matched w row vs ≡ None → SomeRowMatches w rows vs → SomeRowMatches w (row ∷ rows) vs
next-chosen w row rows vs e (r, a, q, b, c) = ((suc r.0, r.1), rw (e, a) refl, q, b, c)

chosen : (w : World) (rows : List Row) (vs : List Tree) → covers w rows vs ≡ true → SomeRowMatches w rows vs
chosen w [] vs i = absurd (true≢false (sym i))
chosen w (r ∷ rows) vs i = go (row_matched w r vs) refl (subst (λ b. (b || covers w rows vs) ≡ true) (sym (hits-row w r vs)) i) (chosen w rows vs)
  where
    go : (o : Option Bindings) → row_matched w r vs ≡ o → (is_some (row_matched w r vs) || covers w rows vs) ≡ true → (covers w rows vs ≡ true → SomeRowMatches w rows vs) → SomeRowMatches w (r ∷ rows) vs
    go (Some xs) e j later = ((0, xs), rw e refl, r, refl, e)
    go None e j later = next-chosen w r rows vs e (later (rw e at j))

-- where nothing is missing of rows of patterns for some types, of each list of values of the types there is
-- a first row that matches
pub nothing-missing : (w : World) → ConstructorsAreKnown w → (rows : List Row) (ts : List SeqType) (vs : List Tree) → AllAsLong rows ts → missing w rows ts ≡ None → AllAreValues w vs ts → SomeRowMatches w rows vs
nothing-missing w known rows ts vs long i typed = chosen w rows vs (within _ w known rows ts vs i long typed)
