-- How deep heads are tried inside heads: each that is tried leaves rows that weigh less, and has at most so
-- many parts as some constructor of the world.
use Rattle.std.proofs.Common.{◌≡◌, refl, sym, ap, subst, ◌∙◌, ℕ, zero, suc, ◌+◌, ◌*◌, ◌≤◌, ◌<◌, max, Bool, true, false, List, [], ◌∷◌, ◌++◌, Option, Some, None, map, length, arith, get_or}
use Rattle.campl_tree.specs.Plain.Decl.{Decl, Data, Protocol, Coprotocol, Function, Process, DataDecl, DataConstructor}
use Rattle.std.proofs.Math.Nat.{mul-le-mul_left}
use Rattle.campl_tree.specs.declared.place.Place.{Place}
use Rattle.campl_tree.specs.Plain.SeqType.{SeqType, SeqTypes, Int, Char, Named}
use Rattle.campl_tree.specs.Plain.SeqType as s
use Rattle.campl_tree.specs.View.{view_seq}
use Rattle.campl_tree.specs.declared.types.SeqType as declared
use Rattle.campl_types.specs.Names.{Name, same_name}
use Rattle.campl_types.specs.Forms as f
use Rattle.campl_types.specs.Forms.{Form}
use Rattle.campl_types.specs.Substitution as types
use Rattle.campl_types.specs.World.{World, TypeEntry, DataType, ProtocolType, CoprotocolType, type_named, as_data, data_named, or_else, where_named, type_entry}
use Rattle.campl_types.specs.Missing.{Row, Head, IsOther, parts_of, heads, literals, opened_rows, all_open, column, rows_weight, built_heads}
use Rattle.campl_types.proofs.MissingUnfolds.{one_if_closed, rows-lighter}
use Rattle.campl_missing.specs.Heads.{constructor_heads}

-- Parts

-- the parts of all constructors of a world
abbrev line_parts : List DataConstructor → ℕ
line_parts [] = 0
line_parts (k ∷ ks) = length k.parts + line_parts ks

abbrev decl_parts : Decl → ℕ
decl_parts (Data d) = line_parts d.constructors
decl_parts (Protocol d) = 0
decl_parts (Coprotocol d) = 0
decl_parts (Function d) = 0
decl_parts (Process d) = 0

abbrev all_parts : World → ℕ
all_parts [] = 0
all_parts (d ∷ ds) = decl_parts d + all_parts ds

-- a bound on the parts of a head
abbrev pub most_parts : World → ℕ
most_parts w = 2 + all_parts w

abbrev pub AllWithin : ℕ → List Head → Type 0
AllWithin n [] = Unit {0}
AllWithin n (h ∷ hs) = (length (parts_of h) ≤ n) × AllWithin n hs

length-map : {A B : Type 0} → (g : A → B) (xs : List A) → length (map g xs) ≡ length xs
length-map g [] = refl
length-map g (x ∷ xs) = let i : length (map g xs) ≡ length xs = length-map g xs in omega (arith, i)

literals-within : (n : ℕ) (ps : List Form) → AllWithin n (literals ps ++ IsOther ∷ [])
literals-within n [] = (omega arith, tt)
literals-within n (f.Number m ∷ ps) = (omega arith, literals-within n ps)
literals-within n (f.Character c ∷ ps) = (omega arith, literals-within n ps)
literals-within n (f.Anything ∷ ps) = literals-within n ps
literals-within n (f.Variable x ∷ ps) = literals-within n ps
literals-within n (f.Truth b ∷ ps) = literals-within n ps
literals-within n (f.Nil ∷ ps) = literals-within n ps
literals-within n (f.Cons p q ∷ ps) = literals-within n ps
literals-within n (f.Pair p q ∷ ps) = literals-within n ps
literals-within n (f.Built x qs ∷ ps) = literals-within n ps

lines-within : (n : ℕ) (d : DataDecl) (ts : List SeqType) (ks : List DataConstructor) → line_parts ks ≤ n → AllWithin n (constructor_heads d ts ks)
lines-within n d ts [] i = tt
lines-within n d ts (k ∷ ks) i =
    let e = length-map (types.filled (types.filling (map (λ x. x.name) d.parameters) ts)) k.parts in
    (omega (arith, i, e), lines-within n d ts ks (omega (arith, i)))

entry-within : (w : World) (x : Name) (d : DataDecl) → type_named w x ≡ Some (DataType d) → line_parts d.constructors ≤ all_parts w
entry-within [] x d i = absurd (cc i)
entry-within (e ∷ w) x d i = go e (same_name x _) i (entry-within w x d)
  where
    go : (e : Decl) (b : Bool) → or_else (where_named b (type_entry e)) (type_named w x) ≡ Some (DataType d) → (type_named w x ≡ Some (DataType d) → line_parts d.constructors ≤ all_parts w) → line_parts d.constructors ≤ decl_parts e + all_parts w
    go (Data k) true j later = let m : k ≡ d = cc j in subst (λ y. line_parts y.constructors ≤ line_parts k.constructors + all_parts w) m (omega arith)
    go (Protocol k) true j later = absurd (cc j)
    go (Coprotocol k) true j later = absurd (cc j)
    go (Function k) true j later = let m = later j in omega (arith, m)
    go (Process k) true j later = let m = later j in omega (arith, m)
    go e false j later = let m = later j in omega (arith, m)

data-within : (w : World) (x : Name) (ts : List SeqType) → AllWithin (most_parts w) (built_heads (data_named w x) ts)
data-within w x ts = go (type_named w x) refl
  where
    go : (o : Option TypeEntry) → type_named w x ≡ o → AllWithin (most_parts w) (built_heads (as_data o) ts)
    go None i = tt
    go (Some (ProtocolType d)) i = tt
    go (Some (CoprotocolType d)) i = tt
    go (Some (DataType d)) i = lines-within (most_parts w) d ts d.constructors (let m = entry-within w x d i in omega (arith, m))

pub named-heads : (w : World) (at : Place) (x : Name) (ts : SeqTypes) (c : List Form) → heads w (Named at x ts) c ≡ built_heads (data_named w x) (types.list_of ts)
named-heads w at x ts c = refl

pub heads-within : (w : World) (t : SeqType) (c : List Form) → AllWithin (most_parts w) (heads w t c)
heads-within w Int c = literals-within (most_parts w) c
heads-within w Char c = literals-within (most_parts w) c
heads-within w s.Bool c = (omega arith, (omega arith, tt))
heads-within w (s.List t) c = (omega arith, (omega arith, tt))
heads-within w (s.Pair t u) c = (omega arith, tt)
heads-within w (s.Variable at x) c = (omega arith, tt)
heads-within w (Named at x ts) c = subst (AllWithin (most_parts w)) (sym (named-heads w at x ts c)) (data-within w x (types.list_of ts))

-- Measures

-- the depth of what is missing of rows for types
pub depth : World → List Row → List SeqType → ℕ
depth w rows ts = (1 + most_parts w) * rows_weight rows + length ts

-- behind a head
pub depth_behind : World → List Row → List SeqType → Head → ℕ
depth_behind w rows ts h = depth w (opened_rows h rows) (parts_of h ++ ts)

pub behind-is : (w : World) (rows : List Row) (ts : List SeqType) (h : Head) → depth_behind w rows ts h ≡ depth w (opened_rows h rows) (parts_of h ++ ts)
unfolding depth_behind
behind-is w rows ts h = refl

pub deepest : World → List Row → List SeqType → List Head → ℕ
deepest w rows ts [] = 0
deepest w rows ts (h ∷ hs) = max (depth_behind w rows ts h) (deepest w rows ts hs)

length-both : {A : Type 0} → (xs ys : List A) → length (xs ++ ys) ≡ length xs + length ys
length-both [] ys = omega arith
length-both (x ∷ xs) ys = let i : length (xs ++ ys) ≡ length xs + length ys = length-both xs ys in omega (arith, i)

pub under-open : (w : World) (rows : List Row) (t : SeqType) (ts : List SeqType) → depth_behind w rows ts IsOther < depth w rows (t ∷ ts)
unfolding depth depth_behind
under-open w rows t ts =
    let i = rows-lighter IsOther rows in
    let j : rows_weight (opened_rows IsOther rows) ≤ rows_weight rows = omega (arith, i) in
    let k = mul-le-mul_left (1 + most_parts w) j in
    omega (arith, k)

under-head : (w : World) (rows : List Row) (t : SeqType) (ts : List SeqType) (h : Head) → length (parts_of h) ≤ most_parts w → all_open (column rows) ≡ false → depth_behind w rows ts h < depth w rows (t ∷ ts)
unfolding depth depth_behind
under-head w rows t ts h i closed =
    let j : rows_weight (opened_rows h rows) + one_if_closed false ≤ rows_weight rows = subst (λ c. rows_weight (opened_rows h rows) + one_if_closed c ≤ rows_weight rows) closed (rows-lighter h rows) in
    let m : suc (rows_weight (opened_rows h rows)) ≤ rows_weight rows = omega (arith, j) in
    let k = mul-le-mul_left (1 + most_parts w) m in
    let l = length-both (parts_of h) ts in
    omega (arith, i, k, l)

pub under-heads : (w : World) (rows : List Row) (t : SeqType) (ts : List SeqType) (hs : List Head) → AllWithin (most_parts w) hs → all_open (column rows) ≡ false → deepest w rows ts hs < depth w rows (t ∷ ts)
unfolding deepest depth
under-heads w rows t ts [] i closed = omega arith
under-heads w rows t ts (h ∷ hs) (i, j) closed =
    let a = under-head w rows t ts h i closed in
    let b = under-heads w rows t ts hs j closed in
    omega (arith, a, b)

pub under-deepest : {A : Type 0} → (see : A → Head) (w : World) (rows : List Row) (ts : List SeqType) (hs : List A) (i : ℕ) (h : A) → i < length hs → h ≡ get_or hs i h → depth_behind w rows ts (see h) ≤ deepest w rows ts (map see hs)
unfolding deepest
under-deepest see w rows ts [] i h l e = absurd (omega (arith, l))
under-deepest see w rows ts (x ∷ hs) zero h l e = let a : depth_behind w rows ts (see h) ≡ depth_behind w rows ts (see x) = ap (λ y. depth_behind w rows ts (see y)) e in omega (arith, a)
under-deepest see w rows ts (x ∷ hs) (suc i) h l e = let a = under-deepest see w rows ts hs i h (omega (arith, l)) e in omega (arith, a)

-- of what the code holds

pub open-falls : (w : World) (rows : List Row) (first : declared.SeqType) (others all : List declared.SeqType) (t : ℕ) → all ≡ first ∷ others → 3 * depth w rows (map view_seq all) ≡ t → 3 * depth_behind w rows (map view_seq others) IsOther + 1 < t
open-falls w rows first others all t e m =
    let a = under-open w rows (view_seq first) (map view_seq others) in
    let d : depth w rows (map view_seq all) ≡ depth w rows (view_seq first ∷ map view_seq others) = ap (λ ts. depth w rows (map view_seq ts)) e in
    omega (arith, a, d, m)

pub closed-falls : (w : World) (rows : List Row) (first : declared.SeqType) (others all : List declared.SeqType) (tried : List Head) (t : ℕ) → all ≡ first ∷ others → all_open (column rows) ≡ false → tried ≡ heads w (view_seq first) (column rows) → 3 * depth w rows (map view_seq all) ≡ t → 3 * deepest w rows (map view_seq others) tried + 2 < t
closed-falls w rows first others all tried t e o h m =
    let within = subst (AllWithin (most_parts w)) (sym h) (heads-within w (view_seq first) (column rows)) in
    let a = under-heads w rows (view_seq first) (map view_seq others) tried within o in
    let d : depth w rows (map view_seq all) ≡ depth w rows (view_seq first ∷ map view_seq others) = ap (λ ts. depth w rows (map view_seq ts)) e in
    omega (arith, a, d, m)

pub behind-falls : (w : World) (rows kept : List Row) (others all : List SeqType) (h : Head) (t : ℕ) → kept ≡ opened_rows h rows → all ≡ parts_of h ++ others → 3 * depth_behind w rows others h + 1 ≡ t → 3 * depth w kept all < t
behind-falls w rows kept others all h t k a m =
    let d : depth w kept all ≡ depth_behind w rows others h = ap (λ r. depth w r all) k ∙ ap (depth w (opened_rows h rows)) a ∙ sym (behind-is w rows others h) in
    omega (arith, d, m)

pub ruleset measures = (behind-is, under-open, under-heads, under-deepest, heads-within)
