-- Names that are declared twice, by tables.
use Rattle.std.proofs.Common.{◌≡◌, ◌∙◌, refl, sym, ap, ℕ, suc, ◌+◌, ◌≤◌, Bool, true, false, ◌||◌, ◌&&◌, List, [], ◌∷◌, ◌++◌, append_assoc, append-nil, if◌then◌else◌, map, eqb, arith, eq-eqb, eqb-true, Result, Err}
use Rattle.campl_tree.specs.declared.place.Ident.{Ident}
use Rattle.campl_tree.specs.declared.decl.Decl.{Decl as Tree}
use Rattle.campl_tree.specs.declared.decl.DataConstructor.{DataConstructor}
use Rattle.campl_tree.specs.declared.decl.ProtocolConstructor.{ProtocolConstructor}
use Rattle.campl_tree.specs.declared.decl.CoprotocolConstructor.{CoprotocolConstructor}
use Rattle.campl_tree.specs.View.{view_decl, view_data_constructor, view_protocol_constructor, view_coprotocol_constructor}
use Rattle.campl_names.specs.Judges.{Judges}
use Rattle.campl_tree.specs.Plain.Decl.{Decl, Data, Protocol, Coprotocol, Function, Process}
use Rattle.campl_types.specs.declared.fault.NameFault.{NameFault}
use Rattle.campl_types.specs.declared.fault.NameFault.TheVariants.{Twice}
use Rattle.campl_types.specs.Names.{Name, same_name, is_among}
use Rattle.campl_names.specs.NameSet.{with_name}
use Rattle.campl_types.specs.World.{names_of}
use Rattle.campl_names.specs.Tables.{Spot, Spots, names_in, line_spots, data_names, protocol_names, coprotocol_names, type_spots, constructor_spots, lower_spots, again, all_again, decls_again}
use Rattle.campl_types.specs.Twice.{Space, Types, Constructors, Lowers, ParametersOf, same_space, in_space, declared_from, is_declared, twice_among}
use Rattle.campl_names.proofs.Judged.{judged, judged_on, judged_all, handed-on, same-faults}

pub names-behind : (t : Spots) (x : Name) (s : Spot) → names_in (t ++ (x, s) ∷ []) ≡ names_in t ++ x ∷ []
names-behind [] x s = refl
names-behind (e ∷ t) x s = ap (λ r. e.0 ∷ r) (names-behind t x s)

pub name-behind : (x : Name) (xs : List Name) → is_among x xs ≡ false → with_name x xs ≡ xs ++ x ∷ []
name-behind x xs i = rw i refl

-- Declarations before and after

pub both : {a b c d : List NameFault} → a ≡ b → c ≡ d → a ++ c ≡ b ++ d
both i j k = i k ++ j k

abbrev Declared : Type 0
Declared = Space × Ident

abbrev onto : List Declared → List Declared → List Declared
onto [] seen = seen
onto (e ∷ es) seen = onto es (e ∷ seen)

twice-append : (seen es fs : List Declared) → twice_among seen (es ++ fs) ≡ twice_among seen es ++ twice_among (onto es seen) fs
twice-append seen [] fs = refl
twice-append seen (e ∷ es) fs =
    ap (λ r. (if is_declared e.0 e.1 seen then Twice e.1.place e.1.name ∷ [] else []) ++ r) (twice-append (e ∷ seen) es fs)
    ∙ sym (append_assoc (if is_declared e.0 e.1 seen then Twice e.1.place e.1.name ∷ [] else []) (twice_among (e ∷ seen) es) (twice_among (onto es (e ∷ seen)) fs))

onto-append : (seen es fs : List Declared) → onto (es ++ fs) seen ≡ onto fs (onto es seen)
onto-append seen [] fs = refl
onto-append seen (e ∷ es) fs = onto-append (e ∷ seen) es fs

-- One space

or-swap : (a b c : Bool) → (a || (b || c)) ≡ (b || (a || c))
or-swap true true c = refl
or-swap true false c = refl
or-swap false true c = refl
or-swap false false c = refl

pub among-behind : (x y : Name) (ys : List Name) → is_among x (ys ++ y ∷ []) ≡ (same_name x y || is_among x ys)
among-behind x y [] = refl
among-behind x y (z ∷ ys) = ap (λ b. same_name x z || b) (among-behind x y ys) ∙ or-swap (same_name x z) (same_name x y) (is_among x ys)

abbrev Has : Space → List Declared → List Name → Type 0
Has s seen names = (x : Ident) → is_declared s x seen ≡ is_among x.name names

has-next : (s : Space) (y : Ident) (seen : List Declared) (names : List Name) → same_space s s ≡ true → Has s seen names → Has s ((s, y) ∷ seen) (names ++ y.name ∷ [])
has-next s y seen names t h x = rw (t, h x) (sym (among-behind x.name y.name names))

has-other : (s r : Space) (y : Ident) (seen : List Declared) (names : List Name) → same_space s r ≡ false → Has s seen names → Has s ((r, y) ∷ seen) names
has-other s r y seen names t h x = rw t (h x)

all-has-next : (s : Space) (ys : List Ident) (seen : List Declared) (names : List Name) → same_space s s ≡ true → Has s seen names → Has s (onto (in_space s ys) seen) (names ++ names_of ys)
all-has-next s [] seen names t h x = h x ∙ ap (is_among x.name) (sym (append-none names))
  where
    append-none : (xs : List Name) → xs ++ [] ≡ xs
    append-none [] = refl
    append-none (y ∷ xs) = ap (λ r. y ∷ r) (append-none xs)
all-has-next s (y ∷ ys) seen names t h x =
    all-has-next s ys ((s, y) ∷ seen) (names ++ y.name ∷ []) t (has-next s y seen names t h) x ∙ ap (is_among x.name) (append_assoc names (y.name ∷ []) (names_of ys))

all-has-other : (s r : Space) (ys : List Ident) (seen : List Declared) (names : List Name) → same_space s r ≡ false → Has s seen names → Has s (onto (in_space r ys) seen) names
all-has-other s r [] seen names t h = h
all-has-other s r (y ∷ ys) seen names t h = all-has-other s r ys ((r, y) ∷ seen) names t (has-other s r y seen names t h)

space-again : (s : Space) (ys : List Ident) (seen : List Declared) (names : List Name) → same_space s s ≡ true → Has s seen names → twice_among seen (in_space s ys) ≡ all_again names ys
space-again s [] seen names t h = refl
space-again s (y ∷ ys) seen names t h =
    rw (h y) (ap (λ r. again names y ++ r) (space-again s ys ((s, y) ∷ seen) (names ++ y.name ∷ []) t (has-next s y seen names t h)))

-- All spaces

record IsSeen (n : ℕ) (seen : List Declared) (ts cs ls : List Name) : Type 0 where
  types : Has Types seen ts
  constructors : Has Constructors seen cs
  lowers : Has Lowers seen ls
  parameters : (m : ℕ) → n ≤ m → Has (ParametersOf m) seen []

abbrev typed : ℕ → Ident → List Ident → List Ident → List Declared
typed n y ps ks = (Types, y) ∷ in_space (ParametersOf n) ps ++ in_space Constructors ks

own-space : (n : ℕ) → same_space (ParametersOf n) (ParametersOf n) ≡ true
own-space n = eq-eqb n n refl

later-space : (m n : ℕ) → suc n ≤ m → same_space (ParametersOf m) (ParametersOf n) ≡ false
later-space m n i = go (eqb m n) refl
  where
    go : (b : Bool) → eqb m n ≡ b → b ≡ false
    go false e = refl
    go true e = absurd (below m n i (eqb-true m n e))
      where
        below : (m n : ℕ) → suc n ≤ m → m ≡ n → ⊥
        below m n i e = omega (arith, i, e)

typed-again : (n : ℕ) (y : Ident) (ps ks : List Ident) (seen : List Declared) (ts cs ls : List Name) → IsSeen n seen ts cs ls
    → twice_among seen (typed n y ps ks) ≡ again ts y ++ all_again [] ps ++ all_again cs ks
typed-again n y ps ks seen ts cs ls s =
    let first : List Declared = (Types, y) ∷ seen in
    let second : List Declared = onto (in_space (ParametersOf n) ps) first in
    let own : Has (ParametersOf n) first [] = has-other (ParametersOf n) Types y seen [] refl (s.parameters n (omega arith)) in
    let others : Has Constructors second cs = all-has-other Constructors (ParametersOf n) ps first cs refl (has-other Constructors Types y seen cs refl s.constructors) in
    let one : twice_among first (in_space (ParametersOf n) ps) ≡ all_again [] ps = space-again (ParametersOf n) ps first [] (own-space n) own in
    let two : twice_among second (in_space Constructors ks) ≡ all_again cs ks = space-again Constructors ks second cs refl others in
    rw (s.types y) (ap (λ r. again ts y ++ r) (twice-append first (in_space (ParametersOf n) ps) (in_space Constructors ks) ∙ both one two)
    ∙ sym (append_assoc (again ts y) (all_again [] ps) (all_again cs ks)))

typed-seen : (n : ℕ) (y : Ident) (ps ks : List Ident) (seen : List Declared) (ts cs ls : List Name) → IsSeen n seen ts cs ls
    → IsSeen (suc n) (onto (typed n y ps ks) seen) (ts ++ y.name ∷ []) (cs ++ names_of ks) ls
typed-seen n y ps ks seen ts cs ls s =
    let first : List Declared = (Types, y) ∷ seen in
    let second : List Declared = onto (in_space (ParametersOf n) ps) first in
    let third : onto (typed n y ps ks) seen ≡ onto (in_space Constructors ks) second = onto-append first (in_space (ParametersOf n) ps) (in_space Constructors ks) in
    rw third (record {
      types = all-has-other Types Constructors ks second (ts ++ y.name ∷ []) refl
          (all-has-other Types (ParametersOf n) ps first (ts ++ y.name ∷ []) refl (has-next Types y seen ts refl s.types));
      constructors = all-has-next Constructors ks second cs refl
          (all-has-other Constructors (ParametersOf n) ps first cs refl (has-other Constructors Types y seen cs refl s.constructors));
      lowers = all-has-other Lowers Constructors ks second ls refl
          (all-has-other Lowers (ParametersOf n) ps first ls refl (has-other Lowers Types y seen ls refl s.lowers));
      parameters = λ m i. all-has-other (ParametersOf m) Constructors ks second [] refl
          (all-has-other (ParametersOf m) (ParametersOf n) ps first [] (later-space m n i) (has-other (ParametersOf m) Types y seen [] refl (s.parameters m (omega (arith, i)))));
    })

lower-seen : (n : ℕ) (y : Ident) (seen : List Declared) (ts cs ls : List Name) → IsSeen n seen ts cs ls
    → IsSeen (suc n) ((Lowers, y) ∷ seen) ts cs (ls ++ y.name ∷ [])
lower-seen n y seen ts cs ls s =
    record {
      types = has-other Types Lowers y seen ts refl s.types;
      constructors = has-other Constructors Lowers y seen cs refl s.constructors;
      lowers = has-next Lowers y seen ls refl s.lowers;
      parameters = λ m i. has-other (ParametersOf m) Lowers y seen [] refl (s.parameters m (omega (arith, i)));
    }

-- Tables

lines-behind : (t : Spots) (n k : ℕ) (ys : List Ident) → names_in (t ++ line_spots n k ys) ≡ names_in t ++ names_of ys
lines-behind [] n k [] = refl
lines-behind [] n k (y ∷ ys) = ap (λ r. y.name ∷ r) (lines-behind [] n (suc k) ys)
lines-behind (e ∷ t) n k ys = ap (λ r. e.0 ∷ r) (lines-behind t n k ys)

none-behind : (t : Spots) → t ++ [] ≡ t
none-behind [] = refl
none-behind (e ∷ t) = ap (λ r. e ∷ r) (none-behind t)

typed-tables : (n : ℕ) (y : Ident) (ps ks : List Ident) (seen : List Declared) (t c l : Spots) → IsSeen n seen (names_in t) (names_in c) (names_in l)
    → IsSeen (suc n) (onto (typed n y ps ks) seen) (names_in (t ++ (y.name, (n, 0)) ∷ [])) (names_in (c ++ line_spots n 0 ks)) (names_in (l ++ []))
typed-tables n y ps ks seen t c l s =
    let s2 = typed-seen n y ps ks seen (names_in t) (names_in c) (names_in l) s in
    rw (names-behind t y.name (n, 0), lines-behind c n 0 ks, none-behind l) s2

lower-tables : (n : ℕ) (y : Ident) (seen : List Declared) (t c l : Spots) → IsSeen n seen (names_in t) (names_in c) (names_in l)
    → IsSeen (suc n) ((Lowers, y) ∷ seen) (names_in (t ++ [])) (names_in (c ++ [])) (names_in (l ++ (y.name, (n, 0)) ∷ []))
lower-tables n y seen t c l s =
    let s2 = lower-seen n y seen (names_in t) (names_in c) (names_in l) s in
    rw (names-behind l y.name (n, 0), none-behind t, none-behind c) s2

twice-tables : (n : ℕ) (ds : List Decl) (seen : List Declared) (t c l : Spots) → IsSeen n seen (names_in t) (names_in c) (names_in l)
    → twice_among seen (declared_from n ds) ≡ decls_again t c l n ds
twice-tables n [] seen t c l s = refl
twice-tables n (Data d ∷ ds) seen t c l s =
    let ks : List Ident = data_names d.constructors in
    twice-append seen (typed n d.name d.parameters ks) (declared_from (suc n) ds)
    ∙ both (typed-again n d.name d.parameters ks seen (names_in t) (names_in c) (names_in l) s)
    (twice-tables (suc n) ds (onto (typed n d.name d.parameters ks) seen) (t ++ type_spots n (Data d)) (c ++ constructor_spots n (Data d)) (l ++ []) (typed-tables n d.name d.parameters ks seen t c l s))
twice-tables n (Protocol d ∷ ds) seen t c l s =
    let ks : List Ident = protocol_names d.constructors in
    twice-append seen (typed n d.name d.parameters ks) (declared_from (suc n) ds)
    ∙ both (typed-again n d.name d.parameters ks seen (names_in t) (names_in c) (names_in l) s)
    (twice-tables (suc n) ds (onto (typed n d.name d.parameters ks) seen) (t ++ type_spots n (Protocol d)) (c ++ constructor_spots n (Protocol d)) (l ++ []) (typed-tables n d.name d.parameters ks seen t c l s))
twice-tables n (Coprotocol d ∷ ds) seen t c l s =
    let ks : List Ident = coprotocol_names d.constructors in
    twice-append seen (typed n d.name d.parameters ks) (declared_from (suc n) ds)
    ∙ both (typed-again n d.name d.parameters ks seen (names_in t) (names_in c) (names_in l) s)
    (twice-tables (suc n) ds (onto (typed n d.name d.parameters ks) seen) (t ++ type_spots n (Coprotocol d)) (c ++ constructor_spots n (Coprotocol d)) (l ++ []) (typed-tables n d.name d.parameters ks seen t c l s))
twice-tables n (Function d ∷ ds) seen t c l s =
    rw (s.lowers d.name) (ap (λ r. again (names_in l) d.name ++ r) (twice-tables (suc n) ds ((Lowers, d.name) ∷ seen) (t ++ []) (c ++ []) (l ++ lower_spots n (Function d)) (lower-tables n d.name seen t c l s)))
twice-tables n (Process d ∷ ds) seen t c l s =
    rw (s.lowers d.name) (ap (λ r. again (names_in l) d.name ++ r) (twice-tables (suc n) ds ((Lowers, d.name) ∷ seen) (t ++ []) (c ++ []) (l ++ lower_spots n (Process d)) (lower-tables n d.name seen t c l s)))

pub twice-by-tables : (ds : List Decl) → twice_among [] (declared_from 0 ds) ≡ decls_again [] [] [] 0 ds
twice-by-tables ds = twice-tables 0 ds [] [] [] [] (record { types = λ x. refl; constructors = λ x. refl; lowers = λ x. refl; parameters = λ m i x. refl })

-- a second declaration, where the tables began with nothing
pub from-nothing : {A B : Type 0} (t c l : Spots) (es ds : List Tree) (fault : NameFault) → t ≡ [] → c ≡ [] → l ≡ [] → es ≡ ds
    → Judges {A = A} (decls_again t c l 0 (map view_decl es)) (Err fault) → Judges {A = B} (twice_among [] (declared_from 0 (map view_decl ds))) (Err fault)
from-nothing {A} {B} t c l es ds fault i j k m h =
    same-faults _ _ _ (handed-on {A = A} {B = B} _ fault h)
    ((λ n. decls_again (i n) (j n) (k n) 0 (map view_decl (m n))) ∙ sym (twice-by-tables (map view_decl ds)))

-- the names of lines, which are the same in a tree and in its view
pub data-named : (ks : List DataConstructor) → data_names (map view_data_constructor ks) ≡ map (λ (k : DataConstructor). k.name) ks
data-named [] = refl
data-named (k ∷ ks) = ap (λ r. k.name ∷ r) (data-named ks)

pub protocol-named : (ks : List ProtocolConstructor) → protocol_names (map view_protocol_constructor ks) ≡ map (λ (k : ProtocolConstructor). k.name) ks
protocol-named [] = refl
protocol-named (k ∷ ks) = ap (λ r. k.name ∷ r) (protocol-named ks)

pub coprotocol-named : (ks : List CoprotocolConstructor) → coprotocol_names (map view_coprotocol_constructor ks) ≡ map (λ (k : CoprotocolConstructor). k.name) ks
coprotocol-named [] = refl
coprotocol-named (k ∷ ks) = ap (λ r. k.name ∷ r) (coprotocol-named ks)

pub ruleset declaration = (judged, data-named, protocol-named, coprotocol-named, append-nil)

pub ruleset parameters = (judged_all, name-behind)

pub ruleset entering = (judged_all, names-behind, append_assoc, append-nil)

pub ruleset taking = (judged_all, append_assoc, append-nil)

pub ruleset world = (judged_on, twice-by-tables)
