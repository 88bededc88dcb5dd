-- Where no name is declared twice, what a name is found to be is what its declaration says, and each declaration
-- is found by its names: a type, function or process by its own, and a constructor, with its number, by its line's.
use Rattle.std.proofs.Common.{◌≡◌, ◌∙◌, ◌⊎◌, inl, inr, refl, sym, ap, subst, ℕ, zero, suc, ◌+◌, arith, Bool, true, false, ◌&&◌, ◌||◌, if◌then◌else◌, List, [], ◌∷◌, ◌++◌, Option, Some, None, map, slice_get, eqb-true, true≢false}
use Rattle.campl_tree.specs.declared.place.Ident.{Ident}
use Rattle.campl_tree.specs.Plain.Decl.{Decl, Data, Protocol, Coprotocol, Function, Process, Program, DataDecl, ProtocolDecl, CoprotocolDecl, DataConstructor, ProtocolConstructor, CoprotocolConstructor}
use Rattle.campl_types.specs.declared.fault.NameFault.{NameFault}
use Rattle.campl_types.specs.Names.{Name, same_name, is_among, are_distinct, found}
use Rattle.campl_types.specs.Twice.{Space, Types, Constructors, Lowers, ParametersOf, same_space, in_space, declares, declared_from, is_declared, twice_among, twice_faults}
use Rattle.campl_types.specs.Known.{each, in_decl}
use Rattle.campl_types.specs.Run.{run_faults}
use Rattle.campl_types.specs.Values.{ConstructorsAreKnown, DataTypesAreKnown}
use Rattle.campl_types.specs.Polarity.{ProtocolsAreKnown, CoprotocolsAreKnown}
use Rattle.campl_types.specs.WellDeclared.{IsWellDeclared}
use Rattle.campl_types.specs.World.{World, world_of, names_of, or_else, where_named, declared_ident, TypeEntry, DataType, ProtocolType, CoprotocolType, type_entry, type_named, as_data, ConstructorEntry, OfData, OfProtocol, OfCoprotocol, among_data, among_protocol, among_coprotocol, constructor_entry, constructor_named, LowerEntry, lower_entry, lower_named}
use Rattle.campl_types.proofs.Names.{same-is}
use Rattle.campl_types.proofs.Among.{DistinctFrom, none-distinct, distinct-more}
use Rattle.campl_types.proofs.Listed.{IsIn, firsts, found-in, in-found, found-both, in-front, in-behind, in-either, firsts-both, none-in}

-- The names of a space

abbrev pub space_names : Space → List (Space × Ident) → List Name
space_names s [] = []
space_names s (e ∷ es) = if same_space s e.0 then e.1.name ∷ space_names s es else space_names s es

pub names-both : (s : Space) (xs ys : List (Space × Ident)) → space_names s (xs ++ ys) ≡ space_names s xs ++ space_names s ys
names-both s [] ys = refl
names-both s (x ∷ xs) ys = go (same_space s x.0) (names-both s xs ys)
  where
    go : (b : Bool) → space_names s (xs ++ ys) ≡ space_names s xs ++ space_names s ys
        → (if b then x.1.name ∷ space_names s (xs ++ ys) else space_names s (xs ++ ys)) ≡ (if b then x.1.name ∷ space_names s xs else space_names s xs) ++ space_names s ys
    go true ih = ap (λ ns. x.1.name ∷ ns) ih
    go false ih = ih

pub space-is : (s t : Space) → same_space s t ≡ true → s ≡ t
space-is Types Types i = refl
space-is Constructors Constructors i = refl
space-is Lowers Lowers i = refl
space-is (ParametersOf m) (ParametersOf n) i = ap ParametersOf (eqb-true m n i)
space-is _ _ i = absurd (true≢false (sym i))

pub declared-among : (s : Space) (x : Ident) (seen : List (Space × Ident)) → is_declared s x seen ≡ is_among x.name (space_names s seen)
declared-among s x [] = refl
declared-among s x (e ∷ es) = go (same_space s e.0) (declared-among s x es)
  where
    go : (b : Bool) → is_declared s x es ≡ is_among x.name (space_names s es)
        → ((b && same_name x.name e.1.name) || is_declared s x es) ≡ is_among x.name (if b then e.1.name ∷ space_names s es else space_names s es)
    go true ih = ap (λ c. same_name x.name e.1.name || c) ih
    go false ih = ih

pub no-fault : (b : Bool) (f : NameFault) (rest : List NameFault) → (if b then f ∷ [] else []) ++ rest ≡ [] → (b ≡ false) × (rest ≡ [])
no-fault false f rest i = (refl, i)
no-fault true f rest i = absurd (cc i)

pub space-distinct : (s : Space) (seen es : List (Space × Ident)) → twice_among seen es ≡ [] → DistinctFrom (space_names s seen) (space_names s es)
space-distinct s seen [] i = none-distinct (space_names s seen)
space-distinct s seen (e ∷ es) i =
    let n = no-fault (is_declared e.0 e.1 seen) _ _ i in
    go (same_space s e.0) refl n.0 (space-distinct s (e ∷ seen) es n.1)
  where
    go : (b : Bool) → same_space s e.0 ≡ b → is_declared e.0 e.1 seen ≡ false → DistinctFrom (if b then e.1.name ∷ space_names s seen else space_names s seen) (space_names s es)
        → DistinctFrom (space_names s seen) (if b then e.1.name ∷ space_names s es else space_names s es)
    go true k n later = distinct-more (space_names s seen) (space_names s es) e.1.name (sym (declared-among s e.1 seen) ∙ subst (λ t. is_declared t e.1 seen ≡ false) (sym (space-is s e.0 k)) n) later
    go false k n later = later

pub own-names : (xs : List Ident) → space_names Constructors (in_space Constructors xs) ≡ names_of xs
own-names [] = refl
own-names (x ∷ xs) = ap (λ ns. x.name ∷ ns) (own-names xs)

pub no-parameters : (s : Space) (m : ℕ) → same_space s (ParametersOf m) ≡ false → (xs : List Ident) → space_names s (in_space (ParametersOf m) xs) ≡ []
no-parameters s m i [] = refl
no-parameters s m i (x ∷ xs) = rw i (no-parameters s m i xs)

pub no-types : (xs : List Ident) → space_names Types (in_space Constructors xs) ≡ []
no-types [] = refl
no-types (x ∷ xs) = no-types xs

-- Constructors of a world

abbrev pub data_lines : DataDecl → ℕ → List DataConstructor → List (Name × ConstructorEntry)
data_lines d n [] = []
data_lines d n (k ∷ ks) = (k.name.name, OfData d n k) ∷ data_lines d (suc n) ks

abbrev pub protocol_lines : ProtocolDecl → ℕ → List ProtocolConstructor → List (Name × ConstructorEntry)
protocol_lines d n [] = []
protocol_lines d n (k ∷ ks) = (k.name.name, OfProtocol d n k) ∷ protocol_lines d (suc n) ks

abbrev pub coprotocol_lines : CoprotocolDecl → ℕ → List CoprotocolConstructor → List (Name × ConstructorEntry)
coprotocol_lines d n [] = []
coprotocol_lines d n (k ∷ ks) = (k.name.name, OfCoprotocol d n k) ∷ coprotocol_lines d (suc n) ks

abbrev pub lines_in : Decl → List (Name × ConstructorEntry)
lines_in (Data d) = data_lines d 0 d.constructors
lines_in (Protocol d) = protocol_lines d 0 d.constructors
lines_in (Coprotocol d) = coprotocol_lines d 0 d.constructors
lines_in (Function d) = []
lines_in (Process d) = []

abbrev pub lines_of : World → List (Name × ConstructorEntry)
lines_of [] = []
lines_of (d ∷ ds) = lines_in d ++ lines_of ds

pub data-entry : (d : DataDecl) (n : ℕ) (ks : List DataConstructor) (x : Name) → among_data d n ks x ≡ found x (data_lines d n ks)
data-entry d n [] x = refl
data-entry d n (k ∷ ks) x = ap (λ (o : Option ConstructorEntry). if same_name x k.name.name then Some (OfData d n k) else o) (data-entry d (suc n) ks x)

pub protocol-entry : (d : ProtocolDecl) (n : ℕ) (ks : List ProtocolConstructor) (x : Name) → among_protocol d n ks x ≡ found x (protocol_lines d n ks)
protocol-entry d n [] x = refl
protocol-entry d n (k ∷ ks) x = ap (λ (o : Option ConstructorEntry). if same_name x k.name.name then Some (OfProtocol d n k) else o) (protocol-entry d (suc n) ks x)

pub coprotocol-entry : (d : CoprotocolDecl) (n : ℕ) (ks : List CoprotocolConstructor) (x : Name) → among_coprotocol d n ks x ≡ found x (coprotocol_lines d n ks)
coprotocol-entry d n [] x = refl
coprotocol-entry d n (k ∷ ks) x = ap (λ (o : Option ConstructorEntry). if same_name x k.name.name then Some (OfCoprotocol d n k) else o) (coprotocol-entry d (suc n) ks x)

pub entry-found : (d : Decl) (x : Name) → constructor_entry d x ≡ found x (lines_in d)
entry-found (Data d) x = data-entry d 0 d.constructors x
entry-found (Protocol d) x = protocol-entry d 0 d.constructors x
entry-found (Coprotocol d) x = coprotocol-entry d 0 d.constructors x
entry-found (Function d) x = refl
entry-found (Process d) x = refl

pub named-found : (w : World) (x : Name) → constructor_named w x ≡ found x (lines_of w)
named-found [] x = refl
named-found (d ∷ ds) x = let p = entry-found d x in let q = named-found ds x in (λ k. or_else (p k) (q k)) ∙ sym (found-both x (lines_in d) (lines_of ds))

pub data-names : (d : DataDecl) (n : ℕ) (ks : List DataConstructor) → firsts (data_lines d n ks) ≡ names_of (map (λ (k : DataConstructor). k.name) ks)
data-names d n [] = refl
data-names d n (k ∷ ks) = ap (λ ns. k.name.name ∷ ns) (data-names d (suc n) ks)

pub protocol-names : (d : ProtocolDecl) (n : ℕ) (ks : List ProtocolConstructor) → firsts (protocol_lines d n ks) ≡ names_of (map (λ (k : ProtocolConstructor). k.name) ks)
protocol-names d n [] = refl
protocol-names d n (k ∷ ks) = ap (λ ns. k.name.name ∷ ns) (protocol-names d (suc n) ks)

pub coprotocol-names : (d : CoprotocolDecl) (n : ℕ) (ks : List CoprotocolConstructor) → firsts (coprotocol_lines d n ks) ≡ names_of (map (λ (k : CoprotocolConstructor). k.name) ks)
coprotocol-names d n [] = refl
coprotocol-names d n (k ∷ ks) = ap (λ ns. k.name.name ∷ ns) (coprotocol-names d (suc n) ks)

pub heading-names : (m : ℕ) (params ks : List Ident) → space_names Constructors (in_space (ParametersOf m) params ++ in_space Constructors ks) ≡ names_of ks
heading-names m params ks =
    names-both Constructors (in_space (ParametersOf m) params) (in_space Constructors ks)
    ∙ ap (λ ns. ns ++ space_names Constructors (in_space Constructors ks)) (no-parameters Constructors m refl params)
    ∙ own-names ks

pub decl-names : (m : ℕ) (d : Decl) → space_names Constructors (declares m d) ≡ firsts (lines_in d)
decl-names m (Data d) = heading-names m d.parameters (map (λ (k : DataConstructor). k.name) d.constructors) ∙ sym (data-names d 0 d.constructors)
decl-names m (Protocol d) = heading-names m d.parameters (map (λ (k : ProtocolConstructor). k.name) d.constructors) ∙ sym (protocol-names d 0 d.constructors)
decl-names m (Coprotocol d) = heading-names m d.parameters (map (λ (k : CoprotocolConstructor). k.name) d.constructors) ∙ sym (coprotocol-names d 0 d.constructors)
decl-names m (Function d) = refl
decl-names m (Process d) = refl

pub world-names : (m : ℕ) (w : World) → space_names Constructors (declared_from m w) ≡ firsts (lines_of w)
world-names m [] = refl
world-names m (d ∷ ds) =
    let p = decl-names m d in let q = world-names (suc m) ds in
    names-both Constructors (declares m d) (declared_from (suc m) ds) ∙ (λ k. p k ++ q k) ∙ sym (firsts-both (lines_in d) (lines_of ds))

-- Types of a world

abbrev pub type_of : Name → Option TypeEntry → List (Name × TypeEntry)
type_of x None = []
type_of x (Some t) = (x, t) ∷ []

abbrev pub types_of_world : World → List (Name × TypeEntry)
types_of_world [] = []
types_of_world (d ∷ ds) = type_of (declared_ident d).name (type_entry d) ++ types_of_world ds

pub type-found : (w : World) (x : Name) → type_named w x ≡ found x (types_of_world w)
type-found [] x = refl
type-found (d ∷ ds) x = go (type_entry d) (same_name x (declared_ident d).name) refl (type-found ds x)
  where
    go : (o : Option TypeEntry) (b : Bool) → same_name x (declared_ident d).name ≡ b → type_named ds x ≡ found x (types_of_world ds)
        → or_else (where_named b o) (type_named ds x) ≡ found x (type_of (declared_ident d).name o ++ types_of_world ds)
    go None true s ih = ih
    go None false s ih = ih
    go (Some t) true s ih = rw s refl
    go (Some t) false s ih = rw s ih

pub type-names : (m : ℕ) (w : World) → space_names Types (declared_from m w) ≡ firsts (types_of_world w)
type-names m [] = refl
type-names m (d ∷ ds) =
    let p = one d in let q = type-names (suc m) ds in
    names-both Types (declares m d) (declared_from (suc m) ds) ∙ (λ k. p k ++ q k) ∙ sym (firsts-both (type_of (declared_ident d).name (type_entry d)) (types_of_world ds))
  where
    none : (params ks : List Ident) → space_names Types (in_space (ParametersOf m) params ++ in_space Constructors ks) ≡ []
    none params ks =
        names-both Types (in_space (ParametersOf m) params) (in_space Constructors ks)
        ∙ ap (λ ns. ns ++ space_names Types (in_space Constructors ks)) (no-parameters Types m refl params)
        ∙ no-types ks

    one : (d : Decl) → space_names Types (declares m d) ≡ firsts (type_of (declared_ident d).name (type_entry d))
    one (Data d) = ap (λ ns. d.name.name ∷ ns) (none d.parameters (map (λ (k : DataConstructor). k.name) d.constructors))
    one (Protocol d) = ap (λ ns. d.name.name ∷ ns) (none d.parameters (map (λ (k : ProtocolConstructor). k.name) d.constructors))
    one (Coprotocol d) = ap (λ ns. d.name.name ∷ ns) (none d.parameters (map (λ (k : CoprotocolConstructor). k.name) d.constructors))
    one (Function d) = refl
    one (Process d) = refl

-- Functions and processes of a world

abbrev pub lower_of : Name → Option LowerEntry → List (Name × LowerEntry)
lower_of x None = []
lower_of x (Some l) = (x, l) ∷ []

abbrev pub lowers_of : World → List (Name × LowerEntry)
lowers_of [] = []
lowers_of (d ∷ ds) = lower_of (declared_ident d).name (lower_entry d) ++ lowers_of ds

pub lower-found : (w : World) (x : Name) → lower_named w x ≡ found x (lowers_of w)
lower-found [] x = refl
lower-found (d ∷ ds) x = go (lower_entry d) (same_name x (declared_ident d).name) refl (lower-found ds x)
  where
    go : (o : Option LowerEntry) (b : Bool) → same_name x (declared_ident d).name ≡ b → lower_named ds x ≡ found x (lowers_of ds)
        → or_else (where_named b o) (lower_named ds x) ≡ found x (lower_of (declared_ident d).name o ++ lowers_of ds)
    go None true s ih = ih
    go None false s ih = ih
    go (Some l) true s ih = rw s refl
    go (Some l) false s ih = rw s ih

no-lowers : (xs : List Ident) → space_names Lowers (in_space Constructors xs) ≡ []
no-lowers [] = refl
no-lowers (x ∷ xs) = no-lowers xs

pub lower-names : (m : ℕ) (w : World) → space_names Lowers (declared_from m w) ≡ firsts (lowers_of w)
lower-names m [] = refl
lower-names m (d ∷ ds) =
    let p = one d in let q = lower-names (suc m) ds in
    names-both Lowers (declares m d) (declared_from (suc m) ds) ∙ (λ k. p k ++ q k) ∙ sym (firsts-both (lower_of (declared_ident d).name (lower_entry d)) (lowers_of ds))
  where
    none : (params ks : List Ident) → space_names Lowers (in_space (ParametersOf m) params ++ in_space Constructors ks) ≡ []
    none params ks =
        names-both Lowers (in_space (ParametersOf m) params) (in_space Constructors ks)
        ∙ ap (λ ns. ns ++ space_names Lowers (in_space Constructors ks)) (no-parameters Lowers m refl params)
        ∙ no-lowers ks

    one : (d : Decl) → space_names Lowers (declares m d) ≡ firsts (lower_of (declared_ident d).name (lower_entry d))
    one (Data d) = none d.parameters (map (λ (k : DataConstructor). k.name) d.constructors)
    one (Protocol d) = none d.parameters (map (λ (k : ProtocolConstructor). k.name) d.constructors)
    one (Coprotocol d) = none d.parameters (map (λ (k : CoprotocolConstructor). k.name) d.constructors)
    one (Function d) = refl
    one (Process d) = refl

-- Whose line a constructor is

abbrev pub owner : ConstructorEntry → Decl
owner (OfData d n k) = Data d
owner (OfProtocol d n k) = Protocol d
owner (OfCoprotocol d n k) = Coprotocol d

pub data-owner : (d : DataDecl) (n : ℕ) (ks : List DataConstructor) (k : Name) (c : ConstructorEntry) → IsIn (k, c) (data_lines d n ks) → owner c ≡ Data d
data-owner d n [] k c i = absurd i
data-owner d n (a ∷ ks) k c (inl i) = ap (λ (e : Name × ConstructorEntry). owner e.1) i
data-owner d n (a ∷ ks) k c (inr i) = data-owner d (suc n) ks k c i

pub protocol-owner : (d : ProtocolDecl) (n : ℕ) (ks : List ProtocolConstructor) (k : Name) (c : ConstructorEntry) → IsIn (k, c) (protocol_lines d n ks) → owner c ≡ Protocol d
protocol-owner d n [] k c i = absurd i
protocol-owner d n (a ∷ ks) k c (inl i) = ap (λ (e : Name × ConstructorEntry). owner e.1) i
protocol-owner d n (a ∷ ks) k c (inr i) = protocol-owner d (suc n) ks k c i

pub coprotocol-owner : (d : CoprotocolDecl) (n : ℕ) (ks : List CoprotocolConstructor) (k : Name) (c : ConstructorEntry) → IsIn (k, c) (coprotocol_lines d n ks) → owner c ≡ Coprotocol d
coprotocol-owner d n [] k c i = absurd i
coprotocol-owner d n (a ∷ ks) k c (inl i) = ap (λ (e : Name × ConstructorEntry). owner e.1) i
coprotocol-owner d n (a ∷ ks) k c (inr i) = coprotocol-owner d (suc n) ks k c i

pub owner-is : (d : Decl) (k : Name) (c : ConstructorEntry) → IsIn (k, c) (lines_in d) → owner c ≡ d
owner-is (Data d) k c i = data-owner d 0 d.constructors k c i
owner-is (Protocol d) k c i = protocol-owner d 0 d.constructors k c i
owner-is (Coprotocol d) k c i = coprotocol-owner d 0 d.constructors k c i
owner-is (Function d) k c i = absurd i
owner-is (Process d) k c i = absurd i

-- Declarations of a world

pub line-in : (w : World) (d : Decl) (e : Name × ConstructorEntry) → IsIn d w → IsIn e (lines_in d) → IsIn e (lines_of w)
line-in [] d e i j = absurd i
line-in (c ∷ ds) d e (inl i) j = in-front e (lines_in c) (lines_of ds) (subst (λ b. IsIn e (lines_in b)) i j)
line-in (c ∷ ds) d e (inr i) j = in-behind e (lines_in c) (lines_of ds) (line-in ds d e i j)

pub in-line : (w : World) (e : Name × ConstructorEntry) → IsIn e (lines_of w) → (d : Decl) × IsIn d w × IsIn e (lines_in d)
in-line [] e i = absurd i
in-line (c ∷ ds) e i = go (in-either e (lines_in c) (lines_of ds) i) (in-line ds e)
  where
    go : IsIn e (lines_in c) ⊎ IsIn e (lines_of ds) → (IsIn e (lines_of ds) → (d : Decl) × IsIn d ds × IsIn e (lines_in d)) → (d : Decl) × IsIn d (c ∷ ds) × IsIn e (lines_in d)
    go (inl j) later = (c, inl refl, j)
    go (inr j) later = let r = later j in (r.0, inr r.1, r.2)

pub type-in : (w : World) (d : Decl) (t : TypeEntry) → IsIn d w → type_entry d ≡ Some t → IsIn ((declared_ident d).name, t) (types_of_world w)
type-in [] d t i j = absurd i
type-in (c ∷ ds) d t (inl i) j =
    in-front ((declared_ident d).name, t) (type_of (declared_ident c).name (type_entry c)) (types_of_world ds)
    (subst (λ b. IsIn ((declared_ident d).name, t) (type_of (declared_ident b).name (type_entry b))) i (one (type_entry d) j))
  where
    one : (o : Option TypeEntry) → o ≡ Some t → IsIn ((declared_ident d).name, t) (type_of (declared_ident d).name o)
    one None k = absurd (cc k)
    one (Some u) k = let e : u ≡ t = cc k in let f = sym e in inl (λ m. ((declared_ident d).name, f m))
type-in (c ∷ ds) d t (inr i) j = in-behind ((declared_ident d).name, t) (type_of (declared_ident c).name (type_entry c)) (types_of_world ds) (type-in ds d t i j)

pub lower-in : (w : World) (d : Decl) (l : LowerEntry) → IsIn d w → lower_entry d ≡ Some l → IsIn ((declared_ident d).name, l) (lowers_of w)
lower-in [] d l i j = absurd i
lower-in (c ∷ ds) d l (inl i) j =
    in-front ((declared_ident d).name, l) (lower_of (declared_ident c).name (lower_entry c)) (lowers_of ds)
    (subst (λ b. IsIn ((declared_ident d).name, l) (lower_of (declared_ident b).name (lower_entry b))) i (one (lower_entry d) j))
  where
    one : (o : Option LowerEntry) → o ≡ Some l → IsIn ((declared_ident d).name, l) (lower_of (declared_ident d).name o)
    one None k = absurd (cc k)
    one (Some u) k = let e : u ≡ l = cc k in let f = sym e in inl (λ m. ((declared_ident d).name, f m))
lower-in (c ∷ ds) d l (inr i) j = in-behind ((declared_ident d).name, l) (lower_of (declared_ident c).name (lower_entry c)) (lowers_of ds) (lower-in ds d l i j)

pub in-type : (w : World) (x : Name) (t : TypeEntry) → type_named w x ≡ Some t → (d : Decl) × IsIn d w × (type_entry d ≡ Some t) × (x ≡ (declared_ident d).name)
in-type [] x t i = absurd (cc i)
in-type (c ∷ ds) x t i = go (type_entry c) refl (same_name x (declared_ident c).name) refl i (in-type ds x t)
  where
    go : (o : Option TypeEntry) → type_entry c ≡ o → (b : Bool) → same_name x (declared_ident c).name ≡ b → or_else (where_named b o) (type_named ds x) ≡ Some t
        → (type_named ds x ≡ Some t → (d : Decl) × IsIn d ds × (type_entry d ≡ Some t) × (x ≡ (declared_ident d).name))
        → (d : Decl) × IsIn d (c ∷ ds) × (type_entry d ≡ Some t) × (x ≡ (declared_ident d).name)
    go (Some u) e true s j later = (c, inl refl, e ∙ j, same-is x (declared_ident c).name s)
    go (Some u) e false s j later = let r = later j in (r.0, inr r.1, r.2, r.3)
    go None e true s j later = let r = later j in (r.0, inr r.1, r.2, r.3)
    go None e false s j later = let r = later j in (r.0, inr r.1, r.2, r.3)

module _ (w : World) (once : twice_among [] (declared_from 0 w) ≡ []) where
  pub lines-distinct : are_distinct (firsts (lines_of w)) ≡ true
  lines-distinct = subst (λ ns. are_distinct ns ≡ true) (world-names 0 w) ((space-distinct Constructors [] (declared_from 0 w) once).distinct)

  pub types-distinct : are_distinct (firsts (types_of_world w)) ≡ true
  types-distinct = subst (λ ns. are_distinct ns ≡ true) (type-names 0 w) ((space-distinct Types [] (declared_from 0 w) once).distinct)

  pub lowers-distinct : are_distinct (firsts (lowers_of w)) ≡ true
  lowers-distinct = subst (λ ns. are_distinct ns ≡ true) (lower-names 0 w) ((space-distinct Lowers [] (declared_from 0 w) once).distinct)

  -- a function or process is found by its name
  pub declared-lower : (d : Decl) (l : LowerEntry) → IsIn d w → lower_entry d ≡ Some l → lower_named w (declared_ident d).name ≡ Some l
  declared-lower d l i j = lower-found w (declared_ident d).name ∙ in-found (declared_ident d).name l (lowers_of w) lowers-distinct (lower-in w d l i j)

  -- the line of a declaration is what its constructor is declared to be
  pub line-named : (d : Decl) (k : Name) (c : ConstructorEntry) → IsIn d w → found k (lines_in d) ≡ Some c → constructor_named w k ≡ Some c
  line-named d k c i j = named-found w k ∙ in-found k c (lines_of w) lines-distinct (line-in w d (k, c) i (found-in k c (lines_in d) j))

  pub declared-type : (d : Decl) (t : TypeEntry) → IsIn d w → type_entry d ≡ Some t → type_named w (declared_ident d).name ≡ Some t
  declared-type d t i j = type-found w (declared_ident d).name ∙ in-found (declared_ident d).name t (types_of_world w) types-distinct (type-in w d t i j)

  -- a constructor that is none of a type's lines isn't declared by that type
  pub not-its-own : (d : Decl) (t : TypeEntry) (k : Name) (c : ConstructorEntry) → type_named w (declared_ident d).name ≡ Some t → ((e : Decl) → type_entry e ≡ Some t → e ≡ d)
      → found k (lines_in d) ≡ None → constructor_named w k ≡ Some c → (u : TypeEntry) → type_entry (owner c) ≡ Some u → same_name (declared_ident (owner c)).name (declared_ident d).name ≡ true → ⊥
  not-its-own d t k c named own none i u j s =
      let r = in-line w (k, c) (found-in k c (lines_of w) (sym (named-found w k) ∙ i)) in
      let o = owner-is r.0 k c r.2 in
      let h : IsIn (owner c) w = subst (λ z. IsIn z w) (sym o) r.1 in
      let m = declared-type (owner c) u h j in
      let n : Some u ≡ Some t = sym m ∙ ap (type_named w) (same-is (declared_ident (owner c)).name (declared_ident d).name s) ∙ named in
      let q = own (owner c) (j ∙ n) in
      none-in k c (lines_in d) none (subst (λ z. IsIn (k, c) (lines_in z)) (sym o ∙ q) r.2)

  -- a constructor's declaration is declared
  pub declared-of : (x : Name) (c : ConstructorEntry) → constructor_named w x ≡ Some c → IsIn (owner c) w
  declared-of x c i =
      let (d, there, e) = in-line w (x, c) (found-in x c (lines_of w) (sym (named-found w x) ∙ i)) in
      subst (λ z. IsIn z w) (sym (owner-is d x c e)) there

  -- and is known by its type's name
  pub owner-named : (x : Name) (c : ConstructorEntry) (t : TypeEntry) → constructor_named w x ≡ Some c → type_entry (owner c) ≡ Some t
      → type_named w (declared_ident (owner c)).name ≡ Some t
  owner-named x c t i j = declared-type (owner c) t (declared-of x c i) j

  -- and has the constructor among its lines
  pub among-lines : (x : Name) (c : ConstructorEntry) → constructor_named w x ≡ Some c → IsIn (x, c) (lines_in (owner c))
  among-lines x c i =
      let (d, there, e) = in-line w (x, c) (found-in x c (lines_of w) (sym (named-found w x) ∙ i)) in
      subst (λ z. IsIn (x, c) (lines_in z)) (sym (owner-is d x c e)) e

  -- a line of a declaration is found by its constructor's name
  pub line-known : (d : Decl) (k : Name) (c : ConstructorEntry) → IsIn d w → IsIn (k, c) (lines_in d) → constructor_named w k ≡ Some c
  line-known d k c i j = named-found w k ∙ in-found k c (lines_of w) lines-distinct (line-in w d (k, c) i j)

-- Numbered lines

data-line : (d : DataDecl) (m : ℕ) (ks : List DataConstructor) (n : ℕ) (k : DataConstructor) (c : ℕ) → slice_get ks n ≡ Some k → c ≡ m + n → IsIn (k.name.name, OfData d c k) (data_lines d m ks)
data-line d m [] n k c i e = absurd (cc i)
data-line d m (x ∷ ks) zero k c i e = let p : k ≡ x = cc i in let q : c ≡ m = omega (arith, e) in inl (λ j. ((p j).name.name, OfData d (q j) (p j)))
data-line d m (x ∷ ks) (suc n) k c i e = inr (data-line d (suc m) ks n k c i (omega (arith, e)))

protocol-line : (d : ProtocolDecl) (m : ℕ) (ks : List ProtocolConstructor) (n : ℕ) (k : ProtocolConstructor) (c : ℕ) → slice_get ks n ≡ Some k → c ≡ m + n → IsIn (k.name.name, OfProtocol d c k) (protocol_lines d m ks)
protocol-line d m [] n k c i e = absurd (cc i)
protocol-line d m (x ∷ ks) zero k c i e = let p : k ≡ x = cc i in let q : c ≡ m = omega (arith, e) in inl (λ j. ((p j).name.name, OfProtocol d (q j) (p j)))
protocol-line d m (x ∷ ks) (suc n) k c i e = inr (protocol-line d (suc m) ks n k c i (omega (arith, e)))

coprotocol-line : (d : CoprotocolDecl) (m : ℕ) (ks : List CoprotocolConstructor) (n : ℕ) (k : CoprotocolConstructor) (c : ℕ) → slice_get ks n ≡ Some k → c ≡ m + n → IsIn (k.name.name, OfCoprotocol d c k) (coprotocol_lines d m ks)
coprotocol-line d m [] n k c i e = absurd (cc i)
coprotocol-line d m (x ∷ ks) zero k c i e = let p : k ≡ x = cc i in let q : c ≡ m = omega (arith, e) in inl (λ j. ((p j).name.name, OfCoprotocol d (q j) (p j)))
coprotocol-line d m (x ∷ ks) (suc n) k c i e = inr (coprotocol-line d (suc m) ks n k c i (omega (arith, e)))

data-number : (e : DataDecl) (m : ℕ) (ks : List DataConstructor) (x : Name) (d : DataDecl) (n : ℕ) (k : DataConstructor) → IsIn (x, OfData d n k) (data_lines e m ks) → (j : ℕ) × (n ≡ m + j) × (slice_get ks j ≡ Some k)
data-number e m [] x d n k i = absurd i
data-number e m (a ∷ ks) x d n k (inl i) =
    let p : OfData d n k ≡ OfData e m a = ap (λ (z : Name × ConstructorEntry). z.1) i in
    let z : n ≡ m = cc p in
    let q : a ≡ k = cc p in
    (0, omega (arith, z), ap Some q)
data-number e m (a ∷ ks) x d n k (inr i) = let (j, z, at) = data-number e (suc m) ks x d n k i in (suc j, omega (arith, z), at)

-- Declarations by their entries

pub data-own : (d : DataDecl) (e : Decl) → type_entry e ≡ Some (DataType d) → e ≡ Data d
data-own d (Data c) i = let k : c ≡ d = cc i in ap Data k
data-own d _ i = absurd (cc i)

pub protocol-own : (d : ProtocolDecl) (e : Decl) → type_entry e ≡ Some (ProtocolType d) → e ≡ Protocol d
protocol-own d (Protocol c) i = let k : c ≡ d = cc i in ap Protocol k
protocol-own d _ i = absurd (cc i)

pub coprotocol-own : (d : CoprotocolDecl) (e : Decl) → type_entry e ≡ Some (CoprotocolType d) → e ≡ Coprotocol d
coprotocol-own d (Coprotocol c) i = let k : c ≡ d = cc i in ap Coprotocol k
coprotocol-own d _ i = absurd (cc i)

of-data : (o : Option TypeEntry) (d : DataDecl) → as_data o ≡ Some d → o ≡ Some (DataType d)
of-data (Some (DataType c)) d i = let k : c ≡ d = cc i in ap (λ z. Some (DataType z)) k
of-data _ d i = absurd (cc i)

module _ (w : World) (once : twice_among [] (declared_from 0 w) ≡ []) where
  constructors-known : ConstructorsAreKnown w
  constructors-known x d n k i j =
      let (e, there, entry, named) = in-type w x (DataType d) (of-data (type_named w x) d i) in
      line-known w once (Data d) k.name.name (OfData d n k) (subst (λ z. IsIn z w) (data-own d e entry) there) (data-line d 0 d.constructors n k n j (omega arith))

  types-known : DataTypesAreKnown w
  types-known x d n k i =
      let (j, z, at) = data-number d 0 d.constructors x d n k (among-lines w once x (OfData d n k) i) in
      let y : j ≡ n = omega (arith, z) in
      (ap as_data (owner-named w once x (OfData d n k) (DataType d) i refl), subst (λ m. slice_get d.constructors m ≡ Some k) y at)

  protocols-known : ProtocolsAreKnown w
  protocols-known x d n k i j =
      let (e, there, entry, named) = in-type w x (ProtocolType d) i in
      line-known w once (Protocol d) k.name.name (OfProtocol d n k) (subst (λ z. IsIn z w) (protocol-own d e entry) there) (protocol-line d 0 d.constructors n k n j (omega arith))

  coprotocols-known : CoprotocolsAreKnown w
  coprotocols-known x d n k i j =
      let (e, there, entry, named) = in-type w x (CoprotocolType d) i in
      line-known w once (Coprotocol d) k.name.name (OfCoprotocol d n k) (subst (λ z. IsIn z w) (coprotocol-own d e entry) there) (coprotocol-line d 0 d.constructors n k n j (omega arith))

-- In well declared sources

pub no-first : (fs gs : List NameFault) → fs ++ gs ≡ [] → fs ≡ []
no-first [] gs i = refl
no-first (f ∷ fs) gs i = absurd (cc i)

pub no-second : (fs gs : List NameFault) → fs ++ gs ≡ [] → gs ≡ []
no-second [] gs i = i
no-second (f ∷ fs) gs i = absurd (cc i)

-- no name is declared twice
pub once-declared : (source : Program) → IsWellDeclared source → twice_faults source ≡ []
once-declared source i =
    let used = each (in_decl (world_of source)) source in
    no-first (twice_faults source) used (no-first (twice_faults source ++ used) (run_faults (world_of source)) i)

-- and each that is used is known
pub uses-known : (source : Program) → IsWellDeclared source → each (in_decl (world_of source)) source ≡ []
uses-known source i =
    let used = each (in_decl (world_of source)) source in
    no-second (twice_faults source) used (no-first (twice_faults source ++ used) (run_faults (world_of source)) i)

pub well-declared-constructors : (source : Program) → IsWellDeclared source → ConstructorsAreKnown (world_of source)
well-declared-constructors source i = constructors-known (world_of source) (once-declared source i)

pub types-are-known : (source : Program) → IsWellDeclared source → DataTypesAreKnown (world_of source)
types-are-known source i = types-known (world_of source) (once-declared source i)

pub protocols-are-known : (source : Program) → IsWellDeclared source → ProtocolsAreKnown (world_of source)
protocols-are-known source i = protocols-known (world_of source) (once-declared source i)

pub coprotocols-are-known : (source : Program) → IsWellDeclared source → CoprotocolsAreKnown (world_of source)
coprotocols-are-known source i = coprotocols-known (world_of source) (once-declared source i)
