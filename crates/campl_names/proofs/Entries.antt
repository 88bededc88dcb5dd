-- The tables find what the lists of declarations say.
use Rattle.std.proofs.Common.{◌≡◌, ◌∙◌, refl, sym, ap, ℕ, zero, suc, ◌+◌, Bool, true, false, List, [], ◌∷◌, ◌++◌, Option, Some, None, if◌then◌else◌, map, slice_get, option_map, arith}
use Rattle.campl_tree.specs.Plain.Decl.{Decl, Data, Protocol, Coprotocol, Function, Process, DataDecl, DataConstructor, ProtocolDecl, ProtocolConstructor, CoprotocolDecl, CoprotocolConstructor}
use Rattle.campl_types.specs.Names.{Name, same_name, found}
use Rattle.campl_names.specs.Tables.{Spot, Spots, line_spots, data_names, protocol_names, coprotocol_names, type_spots, constructor_spots, lower_spots, spots}
use Rattle.campl_types.specs.World.{DataType, ProtocolType, CoprotocolType, type_entry, type_named, or_else, where_named, ConstructorEntry, OfData, OfProtocol, OfCoprotocol, among_data, among_protocol, among_coprotocol, constructor_named, AFunction, AProcess, lower_entry, lower_named}

pub get-map : {A B : Type 0} → (f : A → B) (xs : List A) (n : ℕ) → slice_get (map f xs) n ≡ option_map f (slice_get xs n)
get-map f [] n = refl
get-map f (x ∷ xs) zero = refl
get-map f (x ∷ xs) (suc n) = get-map f xs n

-- Types and small names

abbrev entry_in : {A : Type 0} → (Decl → Option A) → Option Decl → Option A
entry_in f None = None
entry_in f (Some d) = f d

abbrev entry_at : {A : Type 0} → (Decl → Option A) → List Decl → Option Spot → Option A
entry_at f ds None = None
entry_at f ds (Some s) = entry_in f (slice_get ds s.0)

-- the rest of a list from a number on
abbrev IsFrom : {A : Type 0} → ℕ → List A → List A → Type 0
IsFrom n ds all = (i : ℕ) → slice_get all (n + i) ≡ slice_get ds i

from-next : {A : Type 0} → (n : ℕ) (d : A) (ds all : List A) → IsFrom n (d ∷ ds) all → IsFrom (suc n) ds all
from-next n d ds all r i = let e : suc n + i ≡ n + suc i = omega arith in rw e (r (suc i))

from-here : {A : Type 0} → (n : ℕ) (d : A) (ds all : List A) → IsFrom n (d ∷ ds) all → slice_get all n ≡ Some d
from-here n d ds all r = let e : n + 0 ≡ n = omega arith in ap (slice_get all) (sym e) ∙ r 0

-- a heading that is found, or passed over
heading : {A : Type 0} → (f : Decl → Option A) (n : ℕ) (d : Decl) (x : Name) (rest : Spots) (later : Option A) (all : List Decl) (b : Bool) (entry : A)
    → f d ≡ Some entry → slice_get all n ≡ Some d → later ≡ entry_at f all (found x rest)
    → or_else (where_named b (f d)) later ≡ entry_at f all (if b then Some (n, 0) else found x rest)
heading f n d x rest later all true entry i j k = rw (i, j) (sym i)
heading f n d x rest later all false entry i j k = k

-- a declaration of another space
beside : {A : Type 0} → (b : Bool) (later found : Option A) → later ≡ found → or_else (where_named b None) later ≡ found
beside true later found i = i
beside false later found i = i

types-from : (x : Name) (n : ℕ) (ds all : List Decl) → IsFrom n ds all → type_named ds x ≡ entry_at type_entry all (found x (spots type_spots n ds))
types-from x n [] all r = refl
types-from x n (Data k ∷ ds) all r =
    heading type_entry n (Data k) x (spots type_spots (suc n) ds) (type_named ds x) all (same_name x k.name.name) (DataType k) refl (from-here n (Data k) ds all r) (types-from x (suc n) ds all (from-next n (Data k) ds all r))
types-from x n (Protocol k ∷ ds) all r =
    heading type_entry n (Protocol k) x (spots type_spots (suc n) ds) (type_named ds x) all (same_name x k.name.name) (ProtocolType k) refl (from-here n (Protocol k) ds all r) (types-from x (suc n) ds all (from-next n (Protocol k) ds all r))
types-from x n (Coprotocol k ∷ ds) all r =
    heading type_entry n (Coprotocol k) x (spots type_spots (suc n) ds) (type_named ds x) all (same_name x k.name.name) (CoprotocolType k) refl (from-here n (Coprotocol k) ds all r) (types-from x (suc n) ds all (from-next n (Coprotocol k) ds all r))
types-from x n (Function k ∷ ds) all r =
    beside (same_name x k.name.name) (type_named ds x) (entry_at type_entry all (found x (spots type_spots (suc n) ds))) (types-from x (suc n) ds all (from-next n (Function k) ds all r))
types-from x n (Process k ∷ ds) all r =
    beside (same_name x k.name.name) (type_named ds x) (entry_at type_entry all (found x (spots type_spots (suc n) ds))) (types-from x (suc n) ds all (from-next n (Process k) ds all r))

lowers-from : (x : Name) (n : ℕ) (ds all : List Decl) → IsFrom n ds all → lower_named ds x ≡ entry_at lower_entry all (found x (spots lower_spots n ds))
lowers-from x n [] all r = refl
lowers-from x n (Function k ∷ ds) all r =
    heading lower_entry n (Function k) x (spots lower_spots (suc n) ds) (lower_named ds x) all (same_name x k.name.name) (AFunction k) refl (from-here n (Function k) ds all r) (lowers-from x (suc n) ds all (from-next n (Function k) ds all r))
lowers-from x n (Process k ∷ ds) all r =
    heading lower_entry n (Process k) x (spots lower_spots (suc n) ds) (lower_named ds x) all (same_name x k.name.name) (AProcess k) refl (from-here n (Process k) ds all r) (lowers-from x (suc n) ds all (from-next n (Process k) ds all r))
lowers-from x n (Data k ∷ ds) all r =
    beside (same_name x k.name.name) (lower_named ds x) (entry_at lower_entry all (found x (spots lower_spots (suc n) ds))) (lowers-from x (suc n) ds all (from-next n (Data k) ds all r))
lowers-from x n (Protocol k ∷ ds) all r =
    beside (same_name x k.name.name) (lower_named ds x) (entry_at lower_entry all (found x (spots lower_spots (suc n) ds))) (lowers-from x (suc n) ds all (from-next n (Protocol k) ds all r))
lowers-from x n (Coprotocol k ∷ ds) all r =
    beside (same_name x k.name.name) (lower_named ds x) (entry_at lower_entry all (found x (spots lower_spots (suc n) ds))) (lowers-from x (suc n) ds all (from-next n (Coprotocol k) ds all r))

from-zero : {A : Type 0} → (all : List A) → IsFrom 0 all all
from-zero all i = let e : 0 + i ≡ i = omega arith in ap (slice_get all) e

pub type-found : (ds : List Decl) (x : Name) → type_named ds x ≡ entry_at type_entry ds (found x (spots type_spots 0 ds))
type-found ds x = types-from x 0 ds ds (from-zero ds)

pub lower-found : (ds : List Decl) (x : Name) → lower_named ds x ≡ entry_at lower_entry ds (found x (spots lower_spots 0 ds))
lower-found ds x = lowers-from x 0 ds ds (from-zero ds)

-- Constructors

abbrev line_in : Option Decl → ℕ → Option ConstructorEntry
line_in None k = None
line_in (Some (Data d)) k = option_map (OfData d k) (slice_get d.constructors k)
line_in (Some (Protocol d)) k = option_map (OfProtocol d k) (slice_get d.constructors k)
line_in (Some (Coprotocol d)) k = option_map (OfCoprotocol d k) (slice_get d.constructors k)
line_in (Some (Function d)) k = None
line_in (Some (Process d)) k = None

abbrev line_at : List Decl → Option Spot → Option ConstructorEntry
line_at ds None = None
line_at ds (Some s) = line_in (slice_get ds s.0) s.1

-- a line that is found, or passed over
line : (n k : ℕ) (x : Name) (rest : Spots) (later : Option ConstructorEntry) (all : List Decl) (b : Bool) (entry : ConstructorEntry)
    → line_in (slice_get all n) k ≡ Some entry → later ≡ line_at all (found x rest)
    → or_else (if b then Some entry else None) later ≡ line_at all (if b then Some (n, k) else found x rest)
line n k x rest later all true entry i j = sym i
line n k x rest later all false entry i j = j

or-if : {A : Type 0} → (b : Bool) (y : A) (now later : Option A) → or_else (if b then Some y else now) later ≡ or_else (if b then Some y else None) (or_else now later)
or-if true y now later = refl
or-if false y now later = refl

data-lines : (x : Name) (d : DataDecl) (n k : ℕ) (ks : List DataConstructor) (rest : Spots) (later : Option ConstructorEntry) (all : List Decl)
    → slice_get all n ≡ Some (Data d) → IsFrom k ks d.constructors → later ≡ line_at all (found x rest)
    → or_else (among_data d k ks x) later ≡ line_at all (found x (line_spots n k (data_names ks) ++ rest))
data-lines x d n k [] rest later all i r j = j
data-lines x d n k (y ∷ ks) rest later all i r j =
    let here : line_in (slice_get all n) k ≡ Some (OfData d k y) = rw i (ap (option_map (OfData d k)) (from-here k y ks d.constructors r)) in
    let more = data-lines x d n (suc k) ks rest later all i (from-next k y ks d.constructors r) j in
    or-if (same_name x y.name.name) (OfData d k y) (among_data d (suc k) ks x) later ∙ line n k x (line_spots n (suc k) (data_names ks) ++ rest) _ all (same_name x y.name.name) (OfData d k y) here more

protocol-lines : (x : Name) (d : ProtocolDecl) (n k : ℕ) (ks : List ProtocolConstructor) (rest : Spots) (later : Option ConstructorEntry) (all : List Decl)
    → slice_get all n ≡ Some (Protocol d) → IsFrom k ks d.constructors → later ≡ line_at all (found x rest)
    → or_else (among_protocol d k ks x) later ≡ line_at all (found x (line_spots n k (protocol_names ks) ++ rest))
protocol-lines x d n k [] rest later all i r j = j
protocol-lines x d n k (y ∷ ks) rest later all i r j =
    let here : line_in (slice_get all n) k ≡ Some (OfProtocol d k y) = rw i (ap (option_map (OfProtocol d k)) (from-here k y ks d.constructors r)) in
    let more = protocol-lines x d n (suc k) ks rest later all i (from-next k y ks d.constructors r) j in
    or-if (same_name x y.name.name) (OfProtocol d k y) (among_protocol d (suc k) ks x) later ∙ line n k x (line_spots n (suc k) (protocol_names ks) ++ rest) _ all (same_name x y.name.name) (OfProtocol d k y) here more

coprotocol-lines : (x : Name) (d : CoprotocolDecl) (n k : ℕ) (ks : List CoprotocolConstructor) (rest : Spots) (later : Option ConstructorEntry) (all : List Decl)
    → slice_get all n ≡ Some (Coprotocol d) → IsFrom k ks d.constructors → later ≡ line_at all (found x rest)
    → or_else (among_coprotocol d k ks x) later ≡ line_at all (found x (line_spots n k (coprotocol_names ks) ++ rest))
coprotocol-lines x d n k [] rest later all i r j = j
coprotocol-lines x d n k (y ∷ ks) rest later all i r j =
    let here : line_in (slice_get all n) k ≡ Some (OfCoprotocol d k y) = rw i (ap (option_map (OfCoprotocol d k)) (from-here k y ks d.constructors r)) in
    let more = coprotocol-lines x d n (suc k) ks rest later all i (from-next k y ks d.constructors r) j in
    or-if (same_name x y.name.name) (OfCoprotocol d k y) (among_coprotocol d (suc k) ks x) later ∙ line n k x (line_spots n (suc k) (coprotocol_names ks) ++ rest) _ all (same_name x y.name.name) (OfCoprotocol d k y) here more

constructors-from : (x : Name) (n : ℕ) (ds all : List Decl) → IsFrom n ds all → constructor_named ds x ≡ line_at all (found x (spots constructor_spots n ds))
constructors-from x n [] all r = refl
constructors-from x n (Data k ∷ ds) all r =
    data-lines x k n 0 k.constructors (spots constructor_spots (suc n) ds) (constructor_named ds x) all (from-here n (Data k) ds all r) (from-zero k.constructors) (constructors-from x (suc n) ds all (from-next n (Data k) ds all r))
constructors-from x n (Protocol k ∷ ds) all r =
    protocol-lines x k n 0 k.constructors (spots constructor_spots (suc n) ds) (constructor_named ds x) all (from-here n (Protocol k) ds all r) (from-zero k.constructors) (constructors-from x (suc n) ds all (from-next n (Protocol k) ds all r))
constructors-from x n (Coprotocol k ∷ ds) all r =
    coprotocol-lines x k n 0 k.constructors (spots constructor_spots (suc n) ds) (constructor_named ds x) all (from-here n (Coprotocol k) ds all r) (from-zero k.constructors) (constructors-from x (suc n) ds all (from-next n (Coprotocol k) ds all r))
constructors-from x n (Function k ∷ ds) all r = constructors-from x (suc n) ds all (from-next n (Function k) ds all r)
constructors-from x n (Process k ∷ ds) all r = constructors-from x (suc n) ds all (from-next n (Process k) ds all r)

pub constructor-found : (ds : List Decl) (x : Name) → constructor_named ds x ≡ line_at ds (found x (spots constructor_spots 0 ds))
constructor-found ds x = constructors-from x 0 ds ds (from-zero ds)

pub ruleset types = (type-found, get-map)

pub ruleset lowers = (lower-found, get-map)

pub ruleset constructors = (constructor-found, get-map)
