-- Where each declared name stands, by spaces.
use Rattle.std.specs.Prelude.{ℕ, suc, List, [], ◌∷◌, ◌++◌, map, if◌then◌else◌}
use Rattle.campl_tree.specs.declared.place.Ident.{Ident}
use Rattle.campl_tree.specs.Plain.Decl.{Decl, Data, Protocol, Coprotocol, Function, Process, DataConstructor, ProtocolConstructor, CoprotocolConstructor}
use Rattle.campl_types.specs.declared.fault.NameFault.{NameFault}
use Rattle.campl_types.specs.declared.fault.NameFault.TheVariants.{Twice}
use Rattle.campl_types.specs.Names.{Name, is_among}

-- the number of a declaration, and of a line in it; that of a heading is 0
abbrev pub Spot : Type 0
Spot = ℕ × ℕ

abbrev pub Spots : Type 0
Spots = List (Name × Spot)

abbrev pub names_in : Spots → List Name
names_in = map (λ e. e.0)

abbrev pub data_names : List DataConstructor → List Ident
data_names = map (λ (k : DataConstructor). k.name)

abbrev pub protocol_names : List ProtocolConstructor → List Ident
protocol_names = map (λ (k : ProtocolConstructor). k.name)

abbrev pub coprotocol_names : List CoprotocolConstructor → List Ident
coprotocol_names = map (λ (k : CoprotocolConstructor). k.name)

-- the lines of the n-th declaration from the k-th on
abbrev pub line_spots : ℕ → ℕ → List Ident → Spots
line_spots n k [] = []
line_spots n k (x ∷ xs) = (x.name, (n, k)) ∷ line_spots n (suc k) xs

abbrev pub heading_spot : ℕ → Ident → Spots
heading_spot n x = (x.name, (n, 0)) ∷ []

abbrev pub type_spots : ℕ → Decl → Spots
type_spots n (Data d) = heading_spot n d.name
type_spots n (Protocol d) = heading_spot n d.name
type_spots n (Coprotocol d) = heading_spot n d.name
type_spots n (Function d) = []
type_spots n (Process d) = []

abbrev pub constructor_spots : ℕ → Decl → Spots
constructor_spots n (Data d) = line_spots n 0 (data_names d.constructors)
constructor_spots n (Protocol d) = line_spots n 0 (protocol_names d.constructors)
constructor_spots n (Coprotocol d) = line_spots n 0 (coprotocol_names d.constructors)
constructor_spots n (Function d) = []
constructor_spots n (Process d) = []

abbrev pub lower_spots : ℕ → Decl → Spots
lower_spots n (Data d) = []
lower_spots n (Protocol d) = []
lower_spots n (Coprotocol d) = []
lower_spots n (Function d) = heading_spot n d.name
lower_spots n (Process d) = heading_spot n d.name

-- the spots of all declarations, numbered from n
abbrev pub spots : (ℕ → Decl → Spots) → ℕ → List Decl → Spots
spots f n [] = []
spots f n (d ∷ ds) = f n d ++ spots f (suc n) ds

-- the fault of a name among those of its space
abbrev pub again : List Name → Ident → List NameFault
again names x = if is_among x.name names then Twice x.place x.name ∷ [] else []

-- and of names that are declared one after another
abbrev pub all_again : List Name → List Ident → List NameFault
all_again names [] = []
all_again names (x ∷ xs) = again names x ++ all_again (names ++ x.name ∷ []) xs

-- the faults of a declaration behind those whose types, constructors and lower names these are
abbrev pub decl_again : Spots → Spots → Spots → Decl → List NameFault
decl_again types constructors lowers (Data d) =
    again (names_in types) d.name ++ all_again [] d.parameters ++ all_again (names_in constructors) (data_names d.constructors)
decl_again types constructors lowers (Protocol d) =
    again (names_in types) d.name ++ all_again [] d.parameters ++ all_again (names_in constructors) (protocol_names d.constructors)
decl_again types constructors lowers (Coprotocol d) =
    again (names_in types) d.name ++ all_again [] d.parameters ++ all_again (names_in constructors) (coprotocol_names d.constructors)
decl_again types constructors lowers (Function d) = again (names_in lowers) d.name
decl_again types constructors lowers (Process d) = again (names_in lowers) d.name

-- and of declarations from the n-th on, one after another
abbrev pub decls_again : Spots → Spots → Spots → ℕ → List Decl → List NameFault
decls_again types constructors lowers n [] = []
decls_again types constructors lowers n (d ∷ ds) =
    decl_again types constructors lowers d
    ++ decls_again (types ++ type_spots n d) (constructors ++ constructor_spots n d) (lowers ++ lower_spots n d) (suc n) ds
