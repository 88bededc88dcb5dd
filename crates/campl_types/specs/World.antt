-- What is declared, by name. There are three spaces of declared names: types (data, protocols and
-- coprotocols), constructors (of all three together), and lower names (functions and processes).
use Rattle.std.specs.Prelude.{ℕ, suc, Bool, List, [], ◌∷◌, ◌++◌, Option, Some, None, if◌then◌else◌, map}
use Rattle.campl_tree.specs.declared.place.Ident.{Ident}
use Rattle.campl_tree.specs.Plain.Decl.{Program, Decl, Data, Protocol, Coprotocol, Function, Process, DataDecl, DataConstructor, ProtocolDecl, ProtocolConstructor, CoprotocolDecl, CoprotocolConstructor, FunctionDecl, ProcessDecl}
use Rattle.campl_tree.specs.Plain.SeqType.{SeqType}
use Rattle.campl_types.specs.Names.{Name, same_name, once}
use Rattle.campl_types.specs.Prelude.{prelude}
use Rattle.campl_types.specs.Substitution.{variables_of}

-- the declarations of a source behind those of the prelude
abbrev pub World : Type 0
World = List Decl

abbrev pub world_of : Program → World
world_of source = prelude ++ source

abbrev pub name_of : Ident → Name
name_of x = x.name

abbrev pub names_of : List Ident → List Name
names_of = map name_of

-- the name that a declaration declares
abbrev pub declared_ident : Decl → Ident
declared_ident (Data d) = d.name
declared_ident (Protocol d) = d.name
declared_ident (Coprotocol d) = d.name
declared_ident (Function d) = d.name
declared_ident (Process d) = d.name

-- Types

-- what a type's name is declared to be
pub data TypeEntry : Type 0 where
  DataType : DataDecl → TypeEntry
  ProtocolType : ProtocolDecl → TypeEntry
  CoprotocolType : CoprotocolDecl → TypeEntry

abbrev pub type_entry : Decl → Option TypeEntry
type_entry (Data d) = Some (DataType d)
type_entry (Protocol d) = Some (ProtocolType d)
type_entry (Coprotocol d) = Some (CoprotocolType d)
type_entry (Function d) = None
type_entry (Process d) = None

abbrev pub or_else : {A : Type 0} → Option A → Option A → Option A
or_else None later = later
or_else (Some x) later = Some x

abbrev pub where_named : {A : Type 0} → Bool → Option A → Option A
where_named b entry = if b then entry else None

-- what the first declaration of the name in the types' space says
abbrev pub type_named : World → Name → Option TypeEntry
type_named [] x = None
type_named (d ∷ ds) x = or_else (where_named (same_name x (declared_ident d).name) (type_entry d)) (type_named ds x)

-- how many parameters a type has
abbrev pub parameters_of : TypeEntry → List Name
parameters_of (DataType d) = names_of d.parameters
parameters_of (ProtocolType d) = names_of d.parameters
parameters_of (CoprotocolType d) = names_of d.parameters

abbrev pub as_data : Option TypeEntry → Option DataDecl
as_data (Some (DataType d)) = Some d
as_data (Some (ProtocolType d)) = None
as_data (Some (CoprotocolType d)) = None
as_data None = None

abbrev pub data_named : World → Name → Option DataDecl
data_named w x = as_data (type_named w x)

-- Constructors, numbered from 0 by the lines of their declaration

pub data ConstructorEntry : Type 0 where
  OfData : DataDecl → ℕ → DataConstructor → ConstructorEntry
  OfProtocol : ProtocolDecl → ℕ → ProtocolConstructor → ConstructorEntry
  OfCoprotocol : CoprotocolDecl → ℕ → CoprotocolConstructor → ConstructorEntry

abbrev pub among_data : DataDecl → ℕ → List DataConstructor → Name → Option ConstructorEntry
among_data d n [] x = None
among_data d n (k ∷ ks) x = if same_name x k.name.name then Some (OfData d n k) else among_data d (suc n) ks x

abbrev pub among_protocol : ProtocolDecl → ℕ → List ProtocolConstructor → Name → Option ConstructorEntry
among_protocol d n [] x = None
among_protocol d n (k ∷ ks) x = if same_name x k.name.name then Some (OfProtocol d n k) else among_protocol d (suc n) ks x

abbrev pub among_coprotocol : CoprotocolDecl → ℕ → List CoprotocolConstructor → Name → Option ConstructorEntry
among_coprotocol d n [] x = None
among_coprotocol d n (k ∷ ks) x = if same_name x k.name.name then Some (OfCoprotocol d n k) else among_coprotocol d (suc n) ks x

abbrev pub constructor_entry : Decl → Name → Option ConstructorEntry
constructor_entry (Data d) x = among_data d 0 d.constructors x
constructor_entry (Protocol d) x = among_protocol d 0 d.constructors x
constructor_entry (Coprotocol d) x = among_coprotocol d 0 d.constructors x
constructor_entry (Function d) x = None
constructor_entry (Process d) x = None

-- what the first declaration of the name in the constructors' space says
abbrev pub constructor_named : World → Name → Option ConstructorEntry
constructor_named [] x = None
constructor_named (d ∷ ds) x = or_else (constructor_entry d x) (constructor_named ds x)

abbrev pub number_in : ConstructorEntry → ℕ
number_in (OfData d n k) = n
number_in (OfProtocol d n k) = n
number_in (OfCoprotocol d n k) = n

-- Functions and processes

pub data LowerEntry : Type 0 where
  AFunction : FunctionDecl → LowerEntry
  AProcess : ProcessDecl → LowerEntry

abbrev pub lower_entry : Decl → Option LowerEntry
lower_entry (Function d) = Some (AFunction d)
lower_entry (Process d) = Some (AProcess d)
lower_entry (Data d) = None
lower_entry (Protocol d) = None
lower_entry (Coprotocol d) = None

abbrev pub lower_named : World → Name → Option LowerEntry
lower_named [] x = None
lower_named (d ∷ ds) x = or_else (where_named (same_name x (declared_ident d).name) (lower_entry d)) (lower_named ds x)

abbrev as_function : Option LowerEntry → Option FunctionDecl
as_function (Some (AFunction d)) = Some d
as_function (Some (AProcess d)) = None
as_function None = None

abbrev as_process : Option LowerEntry → Option ProcessDecl
as_process (Some (AProcess d)) = Some d
as_process (Some (AFunction d)) = None
as_process None = None

abbrev pub function_named : World → Name → Option FunctionDecl
function_named w x = as_function (lower_named w x)

abbrev pub process_named : World → Name → Option ProcessDecl
process_named w x = as_process (lower_named w x)

abbrev pub variables_of_list : List SeqType → List Name
variables_of_list [] = []
variables_of_list (t ∷ ts) = variables_of t ++ variables_of_list ts

-- the type parameters of a function are the type variables of its types
abbrev pub type_parameters : FunctionDecl → List Name
type_parameters f = once (variables_of_list f.parameters ++ variables_of f.result)
