-- A name is declared once in its space, and a parameter stands once in its heading.
use Rattle.std.specs.Prelude.{ℕ, suc, Bool, true, false, ◌&&◌, ◌||◌, List, [], ◌∷◌, ◌++◌, if◌then◌else◌, eqb, map}
use Rattle.campl_tree.specs.declared.place.Ident.{Ident}
use Rattle.campl_tree.specs.Plain.Decl.{Decl, Data, Protocol, Coprotocol, Function, Process, Program, DataConstructor, ProtocolConstructor, CoprotocolConstructor}
use Rattle.campl_types.specs.declared.fault.NameFault.{NameFault}
use Rattle.campl_types.specs.declared.fault.NameFault.TheVariants.{Twice}
use Rattle.campl_types.specs.Names.{same_name}
use Rattle.campl_types.specs.Prelude.{prelude}

-- where a name is declared; the parameters of each declaration have a space of their own
pub data Space : Type 0 where
  Types : Space
  Constructors : Space
  Lowers : Space
  ParametersOf : (declaration : ℕ) → Space

abbrev pub same_space : Space → Space → Bool
same_space Types Types = true
same_space Constructors Constructors = true
same_space Lowers Lowers = true
same_space (ParametersOf m) (ParametersOf n) = eqb m n
same_space _ _ = false

abbrev pub in_space : Space → List Ident → List (Space × Ident)
in_space s = map (λ x. (s, x))

-- the names that the n-th declaration declares, in source order
abbrev pub declares : ℕ → Decl → List (Space × Ident)
declares n (Data d) =
    (Types, d.name) ∷ in_space (ParametersOf n) d.parameters ++ in_space Constructors (map (λ (k : DataConstructor). k.name) d.constructors)
declares n (Protocol d) =
    (Types, d.name) ∷ in_space (ParametersOf n) d.parameters ++ in_space Constructors (map (λ (k : ProtocolConstructor). k.name) d.constructors)
declares n (Coprotocol d) =
    (Types, d.name) ∷ in_space (ParametersOf n) d.parameters ++ in_space Constructors (map (λ (k : CoprotocolConstructor). k.name) d.constructors)
declares n (Function d) = (Lowers, d.name) ∷ []
declares n (Process d) = (Lowers, d.name) ∷ []

abbrev pub declared_from : ℕ → List Decl → List (Space × Ident)
declared_from n [] = []
declared_from n (d ∷ ds) = declares n d ++ declared_from (suc n) ds

abbrev pub is_declared : Space → Ident → List (Space × Ident) → Bool
is_declared s x [] = false
is_declared s x (e ∷ earlier) = same_space s e.0 && same_name x.name e.1.name || is_declared s x earlier

-- the names that are declared when their space has them already
abbrev pub twice_among : List (Space × Ident) → List (Space × Ident) → List NameFault
twice_among earlier [] = []
twice_among earlier (e ∷ es) =
    (if is_declared e.0 e.1 earlier then Twice e.1.place e.1.name ∷ [] else []) ++ twice_among (e ∷ earlier) es

-- the faults of a source, whose declarations stand behind those of the prelude
abbrev pub twice_faults : Program → List NameFault
twice_faults source = twice_among [] (declared_from 0 (prelude ++ source))
