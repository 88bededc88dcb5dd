-- The values of a type. A value of a data type, which stands with as many arguments as it has parameters, is
-- built by one of its constructors, which it names by its line, from values of the parts' types. Any value is
-- one of a type variable's, since a function looks at none of its parts.
use Rattle.std.specs.Prelude.{◌≡◌, ℕ, ℤ, List, [], ◌∷◌, Option, Some, slice_get, length}
use Rattle.std.specs.Prelude as std
use Rattle.campl_tree.specs.Plain.SeqType.{SeqType, SeqTypes, Variable}
use Rattle.campl_tree.specs.Plain.SeqType as s
use Rattle.campl_tree.specs.Plain.Decl.{DataDecl, DataConstructor}
use Rattle.campl_value.specs.Tree.{Tree, Trees, Int, Char, Truth, Nil, Cell, Pair, Built, none, more}
use Rattle.campl_types.specs.Substitution.{filling, filled, list_of}
use Rattle.campl_types.specs.Names.{Name, Within}
use Rattle.campl_types.specs.World.{World, OfData, constructor_named, data_named, names_of, variables_of_list}

-- the types of a constructor's parts, where its data type stands at these arguments
abbrev pub parts_at : DataDecl → List SeqType → DataConstructor → List SeqType
parts_at d ts k = std.map (filled (filling (names_of d.parameters) ts)) k.parts

abbrev mutual
  pub IsValue : World → Tree → SeqType → Type 0
  IsValue w v (Variable at x) = Unit {0}
  IsValue w (Int n) s.Int = Unit {0}
  IsValue w (Char n) s.Char = Unit {0}
  IsValue w (Truth b) s.Bool = Unit {0}
  IsValue w Nil (s.List t) = Unit {0}
  IsValue w (Cell head tail) (s.List t) = IsValue w head t × IsValue w tail (s.List t)
  IsValue w (Pair a b) (s.Pair t u) = IsValue w a t × IsValue w b u
  IsValue w (Built n parts) (s.Named at x ts) =
      (d : DataDecl) × (k : DataConstructor) × (data_named w x ≡ Some d) × (slice_get d.constructors n ≡ Some k)
      × (length (list_of ts) ≡ length d.parameters) × AreValues w parts (parts_at d (list_of ts) k)
  IsValue w _ _ = ⊥

  pub AreValues : World → Trees → List SeqType → Type 0
  AreValues w none [] = Unit {0}
  AreValues w (more v vs) (t ∷ ts) = IsValue w v t × AreValues w vs ts
  AreValues w _ _ = ⊥

-- the same for a list of values
abbrev pub AllAreValues : World → List Tree → List SeqType → Type 0
AllAreValues w [] [] = Unit {0}
AllAreValues w (v ∷ vs) (t ∷ ts) = IsValue w v t × AllAreValues w vs ts
AllAreValues w _ _ = ⊥

-- a constructor of a data type is known by its name, with its number
abbrev pub ConstructorsAreKnown : World → Type 0
ConstructorsAreKnown w =
    (x : Name) (d : DataDecl) (n : ℕ) (k : DataConstructor) → data_named w x ≡ Some d → slice_get d.constructors n ≡ Some k
    → constructor_named w k.name.name ≡ Some (OfData d n k)

-- the data type of a constructor is known by its name, and has the constructor at its number
abbrev pub DataTypesAreKnown : World → Type 0
DataTypesAreKnown w =
    (x : Name) (d : DataDecl) (n : ℕ) (k : DataConstructor) → constructor_named w x ≡ Some (OfData d n k)
    → (data_named w d.name.name ≡ Some d) × (slice_get d.constructors n ≡ Some k)

-- the type variables of a constructor's parts are parameters of its data type
abbrev pub PartsAreKnown : World → Type 0
PartsAreKnown w =
    (x : Name) (d : DataDecl) (n : ℕ) (k : DataConstructor) → constructor_named w x ≡ Some (OfData d n k)
    → Within (variables_of_list k.parts) (names_of d.parameters)
