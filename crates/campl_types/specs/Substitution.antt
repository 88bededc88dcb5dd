-- Type parameters, and types in which they are replaced.
use Rattle.std.specs.Prelude.{List, [], ◌∷◌, ◌++◌, unwrap_or}
use Rattle.campl_tree.specs.Plain.SeqType.{SeqType, SeqTypes, Int, Char, Bool, Pair, Named, Variable, no_types, type_then}
use Rattle.campl_tree.specs.Plain.SeqType as s
use Rattle.campl_types.specs.Names.{Name, found}

-- what each type parameter stands for
abbrev pub Filling : Type 0
Filling = List (Name × SeqType)

-- the first parameter stands for the first argument, and so on
abbrev pub filling : List Name → List SeqType → Filling
filling [] ts = []
filling (x ∷ xs) [] = []
filling (x ∷ xs) (t ∷ ts) = (x, t) ∷ filling xs ts

-- a type with each parameter replaced by what it stands for, all at once
abbrev mutual
  pub filled : Filling → SeqType → SeqType
  filled f Int = Int
  filled f Char = Char
  filled f Bool = Bool
  filled f (s.List t) = s.List (filled f t)
  filled f (Pair t u) = Pair (filled f t) (filled f u)
  filled f (Named at x ts) = Named at x (all_filled f ts)
  filled f (Variable at x) = unwrap_or (found x f) (Variable at x)

  pub all_filled : Filling → SeqTypes → SeqTypes
  all_filled f no_types = no_types
  all_filled f (type_then t ts) = type_then (filled f t) (all_filled f ts)

-- the type variables of a type, as often as they stand, from left to right
abbrev mutual
  pub variables_of : SeqType → List Name
  variables_of Int = []
  variables_of Char = []
  variables_of Bool = []
  variables_of (s.List t) = variables_of t
  variables_of (Pair t u) = variables_of t ++ variables_of u
  variables_of (Named at x ts) = variables_of_all ts
  variables_of (Variable at x) = x ∷ []

  pub variables_of_all : SeqTypes → List Name
  variables_of_all no_types = []
  variables_of_all (type_then t ts) = variables_of t ++ variables_of_all ts

-- the arguments of a named type, as a list and back
abbrev pub list_of : SeqTypes → List SeqType
list_of no_types = []
list_of (type_then t ts) = t ∷ list_of ts

abbrev pub types_of : List SeqType → SeqTypes
types_of [] = no_types
types_of (t ∷ ts) = type_then t (types_of ts)
