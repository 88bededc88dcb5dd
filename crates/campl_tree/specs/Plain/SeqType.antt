-- Sequential types as definitions see them, each name with its place.
use Rattle.campl_tree.specs.declared.place.Place.{Place}
use Rattle.campl_tree.specs.declared.name.Name.{Name}

mutual
  pub data SeqType : Type 0 where
    Int : SeqType
    Char : SeqType
    Bool : SeqType
    List : SeqType → SeqType
    Pair : SeqType → SeqType → SeqType
    Named : Place → Name → SeqTypes → SeqType
    Variable : Place → Name → SeqType

  -- the arguments of a named type
  pub data SeqTypes : Type 0 where
    no_types : SeqTypes
    type_then : SeqType → SeqTypes → SeqTypes
