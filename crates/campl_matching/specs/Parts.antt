-- Parts of types.
use Rattle.std.specs.Prelude.{Option, Some, None}
use Rattle.campl_tree.specs.Plain.SeqType.{SeqType, SeqTypes, Pair, Named}
use Rattle.campl_tree.specs.Plain.SeqType as s
use Rattle.campl_types.specs.Names.{Name}

-- the type of a list type's elements
abbrev pub item_of : SeqType → Option SeqType
item_of (s.List t) = Some t
item_of _ = None

-- the types of a pair type's parts
abbrev pub parts_of : SeqType → Option (SeqType × SeqType)
parts_of (Pair t u) = Some (t, u)
parts_of _ = None

-- the name and the arguments of a named type
abbrev pub named_parts : SeqType → Option (Name × SeqTypes)
named_parts (Named at x ts) = Some (x, ts)
named_parts _ = None
