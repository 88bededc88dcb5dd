-- Worked matches.
use Rattle.std.proofs.Common.{◌≡◌, refl, [], ◌∷◌, Some, None, codes}
use Rattle.campl_tree.specs.declared.place.Place.{Place}
use Rattle.campl_tree.specs.Plain.SeqType.{SeqType, Int, Char, Bool, Pair, Named, Variable, no_types, type_then}
use Rattle.campl_matching.specs.Matching.{matched}

abbrev at : Place
at = record { line = 1; column = 1 }

abbrev a : SeqType
a = Variable at (codes "a")

abbrev b : SeqType
b = Variable at (codes "b")

abbrev maybe : SeqType → SeqType
maybe t = Named at (codes "Maybe") (type_then t no_types)

-- (Maybe(a), b) against (Maybe(Int), Char)
both-bound : matched [] (Pair (maybe a) b) (Pair (maybe Int) Char) ≡ Some ((codes "a", Int) ∷ (codes "b", Char) ∷ [])
both-bound = refl

-- (b, a) against (Bool, Char), where a is Int
another : matched ((codes "a", Int) ∷ []) (Pair b a) (Pair Bool Char) ≡ None
another = refl

-- Maybe(a) against another data type, and against one at two arguments
other-name : matched [] (maybe a) (Named at (codes "List") (type_then Int no_types)) ≡ None
other-name = refl

longer : matched [] (maybe a) (Named at (codes "Maybe") (type_then Int (type_then Int no_types))) ≡ None
longer = refl
