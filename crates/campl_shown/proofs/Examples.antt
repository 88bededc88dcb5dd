-- Worked types, as they are written.
use Rattle.std.proofs.Common.{◌≡◌, refl, ℕ, List, [], ◌∷◌, codes}
use Rattle.campl_tree.specs.declared.place.Place.{Place}
use Rattle.campl_tree.specs.Plain.SeqType.{SeqType, SeqTypes, Int, Char, Bool, Pair, Variable, no_types, type_then}
use Rattle.campl_tree.specs.Plain.SeqType as s
use Rattle.campl_tree.specs.Plain.ChanType.{ChanType, Put, Get, Tensor, Par, TopBot, Neg}
use Rattle.campl_tree.specs.Plain.ChanType as c
use Rattle.campl_shown.specs.Characters.{character_text}
use Rattle.campl_shown.specs.Types.{type_text, type_text_at, chan_text}

abbrev at : Place
at = record { line = 1; column = 1 }

abbrev a : SeqType
a = Variable at (codes "a")

abbrev named : List ℕ → ChanType
named x = c.Named at x no_types

-- a data type at an argument
maybe-text : type_text (s.Named at (codes "Maybe") (type_then (s.List Char) no_types)) ≡ codes "Maybe([Char])"
maybe-text = refl

-- two arguments, and none
either-bool : type_text (s.Named at (codes "Either") (type_then (s.Named at (codes "Colour") no_types) (type_then Bool no_types))) ≡ codes "Either(Colour, Bool)"
either-bool = refl

-- a pair
pair-text : type_text (Pair Int a) ≡ codes "(Int, a)"
pair-text = refl

-- a parameter that stands for a type whose own variable keeps its name, and one that stands for nothing yet
bound : type_text_at ((codes "a", Pair Int (Variable at (codes "b"))) ∷ []) (Pair (s.List a) (Variable at (codes "b"))) ≡ codes "([(Int, b)], _)"
bound = refl

-- a session
get-text : chan_text (Get (s.List Char) (named (codes "StringTerminal"))) ≡ codes "Get([Char] | StringTerminal)"
get-text = refl

put-neg : chan_text (Put Int (Neg TopBot)) ≡ codes "Put(Int | Neg(TopBot))"
put-neg = refl

-- an operand that is such a type itself
mixed : chan_text (Tensor (named (codes "X")) (Par (named (codes "Y")) (named (codes "Z")))) ≡ codes "X (*) (Y (+) Z)"
mixed = refl

-- characters, with and without an escape
letter : character_text 97 ≡ codes "'a'"
letter = refl

quote : character_text 39 ≡ codes "'\\''"
quote = refl
