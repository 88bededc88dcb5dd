-- Types are the same where they differ in places at most.
use Rattle.std.specs.Prelude.{◌≡◌}
use Rattle.campl_tree.specs.declared.place.Place.{Place}
use Rattle.campl_tree.specs.Plain.SeqType.{SeqType, SeqTypes, Int, Char, Bool, Pair, Variable, no_types, type_then}
use Rattle.campl_tree.specs.Plain.SeqType as s
use Rattle.campl_tree.specs.Plain.ChanType.{ChanType, Put, Get, Tensor, Par, TopBot, Neg}
use Rattle.campl_tree.specs.Plain.ChanType as c

-- the place of what stands in no source
abbrev pub nowhere : Place
nowhere = record { line = 0; column = 0 }

-- a type without its places
abbrev mutual
  pub bare : SeqType → SeqType
  bare Int = Int
  bare Char = Char
  bare Bool = Bool
  bare (s.List t) = s.List (bare t)
  bare (Pair t u) = Pair (bare t) (bare u)
  bare (s.Named at x ts) = s.Named nowhere x (all_bare ts)
  bare (Variable at x) = Variable nowhere x

  pub all_bare : SeqTypes → SeqTypes
  all_bare no_types = no_types
  all_bare (type_then t ts) = type_then (bare t) (all_bare ts)

abbrev pub bare_chan : ChanType → ChanType
bare_chan (Put t x) = Put (bare t) (bare_chan x)
bare_chan (Get t x) = Get (bare t) (bare_chan x)
bare_chan (Tensor x y) = Tensor (bare_chan x) (bare_chan y)
bare_chan (Par x y) = Par (bare_chan x) (bare_chan y)
bare_chan TopBot = TopBot
bare_chan (Neg x) = Neg (bare_chan x)
bare_chan (c.Named at x ts) = c.Named nowhere x (all_bare ts)

abbrev pub IsSame : SeqType → SeqType → Type 0
IsSame t u = bare t ≡ bare u

abbrev pub IsSameChan : ChanType → ChanType → Type 0
IsSameChan x y = bare_chan x ≡ bare_chan y
