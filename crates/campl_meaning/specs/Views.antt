-- How a channel is seen from one of its sides, and what that view takes of what is sent on the other.
--
-- This is `campl_types`' `Views` restated: a view has no places, and a value that is taken is one of `IsValue`.
use Rattle.std.specs.Prelude.{◌≡◌, ℕ, List, [], ◌∷◌, Option, Some, None, slice_get}
use Rattle.campl_tree.specs.declared.service.Side.{Side}
use Rattle.campl_tree.specs.Plain.ChanType.{ChanType}
use Rattle.campl_types.specs.Names.{Name}
use Rattle.campl_types.specs.SameType.{bare_chan}
use Rattle.campl_types.specs.World.{World}
use Rattle.campl_types.specs.Polarity.{Deed, Gets, Splits, Offers, Choices}
use Rattle.campl_types.specs.Held.{Channel, On}
use Rattle.campl_types.specs.Views as v
use Rattle.campl_types.specs.Views.{View, As, Nothing, turned, deed_of, side_of}
use Rattle.campl_meaning.specs.States.{Message, Word, Pick, EndPair}
use Rattle.campl_types.specs.Values.{IsValue}

-- a type on a side without its places, with each `Neg` before it turned
abbrev pub view_of : Side → ChanType → View
view_of s t = v.view_of s (bare_chan t)

-- a channel as it is seen, or nothing more
abbrev pub view_in : Option Channel → View
view_in None = Nothing
view_in (Some (On s t)) = view_of s t

abbrev nth : Side → Choices → ℕ → View → Type 0
nth s cs n next = (x : Name) × (t : ChanType) × (slice_get cs n ≡ Some (x, t)) × (next ≡ view_of s t)

abbrev pub taken_at : World → Side → Deed → Message → View → Type 0
taken_at w s (Gets t x) (Word u) next = IsValue w u t × (next ≡ view_of s x)
taken_at w s (Offers cs) (Pick n) next = nth s cs n next
taken_at w s (Splits x y) (EndPair e f) next = next ≡ Nothing
taken_at w s _ _ next = ⊥

-- the view takes the message, by the receipt at which it stands, and this view remains
abbrev pub Takes : World → View → Message → View → Type 0
Takes w view m next = taken_at w (side_of view) (deed_of w view) m next

-- and so for messages in order
abbrev pub TakesAll : World → View → List Message → View → Type 0
TakesAll w view [] last = view ≡ last
TakesAll w view (m ∷ ms) last = (next : View) × Takes w view m next × TakesAll w next ms last
