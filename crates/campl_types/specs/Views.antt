-- How a channel is seen from one of its sides, and what that view takes of what is sent on the other.
use Rattle.std.specs.Prelude.{◌≡◌, ℕ, List, [], ◌∷◌, Some, slice_get}
use Rattle.campl_tree.specs.declared.service.Side.{Side}
use Rattle.campl_tree.specs.declared.service.Side.TheVariants.{Input}
use Rattle.campl_tree.specs.Side.{opposite}
use Rattle.campl_tree.specs.Plain.ChanType.{ChanType, Put, Get, Tensor, Par, TopBot, Neg, Named}
use Rattle.campl_value.specs.Tree.{Tree}
use Rattle.campl_types.specs.Names.{Name}
use Rattle.campl_types.specs.World.{World}
use Rattle.campl_types.specs.Polarity.{Deed, Gets, Splits, Offers, IsLinked, Choices, deed}
use Rattle.campl_types.specs.Values.{IsValue}

-- a type on a side, or nothing more
pub data View : Type 0 where
  As : Side → ChanType → View
  Nothing : View

-- the same from the other side
abbrev pub turned : View → View
turned (As s t) = As (opposite s) t
turned Nothing = Nothing

-- `Neg(X)` on a side is seen as X on the other; every other type is its own view
abbrev pub view_of : Side → ChanType → View
view_of s (Neg t) = turned (view_of s t)
view_of s (Put t x) = As s (Put t x)
view_of s (Get t x) = As s (Get t x)
view_of s (Tensor x y) = As s (Tensor x y)
view_of s (Par x y) = As s (Par x y)
view_of s TopBot = As s TopBot
view_of s (Named at x ts) = As s (Named at x ts)

abbrev pub deed_of : World → View → Deed
deed_of w (As s t) = deed w s t
deed_of w Nothing = IsLinked

abbrev pub side_of : View → Side
side_of (As s t) = s
side_of Nothing = Input

-- what is sent: a value, the number of a constructor, or two ends
pub data Letter : Type 0 where
  Word : Tree → Letter
  Pick : ℕ → Letter
  TwoEnds : Letter

abbrev nth : Side → Choices → ℕ → View → Type 0
nth s cs n next = (x : Name) × (t : ChanType) × (slice_get cs n ≡ Some (x, t)) × (next ≡ view_of s t)

abbrev pub taken_at : World → Side → Deed → Letter → View → Type 0
taken_at w s (Gets t x) (Word v) next = IsValue w v t × (next ≡ view_of s x)
taken_at w s (Offers cs) (Pick n) next = nth s cs n next
taken_at w s (Splits x y) TwoEnds next = next ≡ Nothing
taken_at w s _ _ next = ⊥

-- the view takes the letter, by the receipt at which it stands, and this view remains
abbrev pub Takes : World → View → Letter → View → Type 0
Takes w v l next = taken_at w (side_of v) (deed_of w v) l next

-- and so for letters in order
abbrev pub TakesAll : World → View → List Letter → View → Type 0
TakesAll w v [] last = v ≡ last
TakesAll w v (l ∷ ls) last = (next : View) × Takes w v l next × TakesAll w next ls last
