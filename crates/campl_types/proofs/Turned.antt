-- A view from the other side: what one side gives the other takes, so that of two partners one takes nothing.
use Rattle.std.proofs.Common.{◌≡◌, refl, ap, List, [], ◌∷◌, ◌⊎◌, inl, inr, Option, Some, None}
use Rattle.campl_tree.specs.declared.service.Side.{Side}
use Rattle.campl_tree.specs.declared.service.Side.TheVariants.{Input, Output}
use Rattle.campl_tree.specs.Side as side
use Rattle.campl_tree.specs.Plain.SeqType.{SeqType}
use Rattle.campl_tree.specs.Plain.ChanType.{ChanType, Put, Get, Tensor, Par, TopBot, Neg, Named}
use Rattle.campl_types.specs.Substitution.{list_of}
use Rattle.campl_types.specs.World.{World, TypeEntry, DataType, ProtocolType, CoprotocolType, type_named}
use Rattle.campl_types.specs.Polarity.{Deed, Puts, Gets, Forks, Splits, Picks, Offers, Ends, IsLinked, deed, of_named}
use Rattle.campl_types.specs.Views.{View, As, Nothing, turned, view_of, deed_of, side_of, Letter, TakesAll, taken_at}

pub opposite-twice : (s : Side) → side.opposite (side.opposite s) ≡ s
opposite-twice Input = refl
opposite-twice Output = refl

pub turned-twice : (v : View) → turned (turned v) ≡ v
turned-twice (As s t) = ap (λ r. As r t) (opposite-twice s)
turned-twice Nothing = refl

-- the view on the other side is the view from the other side
pub view-turned : (s : Side) (t : ChanType) → view_of (side.opposite s) t ≡ turned (view_of s t)
view-turned s (Neg t) = ap turned (view-turned s t)
view-turned s (Put t x) = refl
view-turned s (Get t x) = refl
view-turned s (Tensor x y) = refl
view-turned s (Par x y) = refl
view-turned s TopBot = refl
view-turned s (Named at x ts) = refl

-- what the other side does
abbrev pub answered : Deed → Deed
answered (Puts t x) = Gets t x
answered (Gets t x) = Puts t x
answered (Forks x y) = Splits x y
answered (Splits x y) = Forks x y
answered (Picks cs) = Offers cs
answered (Offers cs) = Picks cs
answered Ends = Ends
answered IsLinked = IsLinked

named-turned : (e : Option TypeEntry) (s : Side) (ts : List SeqType) → of_named e (side.opposite s) ts ≡ answered (of_named e s ts)
named-turned (Some (ProtocolType d)) Input ts = refl
named-turned (Some (ProtocolType d)) Output ts = refl
named-turned (Some (CoprotocolType d)) Input ts = refl
named-turned (Some (CoprotocolType d)) Output ts = refl
named-turned (Some (DataType d)) s ts = refl
named-turned None s ts = refl

pub deed-turned : (w : World) (s : Side) (t : ChanType) → deed w (side.opposite s) t ≡ answered (deed w s t)
deed-turned w Output (Put t x) = refl
deed-turned w Input (Put t x) = refl
deed-turned w Output (Get t x) = refl
deed-turned w Input (Get t x) = refl
deed-turned w Output (Tensor x y) = refl
deed-turned w Input (Tensor x y) = refl
deed-turned w Output (Par x y) = refl
deed-turned w Input (Par x y) = refl
deed-turned w Output TopBot = refl
deed-turned w Input TopBot = refl
deed-turned w Output (Neg x) = refl
deed-turned w Input (Neg x) = refl
deed-turned w Output (Named at x ts) = named-turned (type_named w x) Output (list_of ts)
deed-turned w Input (Named at x ts) = named-turned (type_named w x) Input (list_of ts)

pub deed-of-turned : (w : World) (v : View) → deed_of w (turned v) ≡ answered (deed_of w v)
deed-of-turned w (As s t) = deed-turned w s t
deed-of-turned w Nothing = refl

one-taken : (w : World) (s r : Side) (d : Deed) (l k : Letter) (u v : View) → taken_at w s d l u → taken_at w r (answered d) k v → ⊥
one-taken w s r (Puts t x) l k u v a b = absurd a
one-taken w s r (Gets t x) l k u v a b = absurd b
one-taken w s r (Forks x y) l k u v a b = absurd a
one-taken w s r (Splits x y) l k u v a b = absurd b
one-taken w s r (Picks cs) l k u v a b = absurd a
one-taken w s r (Offers cs) l k u v a b = absurd b
one-taken w s r Ends l k u v a b = absurd a
one-taken w s r IsLinked l k u v a b = absurd a

-- of a view and the same from the other side only one takes letters
pub one-side-takes : (w : World) (v : View) (ls ks : List Letter) (m n : View) → TakesAll w v ls m → TakesAll w (turned v) ks n → (ls ≡ []) ⊎ (ks ≡ [])
one-side-takes w v [] ks m n a b = inl refl
one-side-takes w v (l ∷ ls) [] m n a b = inr refl
one-side-takes w v (l ∷ ls) (k ∷ ks) m n (u, a, c) (x, b, e) =
    absurd (one-taken w (side_of v) (side_of (turned v)) (deed_of w v) l k u x a (rw deed-of-turned at b))
