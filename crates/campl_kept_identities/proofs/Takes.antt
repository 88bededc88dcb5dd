-- What views take: of a view and the same from the other side only one takes.
use Rattle.std.proofs.Common.{◌≡◌, List, [], ◌∷◌, ◌⊎◌, inl, inr, refl, sym, ap, subst, ◌∙◌, Bool, true, false}
use Rattle.campl_tree.specs.declared.service.Side.{Side}
use Rattle.campl_tree.specs.Side.{opposite}
use Rattle.campl_tree.specs.Plain.ChanType.{ChanType}
use Rattle.campl_types.specs.SameType.{bare_chan}
use Rattle.campl_types.specs.World.{World}
use Rattle.campl_types.specs.Polarity.{Deed, Puts, Gets, Forks, Splits, Picks, Offers, Ends, IsLinked}
use Rattle.campl_types.specs.Views as plain
use Rattle.campl_types.specs.Views.{View, As, Nothing, turned, deed_of, side_of}
use Rattle.campl_types.specs.Linear.{AreJoined}
use Rattle.campl_types.proofs.Turned.{turned-twice, view-turned, answered, deed-of-turned}
use Rattle.campl_meaning.specs.States.{Message}
use Rattle.campl_meaning.specs.Views.{view_of, taken_at, TakesAll}

one-taken : (w : World) (s r : Side) (d : Deed) (l k : Message) (u v : View) → taken_at w s d l u → taken_at w r (answered d) k v → ⊥
one-taken w s r (Puts t x) l k u v a b = absurd a
one-taken w s r (Gets t x) l k u v a b = absurd b
one-taken w s r (Forks x y) l k u v a b = absurd a
one-taken w s r (Splits x y) l k u v a b = absurd b
one-taken w s r (Picks cs) l k u v a b = absurd a
one-taken w s r (Offers cs) l k u v a b = absurd b
one-taken w s r Ends l k u v a b = absurd a
one-taken w s r IsLinked l k u v a b = absurd a

-- of a view and the same from the other side only one takes messages
pub one-side-takes : (w : World) (v : View) (ms ns : List Message) (m n : View) → TakesAll w v ms m → TakesAll w (turned v) ns n → (ms ≡ []) ⊎ (ns ≡ [])
one-side-takes w v [] ns m n a b = inl refl
one-side-takes w v (l ∷ ms) [] m n a b = inr refl
one-side-takes w v (l ∷ ms) (k ∷ ns) m n (u, a, c) (x, b, e) =
    absurd (one-taken w (side_of v) (side_of (turned v)) (deed_of w v) l k u x a (subst (λ (q : Deed). taken_at w (side_of (turned v)) q k x) (deed-of-turned w v) b))

-- Two ends that an identity joins

-- are seen as one type from its two sides
pub joined-views : (negated : Bool) (s r : Side) (t u : ChanType) → AreJoined negated s r t u → view_of r u ≡ turned (view_of s t)
joined-views false s r t u (i, j) =
    ap (λ (q : Side). plain.view_of q (bare_chan u)) i ∙ (ap (λ (z : ChanType). plain.view_of (opposite s) z) (sym j) ∙ view-turned s (bare_chan t))
joined-views true s r t u (i, j) =
    let from : plain.view_of s (bare_chan t) ≡ turned (plain.view_of s (bare_chan u)) = ap (λ (z : ChanType). plain.view_of s z) j in
    ap (λ (q : Side). plain.view_of q (bare_chan u)) i ∙ (sym (turned-twice (plain.view_of s (bare_chan u))) ∙ ap turned (sym from))
