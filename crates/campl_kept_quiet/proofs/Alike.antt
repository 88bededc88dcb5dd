-- Channels whose types are the same but for places.
use Rattle.std.proofs.Common.{◌≡◌, ◌∙◌, refl, sym, ap, Option, Some, None}
use Rattle.campl_tree.specs.declared.service.Side.{Side}
use Rattle.campl_tree.specs.Plain.ChanType.{ChanType, Put, Get, Tensor, Par, TopBot, Neg, Named}
use Rattle.campl_types.specs.SameType.{bare_chan, IsSameChan}
use Rattle.campl_types.specs.Held.{Channel, On}
use Rattle.campl_meaning.specs.Views.{view_in}
use Rattle.campl_types.specs.Views as v
use Rattle.campl_kept_quiet.specs.Quiet.{IsAlike}

bare-top : (u : ChanType) → IsSameChan TopBot u → u ≡ TopBot
bare-top (Put t x) i = absurd (cc i)
bare-top (Get t x) i = absurd (cc i)
bare-top (Tensor x y) i = absurd (cc i)
bare-top (Par x y) i = absurd (cc i)
bare-top TopBot i = refl
bare-top (Neg x) i = absurd (cc i)
bare-top (Named at x ts) i = absurd (cc i)

pub alike-itself : (o : Option Channel) → IsAlike o o
alike-itself None = tt
alike-itself (Some (On s t)) = (refl, refl)

-- they are seen alike
pub alike-seen : (o q : Option Channel) → IsAlike o q → view_in q ≡ view_in o
alike-seen None None a = refl
alike-seen (Some (On s t)) (Some (On r u)) (i, j) = sym (rw i (ap (λ z. v.view_of r z) j))
alike-seen None (Some c) a = absurd a
alike-seen (Some c) None a = absurd a

pub alike-none : (o q : Option Channel) → IsAlike o q → o ≡ None → q ≡ None
alike-none None None a e = refl
alike-none None (Some c) a e = absurd a
alike-none (Some c) q a e = absurd (cc e)

pub alike-on : (o q : Option Channel) (s : Side) (t : ChanType) → IsAlike o q → o ≡ Some (On s t) → (u : ChanType) × (q ≡ Some (On s u)) × IsSameChan t u
alike-on None q s t a e = absurd (cc e)
alike-on (Some c) None s t a e = absurd a
alike-on (Some (On s2 t2)) (Some (On r u)) s t (i, j) e =
    let k : s2 ≡ s = cc e in
    let l : t2 ≡ t = cc e in
    (u, ap (λ z. Some (On z u)) (sym i ∙ k), ap bare_chan (sym l) ∙ j)

pub alike-turned : (o q : Option Channel) → IsAlike o q → IsAlike q o
alike-turned None None a = tt
alike-turned (Some (On s t)) (Some (On r u)) (i, j) = (sym i, sym j)
alike-turned None (Some c) a = absurd a
alike-turned (Some c) None a = absurd a

pub alike-top : (o q : Option Channel) (s : Side) → IsAlike o q → o ≡ Some (On s TopBot) → q ≡ Some (On s TopBot)
alike-top o q s a e =
    let (u, f, g) = alike-on o q s TopBot a e in
    f ∙ ap (λ z. Some (On s z)) (bare-top u g)
