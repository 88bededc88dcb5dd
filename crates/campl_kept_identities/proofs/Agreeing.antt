-- Parts 3 and 4 for two ends whose partners become partners.
use Rattle.std.proofs.Common.{◌≡◌, List, [], ◌∷◌, ◌++◌, ◌⊎◌, inl, inr, refl, sym, ap, subst, ◌∙◌}
use Rattle.campl_machine.specs.Names.{End}
use Rattle.campl_types.specs.World.{World}
use Rattle.campl_types.specs.Views.{View, turned}
use Rattle.campl_types.proofs.Turned.{turned-twice}
use Rattle.campl_meaning.specs.States.{Message, EndPair}
use Rattle.campl_meaning.specs.Reductions.{Configuration}
use Rattle.campl_meaning.specs.Views.{TakesAll}
use Rattle.campl_meaning.specs.Lawful.{Channels, seen, Agree, IsPairOf}
use Rattle.campl_meaning.proofs.Agreeing.{agree-turned}
use Rattle.campl_kept_identities.proofs.Takes.{one-side-takes}
use Rattle.campl_frame.proofs.Stays.{takes-more, filled}

module _ (w : World) (channel : Channels) where
  -- where y2 owes nothing, y stands at its own view, so y2 comes to the view of x
  pub through : (c : Configuration) (x y y2 : End) → Agree w c channel y y2 → c.owed y2 ≡ [] → seen channel x ≡ turned (seen channel y) → TakesAll w (seen channel y2) (c.owed y) (seen channel x)
  through c x y y2 a none is =
      let own : seen channel y ≡ a.left = subst (λ (ms : List Message). TakesAll w (seen channel y) ms a.left) none a.mine in
      subst (λ (z : View). TakesAll w (seen channel y2) (c.owed y) z) (sym (is ∙ ap turned own)) a.yours

  -- of what the far ends owe, one is empty
  pub one-empty : (c : Configuration) (x y x2 y2 : End) → Agree w c channel x x2 → Agree w c channel y y2 → seen channel y ≡ turned (seen channel x) → (c.owed x2 ≡ []) ⊎ (c.owed y2 ≡ [])
  one-empty c x y x2 y2 a k is =
      one-side-takes w (seen channel x) (c.owed x2) (c.owed y2) a.left k.left a.mine (subst (λ (z : View). TakesAll w z (c.owed y2) k.left) is k.mine)

  nothing-more : (ms : List Message) (v : View) → ms ≡ [] → TakesAll w v ms v
  nothing-more ms v i = subst (λ (ns : List Message). TakesAll w v ns v) (sym i) refl

  one-way : (c d : Configuration) (x y x2 y2 : End) → Agree w c channel x x2 → Agree w c channel y y2 → seen channel y ≡ turned (seen channel x) → c.owed x2 ≡ [] →
      d.owed x2 ≡ c.owed y ++ c.owed x2 → d.owed y2 ≡ c.owed x ++ c.owed y2 → Agree w d channel x2 y2
  one-way c d x y x2 y2 a k is none ox oy = record {
    left = k.left;
    mine = subst (λ (ms : List Message). TakesAll w (seen channel x2) ms k.left) (sym oy)
        (takes-more w (seen channel x2) (c.owed x) (c.owed y2) (seen channel y) k.left (through c y x x2 a none is) k.mine);
    yours = subst (λ (ms : List Message). TakesAll w (seen channel y2) ms (turned k.left)) (sym ox)
        (takes-more w (seen channel y2) (c.owed y) (c.owed x2) (turned k.left) (turned k.left) k.yours (nothing-more (c.owed x2) (turned k.left) none));
  }

  -- x and y, the ends of an identity, with their partners x2 and y2
  module _ (c : Configuration) (x y x2 y2 : End) (a : Agree w c channel x x2) (k : Agree w c channel y y2) (is : seen channel y ≡ turned (seen channel x)) where
    back : seen channel x ≡ turned (seen channel y)
    back = sym (turned-twice (seen channel x)) ∙ ap turned (sym is)

    -- the new partners agree
    pub far-agree : (d : Configuration) → d.owed x2 ≡ c.owed y ++ c.owed x2 → d.owed y2 ≡ c.owed x ++ c.owed y2 → Agree w d channel x2 y2
    far-agree d ox oy = elim (one-empty c x y x2 y2 a k is) [
      | inl n ↦ one-way c d x y x2 y2 a k is n ox oy
      | inr n ↦ agree-turned w d channel y2 x2 (one-way c d y x y2 x2 k a back n oy ox)
    ]

    -- a pair that x2 owes comes to y2 at the same receipt, behind what y owed
    pub far-pair : (rest after : List Message) (g h : End) → c.owed x2 ≡ rest ++ (EndPair g h ∷ after) → IsPairOf w channel rest x g h → IsPairOf w channel (c.owed y ++ rest) y2 g h
    far-pair rest after g h lies q = elim (one-empty c x y x2 y2 a k is) [
      | inl n ↦ absurd (filled rest after g h (sym lies ∙ n))
      | inr n ↦ record {
        view = q.view;
        first = q.first;
        second = q.second;
        reached = takes-more w (seen channel y2) (c.owed y) rest (seen channel x) q.view (through c x y y2 k n back) q.reached;
        splits = q.splits;
        is_first = q.is_first;
        is_second = q.is_second;
      }
    ]
