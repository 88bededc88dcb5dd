-- The reductions of a program whose steps are independent have the diamond.
use Rattle.std.proofs.Common.{◌≡◌, ◌≢◌, ◌∙◌, refl, Option, Some, None}
use Rattle.campl_machine.specs.Names.{Who}
use Rattle.campl_machine.specs.Machine.{Config, Act, Does}
use Rattle.campl_machine.specs.Independence.{Independent, NotBoth}
use Rattle.campl_machine.specs.Programs.{Steps, reduce, reduce_state, KeepsApart}
use Rattle.campl_machine.specs.Runs.{Diamond}
use Rattle.campl_machine.proofs.Performs.{does_of, nodes-kept, itself}
use Rattle.campl_machine.proofs.Meeting.{diamond}

module _ {S M I : Type 0} (act : Who → S → I → Act S M) (c : Config S M) (keeps : KeepsApart act c) where
  -- two reductions of different nodes in both orders
  pub both-orders : (p q : Who) (i j : I) (b d : Config S M) → p ≢ q → reduce act c p i ≡ Some b → reduce act c q j ≡ Some d →
      (e : Config S M) × (reduce act b q j ≡ Some e) × (reduce act d p i ≡ Some e)
  both-orders p q i j b d n rb rd = go (c.nodes p) (c.nodes q) refl refl rb rd
    where
      go : (o u : Option S) → c.nodes p ≡ o → c.nodes q ≡ u → reduce_state act c p i o ≡ Some b → reduce_state act c q j u ≡ Some d →
          (e : Config S M) × (reduce act b q j ≡ Some e) × (reduce act d p i ≡ Some e)
      go None u io iu f g = absurd (cc f)
      go (Some s) None io iu f g = absurd (cc g)
      go (Some s) (Some t) io iu f g =
          let A : Act S M = act p s i in
          let B : Act S M = act q t j in
          let a : Independent c p A q B × NotBoth c A B = keeps.apart p q s t i j b d n io iu f g in
          let da : Does c p A b = does_of c p A b f in
          let db : Does c q B d = does_of c q B d g in
          let bq : b.nodes q ≡ Some t = nodes-kept c p q A b da (λ h. a.0.nodes q h (itself q c B d db)) ∙ iu in
          let dp : d.nodes p ≡ Some s = nodes-kept c q p B d db (λ h. a.0.nodes p (itself p c A b da) h) ∙ io in
          let (e, be, de) = diamond c p q A B keeps.paired a.0 a.1 b d f g in
          (e, rw bq be, rw dp de)

  -- with one choice, as a diamond of reductions
  pub has-diamond : (i : I) → Diamond (Steps act i) c
  has-diamond i p q b d n rb rd = both-orders p q i i b d n rb rd
