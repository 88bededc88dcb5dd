-- The test of partners decides whether ends are partners.
use Rattle.std.proofs.Common.{◌≡◌, ◌∙◌, refl, sym, Bool, true, false, ◌||◌, ◌↔◌, ◌⊎◌, inl, inr, IsTrue}
use Rattle.campl_tree.specs.declared.service.Side.{Side}
use Rattle.campl_tree.specs.declared.service.Side.TheVariants.{Input, Output}
use Rattle.campl_tree.specs.Side.{opposite}
use Rattle.campl_tree.specs.Plain.ChanType.{ChanType, Neg}
use Rattle.campl_types.specs.SameTest.{same_chan}
use Rattle.campl_types.specs.SameType.{IsSameChan}
use Rattle.campl_types.specs.Polarity.{ArePartners}
use Rattle.campl_types.proofs.SameType.{chan-same, same-chan}

apart : (s : Side) → opposite s ≡ s → ⊥
apart Input e = cc e
apart Output e = cc e

-- on opposite sides
pub across : (x y : ChanType) (s r : Side) (b : Bool) → r ≡ opposite s → b ≡ same_chan x y → IsTrue b ↔ ArePartners x s y r
across x y s r b e t = ((λ i. inl (e, chan-same x y (sym t ∙ i))), (λ p. go p))
  where
    go : ArePartners x s y r → IsTrue b
    go (inl (f, i)) = (t ∙ same-chan x y i)
    go (inr (f, i)) = absurd (apart s (sym e ∙ f))

or-split : (a b : Bool) → (a || b) ≡ true → (a ≡ true) ⊎ (b ≡ true)
or-split true b i = inl refl
or-split false b i = inr i

or-first : (a b : Bool) → a ≡ true → (a || b) ≡ true
or-first a b i = rw i refl

or-second : (a b : Bool) → b ≡ true → (a || b) ≡ true
or-second true b i = refl
or-second false b i = i

-- on one side
pub beside : (x y : ChanType) (s r : Side) (b : Bool) → r ≡ s → b ≡ (same_chan x (Neg y) || same_chan y (Neg x)) → IsTrue b ↔ ArePartners x s y r
beside x y s r b e t = ((λ i. inr (e, one (or-split (same_chan x (Neg y)) (same_chan y (Neg x)) (sym t ∙ i)))), (λ p. go p))
  where
    one : (same_chan x (Neg y) ≡ true) ⊎ (same_chan y (Neg x) ≡ true) → IsSameChan x (Neg y) ⊎ IsSameChan (Neg x) y
    one (inl i) = inl (chan-same x (Neg y) i)
    one (inr i) = inr (sym (chan-same y (Neg x) i))

    go : ArePartners x s y r → IsTrue b
    go (inl (f, i)) = absurd (apart s (sym f ∙ e))
    go (inr (f, inl i)) = (t ∙ or-first (same_chan x (Neg y)) (same_chan y (Neg x)) (same-chan x (Neg y) i))
    go (inr (f, inr i)) = (t ∙ or-second (same_chan x (Neg y)) (same_chan y (Neg x)) (same-chan y (Neg x) (sym i)))
