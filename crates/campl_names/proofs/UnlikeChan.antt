-- What the test of sameness answers at channel types of different forms.
use Rattle.std.proofs.Common.{◌≡◌, ◌∙◌, refl, sym, ap, false, List, map}
use Rattle.campl_tree.specs.declared.place.Place.{Place}
use Rattle.campl_tree.specs.declared.name.Name.{Name}
use Rattle.campl_tree.specs.declared.types.SeqType.{SeqType}
use Rattle.campl_tree.specs.declared.types.ChanType.{ChanType, out-ChanType, roll-ChanType}
use Rattle.campl_tree.specs.declared.types.ChanType.TheViews.{roll-out-ChanType}
use Rattle.campl_tree.specs.declared.types.ChanType.TheOpen.{ChanType-F}
use Rattle.campl_tree.specs.declared.types.ChanType.TheVariants as chan
use Rattle.campl_tree.specs.Plain.ChanType as c
use Rattle.campl_tree.specs.View.{view_seq, seq_types, view_chan}
use Rattle.campl_tree.proofs.Views.{view_chan-Put, view_chan-Get, view_chan-Tensor, view_chan-Par, view_chan-TopBot, view_chan-Neg, view_chan-Named}
use Rattle.campl_types.specs.SameTest as test

-- what form a type has, and what is seen of it
pub data Seen (u : ChanType) : Type 0 where
  SeesPut : (t : SeqType) (k : ChanType) → u ≡ chan.Put t k → view_chan u ≡ c.Put (view_seq t) (view_chan k) → Seen u
  SeesGet : (t : SeqType) (k : ChanType) → u ≡ chan.Get t k → view_chan u ≡ c.Get (view_seq t) (view_chan k) → Seen u
  SeesTensor : (k : ChanType) (l : ChanType) → u ≡ chan.Tensor k l → view_chan u ≡ c.Tensor (view_chan k) (view_chan l) → Seen u
  SeesPar : (k : ChanType) (l : ChanType) → u ≡ chan.Par k l → view_chan u ≡ c.Par (view_chan k) (view_chan l) → Seen u
  SeesTopBot : u ≡ chan.TopBot → view_chan u ≡ c.TopBot → Seen u
  SeesNeg : (k : ChanType) → u ≡ chan.Neg k → view_chan u ≡ c.Neg (view_chan k) → Seen u
  SeesNamed : (at : Place) (x : Name) (ts : List SeqType) → u ≡ chan.Named at x ts → view_chan u ≡ c.Named at x (seq_types (map view_seq ts)) → Seen u

pub seen : (u : ChanType) → Seen u
seen u = go (out-ChanType u) (sym (roll-out-ChanType u))
  where
    go : (o : ChanType-F ChanType) → u ≡ roll-ChanType o → Seen u
    go (ChanType-F.Put t k) e = SeesPut t k (e ∙ chan.rolls-Put t k) (ap view_chan (e ∙ chan.rolls-Put t k) ∙ view_chan-Put t k)
    go (ChanType-F.Get t k) e = SeesGet t k (e ∙ chan.rolls-Get t k) (ap view_chan (e ∙ chan.rolls-Get t k) ∙ view_chan-Get t k)
    go (ChanType-F.Tensor k l) e = SeesTensor k l (e ∙ chan.rolls-Tensor k l) (ap view_chan (e ∙ chan.rolls-Tensor k l) ∙ view_chan-Tensor k l)
    go (ChanType-F.Par k l) e = SeesPar k l (e ∙ chan.rolls-Par k l) (ap view_chan (e ∙ chan.rolls-Par k l) ∙ view_chan-Par k l)
    go ChanType-F.TopBot e = SeesTopBot (e ∙ chan.rolls-TopBot) (ap view_chan (e ∙ chan.rolls-TopBot) ∙ view_chan-TopBot)
    go (ChanType-F.Neg k) e = SeesNeg k (e ∙ chan.rolls-Neg k) (ap view_chan (e ∙ chan.rolls-Neg k) ∙ view_chan-Neg k)
    go (ChanType-F.Named at x ts) e = SeesNamed at x ts (e ∙ chan.rolls-Named at x ts) (ap view_chan (e ∙ chan.rolls-Named at x ts) ∙ view_chan-Named at x ts)

pub not-Put : (t u : ChanType) (t1 : SeqType) (k1 : ChanType) → t ≡ chan.Put t1 k1 → ((t2 : SeqType) (k2 : ChanType) → u ≡ chan.Put t2 k2 → ⊥) → false ≡ test.same_chan (view_chan t) (view_chan u)
not-Put z u t1 k1 e n = elim (seen u) [
  | SeesPut t k f v ↦ absurd (n t k f)
  | SeesGet t k f v ↦ rw (e, view_chan-Put, v) refl
  | SeesTensor k l f v ↦ rw (e, view_chan-Put, v) refl
  | SeesPar k l f v ↦ rw (e, view_chan-Put, v) refl
  | SeesTopBot f v ↦ rw (e, view_chan-Put, v) refl
  | SeesNeg k f v ↦ rw (e, view_chan-Put, v) refl
  | SeesNamed at x ts f v ↦ rw (e, view_chan-Put, v) refl
]

pub not-Get : (t u : ChanType) (t1 : SeqType) (k1 : ChanType) → t ≡ chan.Get t1 k1 → ((t2 : SeqType) (k2 : ChanType) → u ≡ chan.Get t2 k2 → ⊥) → false ≡ test.same_chan (view_chan t) (view_chan u)
not-Get z u t1 k1 e n = elim (seen u) [
  | SeesPut t k f v ↦ rw (e, view_chan-Get, v) refl
  | SeesGet t k f v ↦ absurd (n t k f)
  | SeesTensor k l f v ↦ rw (e, view_chan-Get, v) refl
  | SeesPar k l f v ↦ rw (e, view_chan-Get, v) refl
  | SeesTopBot f v ↦ rw (e, view_chan-Get, v) refl
  | SeesNeg k f v ↦ rw (e, view_chan-Get, v) refl
  | SeesNamed at x ts f v ↦ rw (e, view_chan-Get, v) refl
]

pub not-Tensor : (t u : ChanType) (k1 : ChanType) (l1 : ChanType) → t ≡ chan.Tensor k1 l1 → ((k2 : ChanType) (l2 : ChanType) → u ≡ chan.Tensor k2 l2 → ⊥) → false ≡ test.same_chan (view_chan t) (view_chan u)
not-Tensor z u k1 l1 e n = elim (seen u) [
  | SeesPut t k f v ↦ rw (e, view_chan-Tensor, v) refl
  | SeesGet t k f v ↦ rw (e, view_chan-Tensor, v) refl
  | SeesTensor k l f v ↦ absurd (n k l f)
  | SeesPar k l f v ↦ rw (e, view_chan-Tensor, v) refl
  | SeesTopBot f v ↦ rw (e, view_chan-Tensor, v) refl
  | SeesNeg k f v ↦ rw (e, view_chan-Tensor, v) refl
  | SeesNamed at x ts f v ↦ rw (e, view_chan-Tensor, v) refl
]

pub not-Par : (t u : ChanType) (k1 : ChanType) (l1 : ChanType) → t ≡ chan.Par k1 l1 → ((k2 : ChanType) (l2 : ChanType) → u ≡ chan.Par k2 l2 → ⊥) → false ≡ test.same_chan (view_chan t) (view_chan u)
not-Par z u k1 l1 e n = elim (seen u) [
  | SeesPut t k f v ↦ rw (e, view_chan-Par, v) refl
  | SeesGet t k f v ↦ rw (e, view_chan-Par, v) refl
  | SeesTensor k l f v ↦ rw (e, view_chan-Par, v) refl
  | SeesPar k l f v ↦ absurd (n k l f)
  | SeesTopBot f v ↦ rw (e, view_chan-Par, v) refl
  | SeesNeg k f v ↦ rw (e, view_chan-Par, v) refl
  | SeesNamed at x ts f v ↦ rw (e, view_chan-Par, v) refl
]

pub not-TopBot : (t u : ChanType) → t ≡ chan.TopBot → (u ≡ chan.TopBot → ⊥) → false ≡ test.same_chan (view_chan t) (view_chan u)
not-TopBot z u e n = elim (seen u) [
  | SeesPut t k f v ↦ rw (e, view_chan-TopBot, v) refl
  | SeesGet t k f v ↦ rw (e, view_chan-TopBot, v) refl
  | SeesTensor k l f v ↦ rw (e, view_chan-TopBot, v) refl
  | SeesPar k l f v ↦ rw (e, view_chan-TopBot, v) refl
  | SeesTopBot f v ↦ absurd (n f)
  | SeesNeg k f v ↦ rw (e, view_chan-TopBot, v) refl
  | SeesNamed at x ts f v ↦ rw (e, view_chan-TopBot, v) refl
]

pub not-Neg : (t u : ChanType) (k1 : ChanType) → t ≡ chan.Neg k1 → ((k2 : ChanType) → u ≡ chan.Neg k2 → ⊥) → false ≡ test.same_chan (view_chan t) (view_chan u)
not-Neg z u k1 e n = elim (seen u) [
  | SeesPut t k f v ↦ rw (e, view_chan-Neg, v) refl
  | SeesGet t k f v ↦ rw (e, view_chan-Neg, v) refl
  | SeesTensor k l f v ↦ rw (e, view_chan-Neg, v) refl
  | SeesPar k l f v ↦ rw (e, view_chan-Neg, v) refl
  | SeesTopBot f v ↦ rw (e, view_chan-Neg, v) refl
  | SeesNeg k f v ↦ absurd (n k f)
  | SeesNamed at x ts f v ↦ rw (e, view_chan-Neg, v) refl
]

pub not-Named : (t u : ChanType) (at1 : Place) (x1 : Name) (ts1 : List SeqType) → t ≡ chan.Named at1 x1 ts1 → ((at2 : Place) (x2 : Name) (ts2 : List SeqType) → u ≡ chan.Named at2 x2 ts2 → ⊥) → false ≡ test.same_chan (view_chan t) (view_chan u)
not-Named z u at1 x1 ts1 e n = elim (seen u) [
  | SeesPut t k f v ↦ rw (e, view_chan-Named, v) refl
  | SeesGet t k f v ↦ rw (e, view_chan-Named, v) refl
  | SeesTensor k l f v ↦ rw (e, view_chan-Named, v) refl
  | SeesPar k l f v ↦ rw (e, view_chan-Named, v) refl
  | SeesTopBot f v ↦ rw (e, view_chan-Named, v) refl
  | SeesNeg k f v ↦ rw (e, view_chan-Named, v) refl
  | SeesNamed at x ts f v ↦ absurd (n at x ts f)
]

-- what isn't behind `Neg` isn't the same as what is
pub no-negation : (t u : ChanType) → ((k : ChanType) → t ≡ chan.Neg k → ⊥) → false ≡ test.same_chan (view_chan t) (c.Neg (view_chan u))
no-negation z u n = elim (seen z) [
  | SeesPut t k f v ↦ rw v refl
  | SeesGet t k f v ↦ rw v refl
  | SeesTensor k l f v ↦ rw v refl
  | SeesPar k l f v ↦ rw v refl
  | SeesTopBot f v ↦ rw v refl
  | SeesNeg k f v ↦ absurd (n k f)
  | SeesNamed at x ts f v ↦ rw v refl
]
