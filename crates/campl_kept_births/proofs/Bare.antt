-- Types without their places, and the deeds at pairs of channels.
use Rattle.std.proofs.Common.{◌≡◌, refl, ap, ap₂, List, [], ◌∷◌, Option, Some, None}
use Rattle.campl_tree.specs.declared.service.Side.{Side}
use Rattle.campl_tree.specs.declared.service.Side.TheVariants.{Input, Output}
use Rattle.campl_tree.specs.Side.{opposite}
use Rattle.campl_tree.specs.Plain.SeqType.{SeqType}
use Rattle.campl_tree.specs.Plain.ChanType.{ChanType, Put, Get, Tensor, Par, TopBot, Neg}
use Rattle.campl_tree.specs.Plain.ChanType as c
use Rattle.campl_types.specs.SameType.{bare_chan}
use Rattle.campl_types.specs.Substitution.{list_of}
use Rattle.campl_types.specs.World.{World, TypeEntry, DataType, ProtocolType, CoprotocolType, type_named}
use Rattle.campl_types.specs.Polarity.{Forks, Splits, deed, of_named}
use Rattle.campl_types.specs.Views.{View, turned, deed_of, side_of}
use Rattle.campl_meaning.specs.States.{Message}
use Rattle.campl_meaning.specs.Views.{view_of, TakesAll}

-- what stands at a split: its view splits into the parts without their places
pub record IsSplitAt (w : World) (side : Side) (u t r : ChanType) : Type 0 where
  pub view : deed_of w (view_of side u) ≡ Splits (bare_chan t) (bare_chan r)
  pub on : side_of (view_of side u) ≡ side

no-named-split : (e : Option TypeEntry) (side : Side) (ts : List SeqType) (t r : ChanType) → of_named e side ts ≡ Splits t r → ⊥
no-named-split (Some (ProtocolType d)) Output ts t r i = cc i
no-named-split (Some (ProtocolType d)) Input ts t r i = cc i
no-named-split (Some (CoprotocolType d)) Output ts t r i = cc i
no-named-split (Some (CoprotocolType d)) Input ts t r i = cc i
no-named-split (Some (DataType d)) side ts t r i = cc i
no-named-split None side ts t r i = cc i

pub split-at : (w : World) (side : Side) (u t r : ChanType) → deed w side u ≡ Splits t r → IsSplitAt w side u t r
split-at w Input (c.Tensor x y) t r i = let j : x ≡ t = cc i in let k : y ≡ r = cc i in record {
  view = ap₂ Splits (ap bare_chan j) (ap bare_chan k);
  on = refl;
}
split-at w Output (c.Par x y) t r i = let j : x ≡ t = cc i in let k : y ≡ r = cc i in record {
  view = ap₂ Splits (ap bare_chan j) (ap bare_chan k);
  on = refl;
}
split-at w Output (c.Put x y) t r i = absurd (cc i)
split-at w Input (c.Put x y) t r i = absurd (cc i)
split-at w Output (c.Get x y) t r i = absurd (cc i)
split-at w Input (c.Get x y) t r i = absurd (cc i)
split-at w Output (c.Tensor x y) t r i = absurd (cc i)
split-at w Input (c.Par x y) t r i = absurd (cc i)
split-at w Output c.TopBot t r i = absurd (cc i)
split-at w Input c.TopBot t r i = absurd (cc i)
split-at w Output (c.Neg x) t r i = absurd (cc i)
split-at w Input (c.Neg x) t r i = absurd (cc i)
split-at w Output (c.Named at x ts) t r i = absurd (no-named-split (type_named w x) Output (list_of ts) t r i)
split-at w Input (c.Named at x ts) t r i = absurd (no-named-split (type_named w x) Input (list_of ts) t r i)

-- what stands at a fork: it takes nothing, and the other side splits
pub record IsForkAt (w : World) (side : Side) (u t r : ChanType) : Type 0 where
  pub other : deed_of w (turned (view_of side u)) ≡ Splits (bare_chan t) (bare_chan r)
  pub on : side_of (turned (view_of side u)) ≡ opposite side
  pub takes : (ms : List Message) (left : View) → TakesAll w (view_of side u) ms left → (ms ≡ []) × (view_of side u ≡ left)

no-named-fork : (e : Option TypeEntry) (side : Side) (ts : List SeqType) (t r : ChanType) → of_named e side ts ≡ Forks t r → ⊥
no-named-fork (Some (ProtocolType d)) Output ts t r i = cc i
no-named-fork (Some (ProtocolType d)) Input ts t r i = cc i
no-named-fork (Some (CoprotocolType d)) Output ts t r i = cc i
no-named-fork (Some (CoprotocolType d)) Input ts t r i = cc i
no-named-fork (Some (DataType d)) side ts t r i = cc i
no-named-fork None side ts t r i = cc i

tensor-takes : (w : World) (x y : ChanType) (ms : List Message) (left : View) → TakesAll w (view_of Output (c.Tensor x y)) ms left → (ms ≡ []) × (view_of Output (c.Tensor x y) ≡ left)
tensor-takes w x y [] left h = (refl, h)
tensor-takes w x y (m ∷ ms) left h = absurd h.1

par-takes : (w : World) (x y : ChanType) (ms : List Message) (left : View) → TakesAll w (view_of Input (c.Par x y)) ms left → (ms ≡ []) × (view_of Input (c.Par x y) ≡ left)
par-takes w x y [] left h = (refl, h)
par-takes w x y (m ∷ ms) left h = absurd h.1

pub fork-at : (w : World) (side : Side) (u t r : ChanType) → deed w side u ≡ Forks t r → IsForkAt w side u t r
fork-at w Output (c.Tensor x y) t r i = let j : x ≡ t = cc i in let k : y ≡ r = cc i in record {
  other = ap₂ Splits (ap bare_chan j) (ap bare_chan k);
  on = refl;
  takes = tensor-takes w x y;
}
fork-at w Input (c.Par x y) t r i = let j : x ≡ t = cc i in let k : y ≡ r = cc i in record {
  other = ap₂ Splits (ap bare_chan j) (ap bare_chan k);
  on = refl;
  takes = par-takes w x y;
}
fork-at w Output (c.Put x y) t r i = absurd (cc i)
fork-at w Input (c.Put x y) t r i = absurd (cc i)
fork-at w Output (c.Get x y) t r i = absurd (cc i)
fork-at w Input (c.Get x y) t r i = absurd (cc i)
fork-at w Input (c.Tensor x y) t r i = absurd (cc i)
fork-at w Output (c.Par x y) t r i = absurd (cc i)
fork-at w Output c.TopBot t r i = absurd (cc i)
fork-at w Input c.TopBot t r i = absurd (cc i)
fork-at w Output (c.Neg x) t r i = absurd (cc i)
fork-at w Input (c.Neg x) t r i = absurd (cc i)
fork-at w Output (c.Named at x ts) t r i = absurd (no-named-fork (type_named w x) Output (list_of ts) t r i)
fork-at w Input (c.Named at x ts) t r i = absurd (no-named-fork (type_named w x) Input (list_of ts) t r i)
