-- What the table's entry tells of a type.
use Rattle.std.proofs.Common.{◌≡◌, refl, List, Option, Some, None}
use Rattle.campl_tree.specs.declared.service.Side.{Side}
use Rattle.campl_tree.specs.declared.service.Side.TheVariants.{Input, Output}
use Rattle.campl_tree.specs.Plain.SeqType.{SeqType}
use Rattle.campl_tree.specs.Plain.ChanType.{ChanType, Put, Get, Tensor, Par, TopBot, Neg, Named}
use Rattle.campl_types.specs.Substitution.{list_of}
use Rattle.campl_types.specs.World.{World, TypeEntry, DataType, ProtocolType, CoprotocolType, type_named}
use Rattle.campl_types.specs.Polarity.{Ends, deed, of_named}

named-ends : (e : Option TypeEntry) (s : Side) (ts : List SeqType) → of_named e s ts ≡ Ends → ⊥
named-ends (Some (ProtocolType d)) Input ts i = cc i
named-ends (Some (ProtocolType d)) Output ts i = cc i
named-ends (Some (CoprotocolType d)) Input ts i = cc i
named-ends (Some (CoprotocolType d)) Output ts i = cc i
named-ends (Some (DataType d)) s ts i = cc i
named-ends None s ts i = cc i

-- TopBot alone may be closed
pub ends-top : (w : World) (s : Side) (u : ChanType) → deed w s u ≡ Ends → u ≡ TopBot
ends-top w Input (Put t x) i = absurd (cc i)
ends-top w Output (Put t x) i = absurd (cc i)
ends-top w Input (Get t x) i = absurd (cc i)
ends-top w Output (Get t x) i = absurd (cc i)
ends-top w Input (Tensor x y) i = absurd (cc i)
ends-top w Output (Tensor x y) i = absurd (cc i)
ends-top w Input (Par x y) i = absurd (cc i)
ends-top w Output (Par x y) i = absurd (cc i)
ends-top w s TopBot i = refl
ends-top w s (Neg x) i = absurd (cc i)
ends-top w s (Named at x ts) i = absurd (named-ends (type_named w x) s (list_of ts) i)
