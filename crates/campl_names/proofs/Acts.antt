-- The polarity table at a named type, which doesn't see its arguments.
use Rattle.std.proofs.Common.{◌≡◌, refl, List, [], Option, Some, None}
use Rattle.campl_tree.specs.declared.service.Side.{Side}
use Rattle.campl_tree.specs.declared.service.Side.TheVariants.{Input, Output}
use Rattle.campl_tree.specs.Plain.SeqType.{SeqType}
use Rattle.campl_types.specs.World.{TypeEntry, DataType, ProtocolType, CoprotocolType}
use Rattle.campl_types.specs.Polarity.{act_of, of_named}

pub act-named : (e : Option TypeEntry) (side : Side) (ts : List SeqType) → act_of (of_named e side ts) ≡ act_of (of_named e side [])
act-named (Some (ProtocolType d)) Output ts = refl
act-named (Some (ProtocolType d)) Input ts = refl
act-named (Some (CoprotocolType d)) Output ts = refl
act-named (Some (CoprotocolType d)) Input ts = refl
act-named (Some (DataType d)) Output ts = refl
act-named (Some (DataType d)) Input ts = refl
act-named None Output ts = refl
act-named None Input ts = refl

pub ruleset acts = (act-named)
