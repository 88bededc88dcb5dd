-- Channel types as definitions see them, each name with its place.
use Rattle.campl_tree.specs.declared.place.Place.{Place}
use Rattle.campl_tree.specs.declared.name.Name.{Name}
use Rattle.campl_tree.specs.Plain.SeqType.{SeqType, SeqTypes}

pub data ChanType : Type 0 where
  Put : SeqType → ChanType → ChanType
  Get : SeqType → ChanType → ChanType
  Tensor : ChanType → ChanType → ChanType
  Par : ChanType → ChanType → ChanType
  TopBot : ChanType
  Neg : ChanType → ChanType
  Named : Place → Name → SeqTypes → ChanType
