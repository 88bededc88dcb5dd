use Rattle.campl_frame.specs.Frame.{IsLeft}
use Rattle.campl_frame.proofs.Frame.{local-lawful}
use Rattle.campl_frame.proofs.laws.law_frames.Goals as goal

pub returns : goal.returns
returns k source c d l who next child from channel2 place2 h = local-lawful source c d l who (IsLeft who next child) from channel2 place2 h
