use Rattle.campl_code_bodies.proofs.KeptCells.{kept-goes, kept-wants}
use Rattle.campl_code_bodies.proofs.laws.law_kept.Goals as goal

pub returns : goal.returns
returns c = record { wants = kept-wants; goes = kept-goes }
