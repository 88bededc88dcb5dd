use Rattle.campl_kept_quiet.proofs.Frame.{frame}
use Rattle.campl_kept_quiet.proofs.laws.law_frame.Goals as goal

pub returns : goal.returns
returns c source d l p r next is q = frame source d l p r next is q
