use Rattle.campl_peel.proofs.Steps.{count-kept, plug-begins, begins-with-first}
use Rattle.campl_peel.proofs.laws.law_plugs_begin.Goals as goal

pub returns : goal.returns
returns c = record { size = count-kept; whole = plug-begins; first = begins-with-first }
