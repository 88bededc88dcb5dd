use Rattle.campl_linear.proofs.Plugged.{divides, joins-parts, tells-fault, tells-tree}
use Rattle.campl_linear.proofs.laws.law_plugs_tell_their_fault.Goals as goal

pub returns : goal.returns
returns c = record { divide = divides; within = joins-parts; fault = tells-fault; tree = tells-tree }
