-- Independent steps commute.
use Rattle.campl_machine.proofs.Meeting.{diamond}
use Rattle.campl_machine.proofs.diamond.law_diamond.Goals as goal

pub returns : goal.returns
returns g c = diamond
