-- Partners stay partners.
use Rattle.campl_machine.proofs.Partners.{paired-kept}
use Rattle.campl_machine.proofs.Performs.{does_of}
use Rattle.campl_machine.proofs.step.law_partners.Goals as goal

pub returns : goal.returns
returns g c a d p A paired new fresh e = paired-kept a p A d paired new fresh (does_of a p A d e)
