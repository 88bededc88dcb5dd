-- The step as a function and as a relation.
use Rattle.campl_machine.proofs.Performs.{does_of, of_does}
use Rattle.campl_machine.proofs.step.law_step.Goals as goal

pub returns-clause-computed : goal.returns-clause-computed
returns-clause-computed g c a d p A = does_of a p A d

pub returns-clause-told : goal.returns-clause-told
returns-clause-told g c a d p A = of_does a p A d
