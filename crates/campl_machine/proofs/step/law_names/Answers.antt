-- The tests of names.
use Rattle.campl_machine.proofs.Same.{same_end-is, same_end-refl, same_who-is, same_who-refl}
use Rattle.campl_machine.proofs.step.law_names.Goals as goal

pub returns-clause-ends : goal.returns-clause-ends
returns-clause-ends c = record { is = same_end-is; own = same_end-refl }

pub returns-clause-nodes : goal.returns-clause-nodes
returns-clause-nodes c = record { is = same_who-is; own = same_who-refl }
