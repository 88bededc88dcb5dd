-- A fork.
use Rattle.campl_machine.proofs.Forking.{fork-forest}
use Rattle.campl_machine.proofs.forest.law_forest_fork.Goals as goal

pub returns : goal.returns
returns g c same same_node tells nodes a b p child message n1 l1 n2 l2 s = fork-forest same tells same_node nodes a b p child message n1 l1 n2 l2 s
