use Rattle.campl_cli.proofs.OneAnswer.{same_tree, tree_without_fault}
use Rattle.campl_cli.proofs.OneFault.{one_fault}
use Rattle.campl_cli.proofs.source.one_answer.Goals as goal

pub returns-clause-tree : goal.returns-clause-tree
returns-clause-tree c = same_tree

pub returns-clause-no_fault : goal.returns-clause-no_fault
returns-clause-no_fault c = tree_without_fault

pub returns-clause-one_fault : goal.returns-clause-one_fault
returns-clause-one_fault c = one_fault
