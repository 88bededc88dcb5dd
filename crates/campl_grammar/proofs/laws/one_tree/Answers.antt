use Rattle.campl_grammar.proofs.Exactness.{one_tree}
use Rattle.campl_grammar.proofs.laws.one_tree.Goals as goal

pub returns : goal.returns
returns c = one_tree
