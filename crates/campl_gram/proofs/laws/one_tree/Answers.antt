use Rattle.campl_gram.proofs.Exact.{one_tree}
use Rattle.campl_gram.proofs.laws.one_tree.Goals as goal

pub returns : goal.returns
returns g c = one_tree g.G.Grammar.terminals g.G.Grammar.Name g.G.Grammar.Value g.G.Grammar.rule g.G.Grammar.tables g.G.Grammar.same g.G.Grammar.distinct g.G.Grammar.passes
