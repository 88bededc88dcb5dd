use Rattle.campl_gram.proofs.Exact.{reads}
use Rattle.campl_gram.proofs.laws.name_is_read_as_its_rule.Goals as goal

pub returns : goal.returns
returns g c limit = reads g.G.Grammar.terminals g.G.Grammar.Name g.G.Grammar.Value g.G.Grammar.rule g.G.Grammar.tables g.G.Grammar.same g.G.Grammar.distinct g.G.Grammar.passes limit
