use Rattle.campl_gram.proofs.Exact.{exact, whole}
use Rattle.campl_gram.proofs.laws.reading_is_exact.Goals as goal

pub returns-clause-answers : goal.returns-clause-answers
returns-clause-answers g c limit = exact g.G.Grammar.terminals g.G.Grammar.Name g.G.Grammar.Value g.G.Grammar.rule g.G.Grammar.tables g.G.Grammar.same g.G.Grammar.distinct g.G.Grammar.passes limit

pub returns-clause-finds : goal.returns-clause-finds
returns-clause-finds g c limit = whole g.G.Grammar.terminals g.G.Grammar.Name g.G.Grammar.Value g.G.Grammar.rule g.G.Grammar.tables g.G.Grammar.same g.G.Grammar.distinct g.G.Grammar.passes limit
