use Rattle.campl_gram.proofs.Balance.{program-balanced, front-open}
use Rattle.campl_gram.proofs.laws.proper_front_is_open.Goals as goal

pub returns-clause-whole : goal.returns-clause-whole
returns-clause-whole g c opening closing m balanced encloses = program-balanced g.G.Grammar.terminals opening closing g.G.Grammar.same g.G.Grammar.distinct g.G.Grammar.Name g.G.Grammar.Value g.G.Grammar.rule balanced m encloses

pub returns-clause-front : goal.returns-clause-front
returns-clause-front g c opening closing m balanced encloses = front-open g.G.Grammar.terminals opening closing g.G.Grammar.same g.G.Grammar.distinct g.G.Grammar.Name g.G.Grammar.Value g.G.Grammar.rule balanced m encloses
