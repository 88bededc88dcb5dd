use Rattle.campl_gram.proofs.Balance.{fault-at-token}
use Rattle.campl_gram.proofs.laws.fault_is_at_a_token.Goals as goal

pub returns : goal.returns
returns g c opening closing m balanced encloses limit t ts fault rest = fault-at-token g.G.Grammar.terminals opening closing g.G.Grammar.same g.G.Grammar.distinct g.G.Grammar.Name g.G.Grammar.Value g.G.Grammar.rule balanced limit m encloses t ts fault rest
