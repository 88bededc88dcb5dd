use Rattle.campl_terminals.proofs.Braces.{balanced_terminals}
use Rattle.campl_terminals.proofs.laws.braces_are_balanced.Goals as goal

pub returns : goal.returns
returns c = balanced_terminals
