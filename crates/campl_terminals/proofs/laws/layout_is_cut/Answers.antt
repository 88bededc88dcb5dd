use Rattle.campl_terminals.proofs.Cuts.{laid_cut}
use Rattle.campl_terminals.proofs.laws.layout_is_cut.Goals as goal

pub returns : goal.returns
returns c = laid_cut
