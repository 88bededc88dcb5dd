use Rattle.campl_held.proofs.Turns.{grown-on}
use Rattle.campl_held.proofs.acting.bind.Goals as goal

pub returns-in_ok-t-in-Variable-clause-grown : goal.returns-in_ok-t-in-Variable-clause-grown
returns-in_ok-t-in-Variable-clause-grown c = grown-on _ _ _ _ c.bind.ensures.ok
