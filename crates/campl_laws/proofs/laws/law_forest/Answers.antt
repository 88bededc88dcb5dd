use Rattle.campl_laws.proofs.All.{met-lawful}
use Rattle.campl_laws.proofs.Forests.{no-cycle-of}
use Rattle.campl_laws.proofs.laws.law_forest.Goals as goal

pub returns-clause-placed : goal.returns-clause-placed
returns-clause-placed k source c met = let l = met-lawful source c met in (l.place, l.apart.placed)

pub returns-clause-no_cycle : goal.returns-clause-no_cycle
returns-clause-no_cycle k source c met place placed =
    let l = met-lawful source c met in no-cycle-of c l.place place l.apart.placed placed l.apart.forest
