use Rattle.campl_types.specs.World.{world_of}
use Rattle.campl_progress.proofs.Takes.{broken-is-deep, deep-is-broken}
use Rattle.campl_progress.proofs.laws.law_broken_is_deep.Goals as goal

pub returns-clause-where_deep : goal.returns-clause-where_deep
returns-clause-where_deep k source c p r = deep-is-broken (world_of source) c p r

pub returns-clause-only_there : goal.returns-clause-only_there
returns-clause-only_there k = broken-is-deep
