use Rattle.std.proofs.Common.{◌∙◌, ap, is_some}
use Rattle.campl_matching.proofs.Bindings.{known-found}
use Rattle.campl_matching.proofs.matching.is_bound.Goals as goal

pub returns-in-Some : goal.returns-in-Some
returns-in-Some c = ap is_some c.in-Some.ensures ∙ known-found c.args.name.now c.args.filling.now

pub returns-in-None : goal.returns-in-None
returns-in-None c = ap is_some c.in-None.ensures ∙ known-found c.args.name.now c.args.filling.now
