use Rattle.std.proofs.Common.{pos, ap}
use Rattle.campl_terminals.proofs.Spelled.{number_is}
use Rattle.campl_terminals.proofs.laws.number_is_spelled.Goals as goal

pub returns : goal.returns
returns c = λ w h. ap pos (number_is w.text h)
