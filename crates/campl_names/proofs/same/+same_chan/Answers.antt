use Rattle.campl_names.proofs.UnlikeChan.{not-Put, not-Get, not-Tensor, not-Par, not-TopBot, not-Neg, not-Named}
use Rattle.campl_names.proofs.same.+same_chan.Goals as goal

pub returns-in_default : goal.returns-in_default
returns-in_default t c = not-Put _ _ _ _ c.in_default.is-0 c.in_default.not-Put-1

pub returns-in_default-2 : goal.returns-in_default-2
returns-in_default-2 t c = not-Get _ _ _ _ c.in_default.is-0 c.in_default.not-Get-1

pub returns-in_default-3 : goal.returns-in_default-3
returns-in_default-3 t c = not-Tensor _ _ _ _ c.in_default.is-0 c.in_default.not-Tensor-1

pub returns-in_default-4 : goal.returns-in_default-4
returns-in_default-4 t c = not-Par _ _ _ _ c.in_default.is-0 c.in_default.not-Par-1

pub returns-in_default-5 : goal.returns-in_default-5
returns-in_default-5 t c = not-TopBot _ _ c.in_default.is-0 c.in_default.not-TopBot-1

pub returns-in_default-6 : goal.returns-in_default-6
returns-in_default-6 t c = not-Neg _ _ _ c.in_default.is-0 c.in_default.not-Neg-1

pub returns-in_default-7 : goal.returns-in_default-7
returns-in_default-7 t c = not-Named _ _ _ _ _ c.in_default.is-0 c.in_default.not-Named-1
