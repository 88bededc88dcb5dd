-- Where reductions have the diamond, what runs show are prefixes of one another.
use Rattle.campl_machine.proofs.OneAnswer.{prefixes}
use Rattle.campl_machine.proofs.answer.law_prefixes.Goals as goal

pub returns : goal.returns
returns g c same start tells diamonds = prefixes g.C.Reduces.reduces same tells start diamonds
