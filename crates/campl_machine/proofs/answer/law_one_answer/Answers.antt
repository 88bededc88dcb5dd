-- Where reductions have the diamond, runs end alike.
use Rattle.campl_machine.proofs.OneAnswer.{one-answer}
use Rattle.campl_machine.proofs.answer.law_one_answer.Goals as goal

pub returns : goal.returns
returns g c same start tells diamonds = one-answer g.C.Reduces.reduces same tells start diamonds
