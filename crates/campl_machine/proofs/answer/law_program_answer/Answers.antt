-- The machine with a program.
use Rattle.campl_machine.proofs.OneAnswer.{program-answer}
use Rattle.campl_machine.proofs.answer.law_program_answer.Goals as goal

pub returns : goal.returns
returns g c = program-answer
