-- The machine with a program.
use Rattle.campl_machine.proofs.OneAnswer.{program-prefixes}
use Rattle.campl_machine.proofs.answer.law_program_prefixes.Goals as goal

pub returns : goal.returns
returns g c act i start keeps = program-prefixes act i start keeps
