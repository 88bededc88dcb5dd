use Rattle.campl_seqcheck.proofs.AgreesFunctions.{functions-agree}
use Rattle.campl_cli.proofs.Judging.{typing_refuses}
use Rattle.campl_cli.proofs.functions.judge_functions.Goals as goal

pub returns-in-Ok : goal.returns-in-Ok
returns-in-Ok c = λ program names same. (functions-agree program names).0 (rw (c.declarations.ensures, same) at c.in-Ok.ensures)

pub returns-in-Err : goal.returns-in-Err
returns-in-Err c = λ program names same. rw c.refusal_of_function.ensures (typing_refuses program c.in-Err.fault names (rw (c.declarations.ensures, same) at c.in-Err.ensures))
