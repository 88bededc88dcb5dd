use Rattle.campl_linear.proofs.Processed.{processes-agree}
use Rattle.campl_cli.proofs.Judging.{linear_refuses}
use Rattle.campl_cli.proofs.processes.judge_processes.Goals as goal

pub returns-in-Ok : goal.returns-in-Ok
returns-in-Ok c = λ program names typed same. (processes-agree program names).0 (rw (c.declarations.ensures, same) at c.in-Ok.ensures)

pub returns-in-Err : goal.returns-in-Err
returns-in-Err c = λ program names typed same.
    linear_refuses program c.in-Err.fault _ names typed (rw (c.declarations.ensures, same) at c.in-Err.ensures) c.refusal_of.ensures
