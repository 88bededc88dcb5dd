use Rattle.campl_cli.proofs.Judging.{functions_refuse, processes_judged}
use Rattle.campl_cli.proofs.acceptance.judge_world.Goals as goal

pub returns-in-Ok : goal.returns-in-Ok
returns-in-Ok c = λ program names same.
    let typed = c.in-Ok.ensures program names same in
    processes_judged program _ names typed (c.judge_processes.ensures program names typed same)

pub returns-in-Err : goal.returns-in-Err
returns-in-Err c = λ program names same. functions_refuse program _ (c.in-Err.ensures program names same)
