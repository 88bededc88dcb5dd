-- What is done or refused is answered.
use Rattle.std.proofs.Common.{refl}
use Rattle.campl_cli.proofs.TopCall.{answers_done, answers_refusal}
use Rattle.campl_cli.proofs.command.campl.Goals as goal

pub returns-in-Ok : goal.returns-in-Ok
returns-in-Ok g c =
    let (order, is, done) = c.in-Ok.ensures in
    answers_done _ _ _ _ _ order c.in-Ok.performance is done c.print.ensures

pub returns-in-Err : goal.returns-in-Err
returns-in-Err g c = answers_refusal _ _ _ _ _ c.in-Err.refusal c.in-Err.ensures refl c.refuse.ensures
