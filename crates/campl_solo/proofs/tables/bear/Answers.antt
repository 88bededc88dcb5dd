use Rattle.campl_solo.specs.Fits.{CanBear}
use Rattle.campl_solo.proofs.tables.bear.Goals as goal

pub returns-in-Some-clause-scheduled : goal.returns-in-Some-clause-scheduled
returns-in-Some-clause-scheduled c names s may =
    let b : CanBear names c.args.parent c.args.born c.args.schedule.now = rw c.in-Some.is at may in
    c.welcome.ensures.scheduled names s b.child
