use Rattle.campl_solo.proofs.Waking.{woken}
use Rattle.campl_solo.proofs.tables.wake.Goals as goal

pub returns-clause-fits : goal.returns-clause-fits
returns-clause-fits c code m who ps es rest fits =
    let e = c.wake.ensures in
    woken code m who ps es c.args.end rest c.args.schedule.now c.wake.new.self fits (e.scheduled who) e.order e.flags e.waiting
