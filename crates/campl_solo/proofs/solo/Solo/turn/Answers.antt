use Rattle.std.proofs.Common.{◌<◌, ℕ, [], refl, arith}
use Rattle.campl_cells.specs.Steps.{IsStill}
use Rattle.campl_eval.specs.View.{code_of}
use Rattle.campl_steps.specs.Configs.{IsSame, drawn, parts}
use Rattle.campl_solo.specs.Asking.{HasTurned}
use Rattle.campl_solo.proofs.Stepping.{bearing, flag-for, is-same, lies-down, roomy, stays, stepped}
use Rattle.campl_solo.proofs.solo.Solo.turn.Goals as goal

pub returns-in-Err : goal.returns-in-Err
returns-in-Err c source n x run first =
    let code = code_of c.args.program.now in
    let old = c.args.self.now in
    let e = c.make_room.ensures in
    let fits = roomy source code n x old run c.make_room.new.self (e.scheduled n.who) e.order e.waiting e.flags in
    (stays source code n x old run (record { config = old.config; schedule = c.make_room.new.self }) (is-same old.config) fits, refl)

pub returns-in-Err-branches : goal.returns-in-Err-branches
returns-in-Err-branches c source n x run first =
    let code = code_of c.args.program.now in
    let old = c.args.self.now in
    let e = c.make_room.ensures in
    let fits = roomy source code n x old run c.make_room.new.self (e.scheduled n.who) e.order e.waiting e.flags in
    (stays source code n x old run (record { config = old.config; schedule = c.make_room.new.self }) (is-same old.config) fits, refl)

pub rest-requires-clause-scheduled : goal.rest-requires-clause-scheduled
rest-requires-clause-scheduled c =
    let (source, n, x, run, first) = c.requires.run in
    (n.who, c.make_room.ensures.scheduled n.who run.tables.scheduled)

pub grow-requires-clause-scheduled : goal.grow-requires-clause-scheduled
grow-requires-clause-scheduled c =
    let (source, n, x, run, first) = c.requires.run in
    let code = code_of c.args.program.now in
    let old = c.args.self.now in
    let e = c.make_room.ensures in
    let fits = roomy source code n x old run c.make_room.new.self (e.scheduled n.who) e.order e.waiting e.flags in
    let made = c.in-Ok-Some.made in
    let turned : HasTurned code c.args.number old.config made c.first_step.new.config = rw c.in-Ok-Some.field-0-is at c.in-Ok-Some.ensures in
    bearing source code n x old run c.args.number first c.make_room.new.self fits e.flags c.first_step.new.config made turned c.steps-born.result c.steps-born.ensures

pub wake_all-requires : goal.wake_all-requires
wake_all-requires c =
    let (source, n, x, run, first) = c.requires.run in
    let code = code_of c.args.program.now in
    let old = c.args.self.now in
    let e = c.make_room.ensures in
    let fits = roomy source code n x old run c.make_room.new.self (e.scheduled n.who) e.order e.waiting e.flags in
    let made = c.in-Ok-Some.made in
    let turned : HasTurned code c.args.number old.config made c.first_step.new.config = rw c.in-Ok-Some.field-0-is at c.in-Ok-Some.ensures in
    let b = bearing source code n x old run c.args.number first c.make_room.new.self fits e.flags c.first_step.new.config made turned c.steps-born.result c.steps-born.ensures in
    (b.0, c.grow.ensures.scheduled b.0 b.1 b.2)

pub returns-in-Ok-None : goal.returns-in-Ok-None
returns-in-Ok-None c source n x run first =
    let code = code_of c.args.program.now in
    let old = c.args.self.now in
    let e = c.make_room.ensures in
    let fits = roomy source code n x old run c.make_room.new.self (e.scheduled n.who) e.order e.waiting e.flags in
    let h : ((i : ℕ) → i < c.in-Ok-branches.count → IsStill code (drawn old.config) (parts old.config) c.args.number i) × IsSame old.config c.first_step.new.config = rw c.in-Ok-None.field-0-is at c.in-Ok-None.ensures in
    let r = c.rest.ensures in (
      lies-down source code n x old run c.args.number first c.make_room.new.self fits e.flags (record { config = c.first_step.new.config; schedule = c.rest.new.schedule }) h.1
          c.in-Ok-branches.count c.in-Ok-branches.ensures.some c.in-Ok-branches.ensures.others h.0 (r.scheduled n.who) r.order r.flags r.waited,
      refl,
    )

pub record-requires-clause-within : goal.record-requires-clause-within
record-requires-clause-within c =
    let (source, n, x, run, first) = c.requires.run in
    let code = code_of c.args.program.now in
    let old = c.args.self.now in
    let e = c.make_room.ensures in
    let fits = roomy source code n x old run c.make_room.new.self (e.scheduled n.who) e.order e.waiting e.flags in
    let made = c.in-Ok-Some.made in
    let turned : HasTurned code c.args.number old.config made c.first_step.new.config = rw c.in-Ok-Some.field-0-is at c.in-Ok-Some.ensures in
    let step = stepped source code n x old run c.args.number first c.make_room.new.self fits e.flags c.first_step.new.config made turned c.steps-born.result c.steps-born.ensures
    (flag-for made.entry.child c.make_room.new.self c.in-Ok.ensures.room) c.grow.new.schedule c.grow.ensures (record { config = c.first_step.new.config; schedule = c.wake_all.new.schedule }) refl c.wake_all.ensures in
    let one = step.one in
    let within = c.requires.within in
    omega (arith, one, within)

pub returns-in-Ok-Some : goal.returns-in-Ok-Some
returns-in-Ok-Some c source n x run first =
    let code = code_of c.args.program.now in
    let old = c.args.self.now in
    let e = c.make_room.ensures in
    let fits = roomy source code n x old run c.make_room.new.self (e.scheduled n.who) e.order e.waiting e.flags in
    let made = c.in-Ok-Some.made in
    let turned : HasTurned code c.args.number old.config made c.first_step.new.config = rw c.in-Ok-Some.field-0-is at c.in-Ok-Some.ensures in (
      made.entry,
      c.record.ensures,
      stepped source code n x old run c.args.number first c.make_room.new.self fits e.flags c.first_step.new.config made turned c.steps-born.result c.steps-born.ensures
          (flag-for made.entry.child c.make_room.new.self c.in-Ok.ensures.room) c.grow.new.schedule c.grow.ensures (record { config = c.first_step.new.config; schedule = c.wake_all.new.schedule }) refl c.wake_all.ensures,
    )

pub returns-in-Err-first_step : goal.returns-in-Err-first_step
returns-in-Err-first_step c source n x run first =
    let code = code_of c.args.program.now in
    let old = c.args.self.now in
    let e = c.make_room.ensures in
    let fits = roomy source code n x old run c.make_room.new.self (e.scheduled n.who) e.order e.waiting e.flags in
    (stays source code n x old run (record { config = c.first_step.new.config; schedule = c.make_room.new.self }) c.in-Err-first_step.ensures fits, refl)
