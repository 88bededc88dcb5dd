use Rattle.campl_eval.specs.View.{code_of}
use Rattle.campl_meaning.specs.Ends.{IsEnabled}
use Rattle.campl_types.specs.World.{world_of}
use Rattle.campl_solo.specs.Asking.{LiesDown}
use Rattle.campl_solo.specs.Solos.{Stays}
use Rattle.campl_solo.proofs.Stepping.{all-rest, stays-on}
use Rattle.campl_solo.proofs.solo.Solo.has_step.Goals as goal

pub look-requires : goal.look-requires
look-requires c =
    let (source, n, x, run) = c.requires in
    let s = c.loop-number.invariant source n x run in
    (source, n, x, s.run, c.in-Some.ensures n.who s.run.tables.scheduled)

pub loop-number-smaller : goal.loop-number-smaller
loop-number-smaller c =
    let (source, n, x, run) = c.requires in
    let s = c.loop-number.invariant source n x run in
    let h : LiesDown source (code_of c.args.program.now) n x c.loop-number.self c.look.new.self = rw c.in-Ok-false.field-0-test at c.in-Ok-false.ensures source n x s.run (c.in-Some.ensures n.who s.run.tables.scheduled) in
    h.fewer

pub loop-number-preserved : goal.loop-number-preserved
loop-number-preserved c source n x run =
    let s = c.loop-number.invariant source n x run in
    let h : LiesDown source (code_of c.args.program.now) n x c.loop-number.self c.look.new.self = rw c.in-Ok-false.field-0-test at c.in-Ok-false.ensures source n x s.run (c.in-Some.ensures n.who s.run.tables.scheduled) in
    stays-on source (code_of c.args.program.now) n x c.args.self.now c.loop-number.self s c.look.new.self h.stays

pub returns-in-Ok-true : goal.returns-in-Ok-true
returns-in-Ok-true c source n x run =
    let s = c.loop-number.invariant source n x run in
    let h : Stays source (code_of c.args.program.now) n x c.loop-number.self c.look.new.self × IsEnabled (world_of source) x =
    rw c.in-Ok-true.field-0-test at c.in-Ok-true.ensures source n x s.run (c.in-Some.ensures n.who s.run.tables.scheduled) in
    (stays-on source (code_of c.args.program.now) n x c.args.self.now c.loop-number.self s c.look.new.self h.0, h.1)

pub returns-in-Err : goal.returns-in-Err
returns-in-Err c source n x run =
    let s = c.loop-number.invariant source n x run in
    stays-on source (code_of c.args.program.now) n x c.args.self.now c.loop-number.self s c.look.new.self (c.in-Err.ensures source n x s.run (c.in-Some.ensures n.who s.run.tables.scheduled))

pub returns : goal.returns
returns c source n x run =
    let s = c.loop-number.invariant source n x run in
    (s, all-rest source (code_of c.args.program.now) n x c.loop-number.self s.run (c.in_default.ensures n.who s.run.tables.scheduled))
