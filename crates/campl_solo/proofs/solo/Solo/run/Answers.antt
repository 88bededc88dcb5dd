use Rattle.std.proofs.Common.{◌≡◌, ◌<◌, ◌-◌, ◌++◌, ◌∷◌, [], Ok, Err, refl, arith}
use Rattle.campl_eval.specs.View.{code_of}
use Rattle.campl_meaning.specs.Ends.{IsEnabled}
use Rattle.campl_types.specs.World.{world_of}
use Rattle.campl_parts.specs.declared.entry.Entry.{Entry}
use Rattle.campl_parts.specs.Journal.{weight_of}
use Rattle.campl_solo.specs.declared.solo.Stop.TheVariants.{Rested, Spent}
use Rattle.campl_solo.specs.Solos.{HasStepped, Rest, Stays}
use Rattle.campl_solo.proofs.Running.{grew-none, stopped-at, weight-written, written-more}
use Rattle.campl_solo.proofs.solo.Solo.run.Goals as goal

pub loop-self-init : goal.loop-self-init
loop-self-init c = record {
  grew = λ source n x run. grew-none source (code_of c.args.program.now) n x c.args.self.now run c.args.journal.now.entries;
  within = c.requires.within;
}

pub step-requires-clause-run : goal.step-requires-clause-run
step-requires-clause-run c =
    let (source, n, x, run) = c.requires.run in
    let g = c.loop-self.invariant.grew source n x run in
    (source, g.goes.naming, g.goes.last, g.goes.is)

pub loop-self-smaller : goal.loop-self-smaller
loop-self-smaller c =
    let (source, n, x, run) = c.requires.run in
    let g = c.loop-self.invariant.grew source n x run in
    let h : (entry : Entry) × (c.step.new.journal.entries ≡ c.loop-self.journal.entries ++ entry ∷ []) × HasStepped source (code_of c.args.program.now) g.goes.naming g.goes.last c.loop-self.self entry c.step.new.self =
    rw c.in-Ok-true.field-0-test at c.in-Ok-true.ensures source g.goes.naming g.goes.last g.goes.is in
    let one = weight-written c.loop-self.journal.entries c.step.new.journal.entries h.0 h.1 h.2.one in
    let less = c.loop-self-test.true in
    let is = c.weight.ensures in
    let r : c.args.budget - weight_of c.step.new.journal.entries < c.args.budget - weight_of c.loop-self.journal.entries = omega (arith, one, less, is) in
    r

pub loop-self-preserved : goal.loop-self-preserved
loop-self-preserved c = record {
  grew = λ source n x run.
      let g = c.loop-self.invariant.grew source n x run in
      let h : (entry : Entry) × (c.step.new.journal.entries ≡ c.loop-self.journal.entries ++ entry ∷ []) × HasStepped source (code_of c.args.program.now) g.goes.naming g.goes.last c.loop-self.self entry c.step.new.self =
      rw c.in-Ok-true.field-0-test at c.in-Ok-true.ensures source g.goes.naming g.goes.last g.goes.is in
      written-more source (code_of c.args.program.now) n x c.args.self.now c.loop-self.self c.step.new.self c.args.journal.now.entries c.loop-self.journal.entries c.step.new.journal.entries h.0 g h.1 h.2;
  within =
      let (source, n, x, run) = c.requires.run in
      let g = c.loop-self.invariant.grew source n x run in
      let h : (entry : Entry) × (c.step.new.journal.entries ≡ c.loop-self.journal.entries ++ entry ∷ []) × HasStepped source (code_of c.args.program.now) g.goes.naming g.goes.last c.loop-self.self entry c.step.new.self =
      rw c.in-Ok-true.field-0-test at c.in-Ok-true.ensures source g.goes.naming g.goes.last g.goes.is in
      let one = weight-written c.loop-self.journal.entries c.step.new.journal.entries h.0 h.1 h.2.one in
      let less = c.loop-self-test.true in
      let is = c.weight.ensures in
      omega (arith, one, less, is);
}

pub returns-in-Ok-false : goal.returns-in-Ok-false
returns-in-Ok-false c source n x run =
    let code = code_of c.args.program.now in
    let g = c.loop-self.invariant.grew source n x run in
    let new = c.step.new.self in
    let h : (c.step.new.journal.entries ≡ c.loop-self.journal.entries) × Stays source code g.goes.naming g.goes.last c.loop-self.self new × Rest code new =
    rw c.in-Ok-false.field-0-test at c.in-Ok-false.ensures source g.goes.naming g.goes.last g.goes.is in
    stopped-at source code n x c.args.self.now c.loop-self.self new c.args.journal.now.entries c.loop-self.journal.entries c.step.new.journal.entries c.args.budget (Ok Rested) g h.0 c.loop-self.invariant.within h.1 h.2

pub returns-in-Err : goal.returns-in-Err
returns-in-Err c source n x run =
    let code = code_of c.args.program.now in
    let g = c.loop-self.invariant.grew source n x run in
    let h = c.in-Err.ensures source g.goes.naming g.goes.last g.goes.is in
    stopped-at source code n x c.args.self.now c.loop-self.self c.step.new.self c.args.journal.now.entries c.loop-self.journal.entries c.step.new.journal.entries c.args.budget (Err c.in-Err.error) g h.0 c.loop-self.invariant.within h.1 tt

pub has_step-requires : goal.has_step-requires
has_step-requires c =
    let (source, n, x, run) = c.requires.run in
    let g = c.loop-self.invariant.grew source n x run in
    (source, g.goes.naming, g.goes.last, g.goes.is)

pub returns-in-Ok-true-has_step : goal.returns-in-Ok-true-has_step
returns-in-Ok-true-has_step c source n x run =
    let code = code_of c.args.program.now in
    let g = c.loop-self.invariant.grew source n x run in
    let new = c.has_step.new.self in
    let h : Stays source code g.goes.naming g.goes.last c.loop-self.self new × IsEnabled (world_of source) g.goes.last =
    rw c.in-Ok-true-has_step.field-0-test at c.in-Ok-true-has_step.ensures source g.goes.naming g.goes.last g.goes.is in
    let more = c.loop-self-test.false in
    let is = c.weight.ensures in
    let within = c.loop-self.invariant.within in
    let spent : weight_of c.loop-self.journal.entries ≡ c.args.budget = omega (arith, more, is, within) in
    stopped-at source code n x c.args.self.now c.loop-self.self new c.args.journal.now.entries c.loop-self.journal.entries c.loop-self.journal.entries c.args.budget (Ok Spent) g refl c.loop-self.invariant.within h.0 (spent, h.1)

pub returns-in-Ok-false-has_step : goal.returns-in-Ok-false-has_step
returns-in-Ok-false-has_step c source n x run =
    let code = code_of c.args.program.now in
    let g = c.loop-self.invariant.grew source n x run in
    let new = c.has_step.new.self in
    let h : Stays source code g.goes.naming g.goes.last c.loop-self.self new × Rest code new =
    rw c.in-Ok-false-has_step.field-0-test at c.in-Ok-false-has_step.ensures source g.goes.naming g.goes.last g.goes.is in
    stopped-at source code n x c.args.self.now c.loop-self.self new c.args.journal.now.entries c.loop-self.journal.entries c.loop-self.journal.entries c.args.budget (Ok Rested) g refl c.loop-self.invariant.within h.0 h.1

pub returns-in-Err-has_step : goal.returns-in-Err-has_step
returns-in-Err-has_step c source n x run =
    let code = code_of c.args.program.now in
    let g = c.loop-self.invariant.grew source n x run in
    let h = c.in-Err-has_step.ensures source g.goes.naming g.goes.last g.goes.is in
    stopped-at source code n x c.args.self.now c.loop-self.self c.has_step.new.self c.args.journal.now.entries c.loop-self.journal.entries c.loop-self.journal.entries c.args.budget (Err c.in-Err-has_step.error) g refl c.loop-self.invariant.within h tt
