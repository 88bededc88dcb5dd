use Rattle.std.proofs.Common.{◌≡◌, ◌≤◌, ◌<◌, ◌+◌, ◌^◌, ◌∷◌, ◌++◌, [], ◌∙◌, List, ap, refl, subst, sym}
use Rattle.campl_eval.specs.View.{code_of}
use Rattle.campl_parts.specs.declared.entry.Entry.{Entry}
use Rattle.campl_parts.specs.Journal.{Recorded, weight_of}
use Rattle.campl_solo.specs.Asking.{LiesDown}
use Rattle.campl_solo.specs.Solos.{HasStepped, Stays}
use Rattle.campl_solo.proofs.Asking.{appended-on}
use Rattle.campl_solo.proofs.Stepping.{all-rest, stays-on, stepped-on}
use Rattle.campl_solo.proofs.solo.Solo.step.Goals as goal

pub ask-requires-clause-run : goal.ask-requires-clause-run
ask-requires-clause-run c =
    let (source, n, x, run) = c.requires.run in
    let s = c.loop-number.invariant.stays source n x run in
    (source, n, x, s.run, c.in-Some.ensures n.who s.run.tables.scheduled)

pub ask-requires-clause-within : goal.ask-requires-clause-within
ask-requires-clause-within c = subst (λ (l : List Entry). weight_of l + 1 < 2 ^ 64) (sym c.loop-number.invariant.entries) c.requires.within

pub loop-number-smaller : goal.loop-number-smaller
loop-number-smaller c =
    let (source, n, x, run) = c.requires.run in
    let s = c.loop-number.invariant.stays source n x run in
    let h : LiesDown source (code_of c.args.program.now) n x c.loop-number.self c.ask.new.self × (c.ask.new.journal ≡ c.loop-number.journal) = rw c.in-Ok-false.field-0-test at c.in-Ok-false.ensures source n x s.run (c.in-Some.ensures n.who s.run.tables.scheduled) in
    h.0.fewer

pub loop-number-preserved : goal.loop-number-preserved
loop-number-preserved c =
    let (source, n, x, run) = c.requires.run in
    let s = c.loop-number.invariant.stays source n x run in
    let h : LiesDown source (code_of c.args.program.now) n x c.loop-number.self c.ask.new.self × (c.ask.new.journal ≡ c.loop-number.journal) = rw c.in-Ok-false.field-0-test at c.in-Ok-false.ensures source n x s.run (c.in-Some.ensures n.who s.run.tables.scheduled) in
    record {
      stays = λ source n x run.
          let s = c.loop-number.invariant.stays source n x run in
          let h : LiesDown source (code_of c.args.program.now) n x c.loop-number.self c.ask.new.self × (c.ask.new.journal ≡ c.loop-number.journal) = rw c.in-Ok-false.field-0-test at c.in-Ok-false.ensures source n x s.run (c.in-Some.ensures n.who s.run.tables.scheduled) in
          stays-on source (code_of c.args.program.now) n x c.args.self.now c.loop-number.self s c.ask.new.self h.0.stays;
      entries = ap (λ (j : Recorded). j.entries) h.1 ∙ c.loop-number.invariant.entries;
      room = subst (λ (j : Recorded). (1 ≤ j.spare) × (1 ≤ j.spare_full)) (sym h.1) c.loop-number.invariant.room;
    }

pub returns-in-Ok-true : goal.returns-in-Ok-true
returns-in-Ok-true c source n x run =
    let s = c.loop-number.invariant.stays source n x run in
    let h : (entry : Entry) × (c.ask.new.journal.entries ≡ c.loop-number.journal.entries ++ entry ∷ []) × HasStepped source (code_of c.args.program.now) n x c.loop-number.self entry c.ask.new.self =
    rw c.in-Ok-true.field-0-test at c.in-Ok-true.ensures source n x s.run (c.in-Some.ensures n.who s.run.tables.scheduled) in
    (h.0, appended-on c.args.journal.now.entries c.loop-number.journal.entries c.ask.new.journal.entries h.0 c.loop-number.invariant.entries h.1, stepped-on source (code_of c.args.program.now) n x c.args.self.now c.loop-number.self s c.ask.new.self h.0 h.2)

pub returns-in-Err-ask : goal.returns-in-Err-ask
returns-in-Err-ask c source n x run =
    let s = c.loop-number.invariant.stays source n x run in
    let h = c.in-Err-ask.ensures source n x s.run (c.in-Some.ensures n.who s.run.tables.scheduled) in
    (ap (λ (j : Recorded). j.entries) h.1 ∙ c.loop-number.invariant.entries, stays-on source (code_of c.args.program.now) n x c.args.self.now c.loop-number.self s c.ask.new.self h.0)

pub returns : goal.returns
returns c source n x run =
    let s = c.loop-number.invariant.stays source n x run in
    (c.loop-number.invariant.entries, s, all-rest source (code_of c.args.program.now) n x c.loop-number.self s.run (c.in_default.ensures n.who s.run.tables.scheduled))
