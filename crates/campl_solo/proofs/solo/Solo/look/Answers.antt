use Rattle.std.proofs.Common.{◌<◌, ℕ, true, refl, Ok}
use Rattle.campl_cells.specs.Steps.{IsStill}
use Rattle.campl_eval.specs.View.{code_of}
use Rattle.campl_steps.specs.Configs.{CanStep, drawn, parts}
use Rattle.campl_solo.proofs.Stepping.{enabled, fits-of, is-same, lies-down, stays}
use Rattle.campl_solo.proofs.solo.Solo.look.Goals as goal

pub returns-in-Ok-true : goal.returns-in-Ok-true
returns-in-Ok-true c source n x run first =
    let code = code_of c.args.program.now in
    let old = c.args.self.now in
    let h : (i : ℕ) × CanStep code (drawn old.config) (parts old.config) c.args.number i (Ok true) = rw c.in-Ok-true.field-0-test at c.in-Ok-true.ensures in
    (stays source code n x old run old (is-same old.config) (fits-of code n _ old run.tables), enabled source code n x old run c.args.number h.0 h.1)

pub returns-in-Ok-false : goal.returns-in-Ok-false
returns-in-Ok-false c source n x run first =
    let code = code_of c.args.program.now in
    let old = c.args.self.now in
    let h : (i : ℕ) → i < c.in-Ok.count → IsStill code (drawn old.config) (parts old.config) c.args.number i = rw c.in-Ok-false.field-0-test at c.in-Ok-false.ensures in
    let e = c.rest.ensures in
    lies-down source code n x old run c.args.number first old.schedule (fits-of code n _ old run.tables) (λ i. refl) (record { config = old.config; schedule = c.rest.new.schedule }) (is-same old.config)
    c.in-Ok.count c.in-Ok.ensures.some c.in-Ok.ensures.others h (e.scheduled n.who) e.order e.flags e.waited
