use Rattle.std.proofs.Common.{Ok, Option, subst}
use Rattle.campl_eval.specs.View.{code_of}
use Rattle.campl_steps.specs.declared.made.Made.{Made}
use Rattle.campl_steps.specs.Configs.{Stepped}
use Rattle.campl_steps.proofs.Called.{called-once}
use Rattle.campl_steps.proofs.config.Config.call.Goals as goal

pub returns-in-Ok-Some : goal.returns-in-Ok-Some
returns-in-Ok-Some c =
    let code = code_of c.args.program.now in
    called-once code c.args.number c.args.branch c.args.self.now c.in-Ok-Some.field-0-0 c.step.new.self c.requires.wired c.requires.calling
    (subst (λ (o : Option Made). Stepped code c.args.number c.args.branch c.args.self.now c.step.new.self (Ok o)) c.in-Ok-Some.field-0-is c.in-Ok-Some.ensures)
