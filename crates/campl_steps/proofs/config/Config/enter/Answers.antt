use Rattle.std.proofs.Common.{◌≡◌, ◌∙◌, Some, ap, slice_get, sym}
use Rattle.campl_eval.specs.View.{code_of}
use Rattle.campl_instructions.specs.View.{view_block, view_code}
use Rattle.campl_instructions.specs.declared.block.RawCode.{RawCode}
use Rattle.campl_parts.specs.Views.{held_of}
use Rattle.campl_steps.proofs.InPlace.{call-tried}
use Rattle.campl_steps.proofs.config.Config.enter.Goals as goal

pub returns-in-Ok-Some : goal.returns-in-Ok-Some
returns-in-Ok-Some c =
    let there : slice_get (code_of c.args.program.now).processes c.args.process ≡ Some (view_block c.in-Some-process.field-0.now) = ap (λ (raw : RawCode). slice_get (view_code raw).processes c.args.process) (sym c.raw.ensures.same) ∙ sym c.in-Some-process.ensures in
    call-tried (code_of c.args.program.now) c.args.self.now c.args.number c.in-Some.standing c.in-Some.ensures c.args.process c.args.channels.now (view_block c.in-Some-process.field-0.now)
    c.requires.at there (held_of c.in-Ok-Some.running) (rw c.in-Ok-Some.field-0-is at c.in-Ok-Some.ensures (view_block c.in-Some-process.field-0.now) there) c.turn.new.self c.args.journal.now c.turn.new.journal c.turn.result c.turn.ensures
