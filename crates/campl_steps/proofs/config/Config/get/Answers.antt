use Rattle.std.proofs.Common.{sym}
use Rattle.campl_eval.specs.View.{code_of}
use Rattle.campl_steps.proofs.InPlace.{get-tried}
use Rattle.campl_steps.proofs.config.Config.get.Goals as goal

pub returns-in-Ok-Some : goal.returns-in-Ok-Some
returns-in-Ok-Some c =
    get-tried (code_of c.args.program.now) c.args.self.now c.args.number c.in-Some.standing c.in-Some.ensures c.args.channel c.in-Some-get.end c.args.variable c.in-Some-word_at.value.now c.in-Ok.told c.in-Ok-with.variables c.requires.at (sym c.in-Some-get.ensures) c.in-Some-word_at.ensures c.in-Ok.ensures c.in-Ok-with.ensures
    c.in-Some-checked_add.next c.in-Some-checked_add.ensures.1 c.in-Ok-Some.reached.at c.in-Ok-Some.reached.values.items (rw c.in-Ok-Some.field-0-is at c.in-Ok-Some.ensures) c.take_word.new.self c.args.journal.now c.take_word.new.journal c.take_word.result c.take_word.ensures
