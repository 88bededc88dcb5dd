use Rattle.std.proofs.Common.{sym}
use Rattle.campl_eval.specs.View.{code_of}
use Rattle.campl_steps.proofs.InPlace.{put-tried}
use Rattle.campl_steps.proofs.config.Config.put.Goals as goal

pub returns-in-Ok-Some : goal.returns-in-Ok-Some
returns-in-Ok-Some c =
    put-tried (code_of c.args.program.now) c.args.self.now c.args.number c.in-Some.standing c.in-Some.ensures c.args.channel c.in-Some-get.end c.in-Some-only.value.now c.in-Ok.message c.in-Ok-copy.told c.requires.at (sym c.in-Some-get.ensures) c.in-Some-only.ensures c.in-Ok.ensures c.in-Ok-copy.ensures
    c.in-Some-checked_add.next c.in-Some-checked_add.ensures.1 c.in-Ok-Some.reached.at c.in-Ok-Some.reached.values.items (rw c.in-Ok-Some.field-0-is at c.in-Ok-Some.ensures) c.send.new.self c.args.journal.now c.send.new.journal c.send.result c.send.ensures
