use Rattle.std.proofs.Common.{sym}
use Rattle.campl_eval.specs.View.{code_of}
use Rattle.campl_steps.proofs.InPlace.{offer-tried}
use Rattle.campl_steps.proofs.config.Config.offer.Goals as goal

pub returns-in-Ok-Some : goal.returns-in-Ok-Some
returns-in-Ok-Some c =
    offer-tried (code_of c.args.program.now) c.args.self.now c.args.number c.in-Some.standing c.in-Some.ensures c.args.channel c.in-Some-get.end c.in-Some-pick_at.constructor c.in-Some-item_at.to.now c.args.targets.now c.requires.at (sym c.in-Some-get.ensures) c.in-Some-pick_at.ensures (sym c.in-Some-item_at.ensures)
    c.in-Ok-Some.reached.at c.in-Ok-Some.reached.values.items (rw c.in-Ok-Some.field-0-is at c.in-Ok-Some.ensures) c.take_pick.new.self c.args.journal.now c.take_pick.new.journal c.take_pick.result c.take_pick.ensures
