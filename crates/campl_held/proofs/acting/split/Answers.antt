use Rattle.campl_held.specs.Slots.{view_held}
use Rattle.campl_held.proofs.Entries.{first-new, second-new}
use Rattle.campl_held.proofs.acting.split.Goals as goal

pub come-requires : goal.come-requires
come-requires c = first-new c.args.y.now c.args.z.now (view_held c.give_up.new.self) c.in-Ok-two_new.ensures

pub come-requires-2 : goal.come-requires-2
come-requires-2 c = rw c.in-Ok-come.ensures (second-new c.args.y.now c.args.z.now _ (view_held c.give_up.new.self) c.in-Ok-two_new.ensures)
