use Rattle.campl_held.specs.Slots.{view_held}
use Rattle.campl_rows.proofs.Shared.{new-names}
use Rattle.campl_rows.proofs.fork.fork_stands.Goals as goal

pub divide-requires : goal.divide-requires
divide-requires c = new-names c.args.y.now c.args.z.now (view_held c.give_up.new.self) c.in-Ok-two_new.ensures
