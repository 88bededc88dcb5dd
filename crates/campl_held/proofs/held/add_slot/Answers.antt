use Rattle.campl_held.proofs.held.add_slot.Goals as goal

pub come-requires : goal.come-requires
come-requires c = c.requires c.in-Some.channel c.in-Some.is
