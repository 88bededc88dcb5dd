use Rattle.campl_held.specs.Slots.{view_held}
use Rattle.campl_rows.proofs.Shared.{found-kept}
use Rattle.campl_rows.proofs.fork.share.Goals as goal

pub come-requires : goal.come-requires
come-requires c = found-kept c.args.end.name.now.name c.args.keep c.args.free.now _ (view_held c.args.held.now) c.in-Ok.ensures c.requires
