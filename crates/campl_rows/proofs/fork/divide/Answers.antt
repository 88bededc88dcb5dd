use Rattle.campl_tree.specs.View.{view_body, view_chan}
use Rattle.campl_types.specs.Held.{On}
use Rattle.campl_held.specs.Slots.{view_held}
use Rattle.campl_rows.proofs.Shared.{left-share, right-share, first-is, second-is}
use Rattle.campl_rows.proofs.fork.divide.Goals as goal

pub returns-in-Ok-clause-left : goal.returns-in-Ok-clause-left
returns-in-Ok-clause-left c =
    first-is c.shares.result _ _ (left-share c.in-Ok.free (view_body c.args.left.now) c.in-Ok.ensures (view_held c.args.held.now) c.args.y.name.now.name (On c.args.y.side (view_chan c.args.y.channel_type.now))) c.shares.ensures.left

pub returns-in-Ok-clause-right : goal.returns-in-Ok-clause-right
returns-in-Ok-clause-right c =
    second-is c.shares.result _ _ (right-share c.in-Ok.free (view_body c.args.left.now) c.in-Ok.ensures (view_held c.args.held.now) c.args.z.name.now.name (On c.args.z.side (view_chan c.args.z.channel_type.now))) c.shares.ensures.right
