use Rattle.std.proofs.Common.{◌∙◌}
use Rattle.campl_held.specs.Slots.{view_held}
use Rattle.campl_plug_heads.proofs.Shares.{ends-at, free-at, stand-at}
use Rattle.campl_plug_heads.proofs.share.add_ends.Goals as goal

pub add_end-requires : goal.add_end-requires
add_end-requires c = free-at c.args.outputs.now c.args.names.now c.args.links.now c.loop-i.i (view_held c.loop-i.share) c.index-links-i.result c.loop-i-test.true c.index-links-i.is c.loop-i.invariant.1

pub loop-i-preserved : goal.loop-i-preserved
loop-i-preserved c =
    rw c.in_ok-add_end.ensures (
      ends-at c.args.outputs.now c.args.names.now c.args.links.now c.loop-i.i (view_held c.loop-i.share) c.index-links-i.result c.loop-i-test.true c.index-links-i.is ∙ c.loop-i.invariant.0,
      stand-at c.args.outputs.now c.args.names.now c.args.links.now c.loop-i.i (view_held c.loop-i.share) c.index-links-i.result c.loop-i-test.true c.index-links-i.is c.loop-i.invariant.1,
    )
