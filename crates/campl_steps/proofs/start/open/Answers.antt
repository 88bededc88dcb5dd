use Rattle.std.proofs.Common.{arith}
use Rattle.campl_parts.specs.Tables.{tips}
use Rattle.campl_steps.proofs.Starting.{open_more}
use Rattle.campl_steps.proofs.start.open.Goals as goal

pub loop-preserved : goal.loop-preserved
loop-preserved c =
    let (l, r, t) = c.loop.invariant in (
      omega (arith, c.channel.ensures.len, l),
      omega (arith, c.channel.ensures.capacity, r),
      open_more c.args.count c.loop.counter (tips c.loop.ends.items) (tips c.channel.new.ends.items) _ c.loop-test.true (c.channel.ensures.born c.loop.counter l) t,
    )
