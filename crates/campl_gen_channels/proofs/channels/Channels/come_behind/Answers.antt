use Rattle.std.proofs.Common.{◌++◌, ◌+◌, ◌∙◌, ap, drop, length, arith}
use Rattle.campl_code_bodies.specs.Bodies.{channel_numbers}
use Rattle.campl_gen_channels.specs.Numbers.{NumbersAlike}
use Rattle.campl_gen_channels.proofs.Alike.{alike-on}
use Rattle.campl_gen_channels.proofs.Maps.{come-at, one-fewer}
use Rattle.campl_gen_channels.proofs.channels.Channels.come_behind.Goals as goal

pub loop-i-preserved : goal.loop-i-preserved
loop-i-preserved c =
    record {
      came = alike-on _ _ _ (rw c.in_ok-next.ensures (come-at c.loop-i.self.numbers.entries c.put_behind.new.numbers.entries c.loop-i.self.next c.args.names.now c.loop-i.i c.index-names-i.result c.loop-i-test.true c.index-names-i.is c.in_ok-put_behind.ensures)) c.loop-i.invariant.came;
      next = let h = one-fewer c.args.names.now c.loop-i.i c.index-names-i.result c.loop-i-test.true c.index-names-i.is in omega (arith, h, c.in_ok-next.ensures, c.loop-i.invariant.next);
    }
