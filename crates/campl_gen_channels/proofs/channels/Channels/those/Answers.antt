use Rattle.campl_gen_channels.specs.View.{is_kept}
use Rattle.campl_gen_channels.proofs.Alike.{alike-on}
use Rattle.campl_gen_channels.proofs.Maps.{those-at}
use Rattle.campl_gen_channels.proofs.channels.Channels.those.Goals as goal

pub loop-i-preserved : goal.loop-i-preserved
loop-i-preserved c =
    alike-on _ _ _ (those-at (is_kept c.args.keep c.args.names.now) c.args.self.now.numbers.entries c.loop-i.numbers.entries c.keep_entry.new.out.entries c.loop-i.i c.in_ok-keep_entry.ensures) c.loop-i.invariant
