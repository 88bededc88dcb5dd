use Rattle.std.proofs.Common.{◌≡◌, ◌++◌, drop}
use Rattle.campl_peel.specs.Terms.{those}
use Rattle.campl_gen_channels.specs.Numbers.{NumbersAlike}
use Rattle.campl_gen_channels.specs.View.{is_kept}
use Rattle.campl_gen_channels.proofs.channels.Channels.those.Given as goal

abbrev pub invariant-loop-i : goal.invariant-loop-i
invariant-loop-i l = NumbersAlike (l.numbers.entries ++ those (is_kept l.keep l.names) (drop l.i l.self.numbers.entries)) (those (is_kept l.keep l.names) l.self.numbers.entries)
