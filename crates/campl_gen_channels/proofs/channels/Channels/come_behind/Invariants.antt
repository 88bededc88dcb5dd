use Rattle.std.proofs.Common.{◌≡◌, ◌++◌, ◌+◌, drop, length}
use Rattle.campl_code_bodies.specs.Bodies.{channel_numbers}
use Rattle.campl_gen_channels.specs.Numbers.{NumbersAlike}
use Rattle.campl_gen_channels.proofs.channels.Channels.come_behind.Given as goal

abbrev pub invariant-loop-i : goal.invariant-loop-i
invariant-loop-i l = record {
  came : NumbersAlike (l.self.numbers.entries ++ channel_numbers l.self.next (drop l.i l.names)) (l.initial.self.numbers.entries ++ channel_numbers l.initial.self.next l.names);
  next : l.self.next + length (drop l.i l.names) ≡ l.initial.self.next + length l.names;
}
