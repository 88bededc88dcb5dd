use Rattle.std.proofs.Common.{◌≡◌, ◌++◌, drop}
use Rattle.campl_code_bodies.specs.BodyCode.{all_numbers}
use Rattle.campl_gen_channels.proofs.channels.Channels.put_numbers.Given as goal

abbrev pub invariant-loop-i : goal.invariant-loop-i
invariant-loop-i l = l.out ++ all_numbers (drop l.i l.names) l.self.numbers.entries ≡ l.initial.out ++ all_numbers l.names l.self.numbers.entries
