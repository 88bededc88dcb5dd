use Rattle.std.proofs.Common.{◌≡◌, ◌≤◌, drop, length}
use Rattle.campl_gen_bodies.specs.Commands.{count_numbers}
use Rattle.campl_gen_bodies.proofs.offers.count.Given as goal

abbrev pub invariant-rows : goal.invariant-rows
invariant-rows l = record {
  count : l.count ≡ count_numbers (drop l.more l.numbers);
  within : l.more ≤ length l.numbers;
}

abbrev pub decreases-rows : goal.decreases-rows
decreases-rows l = l.more
