use Rattle.std.proofs.Common.{◌≡◌, ◌≤◌, drop, length}
use Rattle.campl_code_bodies.specs.BodyCode.{listed}
use Rattle.campl_gen_bodies.specs.Commands.{start_at, count_numbers}
use Rattle.campl_gen_bodies.proofs.offers.offer_places.Given as goal

abbrev pub invariant-rows : goal.invariant-rows
invariant-rows l = record {
  places : l.places ≡ listed (start_at (drop l.more l.numbers) (drop l.more l.starts)) 0 (count_numbers l.numbers);
  within : l.more ≤ length l.numbers;
}

abbrev pub decreases-rows : goal.decreases-rows
decreases-rows l = l.more
