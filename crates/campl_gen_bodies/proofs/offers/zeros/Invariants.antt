use Rattle.std.proofs.Common.{◌≡◌, ◌≤◌, ◌-◌}
use Rattle.campl_code_bodies.specs.BodyCode.{listed}
use Rattle.campl_gen_bodies.specs.Commands.{no_places}
use Rattle.campl_gen_bodies.proofs.offers.zeros.Given as goal

abbrev pub invariant-places : goal.invariant-places
invariant-places l = record {
  places : l.places ≡ listed no_places 0 l.more;
  within : l.more ≤ l.count;
}

abbrev pub decreases-places : goal.decreases-places
decreases-places l = l.count - l.more
