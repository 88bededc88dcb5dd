use Rattle.std.proofs.Common.{◌≡◌, ℕ, drop}
use Rattle.campl_rules.specs.Given.{gives}
use Rattle.campl_rules.proofs.Giving.{later}
use Rattle.campl_rules.proofs.handing.hand_each.Given as goal

abbrev pub invariant-loop-to : goal.invariant-loop-to
invariant-loop-to l =
    (to : ℕ) → later l.given.items (gives (drop l.to-index l.places) l.height) to ≡ later l.initial.given.items (gives l.places l.height) to
