use Rattle.std.proofs.Common.{◌≡◌, ℕ, drop}
use Rattle.campl_rules.specs.Given.{fits_there}
use Rattle.campl_rules.proofs.Agreeing.{agreed}
use Rattle.campl_rules.proofs.agreement.compare_each.Given as goal

abbrev pub invariant-loop-to : goal.invariant-loop-to
invariant-loop-to l =
    (to : ℕ) → agreed l.agrees.items (fits_there (drop l.to-index l.places) l.height l.heights) to ≡ agreed l.initial.agrees.items (fits_there l.places l.height l.heights) to
