use Rattle.std.proofs.Common.{◌≡◌, ℕ, drop}
use Rattle.campl_rules.specs.Found.{settles}
use Rattle.campl_rules.proofs.Changing.{changed}
use Rattle.campl_rules.proofs.taking.settle_all.Given as goal

abbrev pub invariant-loop-place : goal.invariant-loop-place
invariant-loop-place l =
    (i : ℕ) → changed l.heights.items (drop l.place-index l.places) settles i ≡ changed l.initial.heights.items l.places settles i
