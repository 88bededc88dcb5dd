use Rattle.std.proofs.Common.{◌≡◌, ℕ, ◌<◌, true}
use Rattle.std.specs.List.{Contains}
use Rattle.campl_code.specs.Rules.{height_at}
use Rattle.campl_rules.specs.Found.{is_new}
use Rattle.campl_rules.proofs.heights.new_places.Given as goal

abbrev pub invariant-loop-at : goal.invariant-loop-at
invariant-loop-at l =
    (i : ℕ) → i < l.at → is_new (height_at l.heights i) ≡ true → Contains l.places.items i
