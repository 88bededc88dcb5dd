use Rattle.std.proofs.Common.{◌≡◌, ℕ, drop}
use Rattle.campl_rules.specs.Found.{Covers, takes}
use Rattle.campl_rules.proofs.Changing.{changed}
use Rattle.campl_rules.proofs.taking.take_each.Given as goal

abbrev pub invariant-loop-place : goal.invariant-loop-place
invariant-loop-place l =
    ((i : ℕ) → changed l.heights.items (drop l.place-index l.places) (takes l.given) i ≡ changed l.initial.heights.items l.places (takes l.given) i)
    × (Covers l.initial.next.items l.initial.heights.items → Covers l.next.items l.heights.items)
