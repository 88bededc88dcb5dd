use Rattle.std.proofs.Common.{◌≡◌, true, Some, drop}
use Rattle.campl_rules.specs.Found.{set_all}
use Rattle.campl_rules.proofs.heights.begin_all.Given as goal

abbrev pub invariant-loop-to : goal.invariant-loop-to
invariant-loop-to l =
    set_all (drop l.to-index l.places) (Some (0, true)) l.heights.items ≡ set_all l.places (Some (0, true)) l.initial.heights.items
