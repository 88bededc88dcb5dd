use Rattle.std.proofs.Common.{◌≡◌, ◌++◌, drop, map}
use Rattle.campl_code.specs.Compiled.{settled}
use Rattle.campl_match.specs.View.{view_asked, view_asked_at}
use Rattle.campl_match.proofs.open.unsettled.Given as goal

abbrev pub invariant-loop-test : goal.invariant-loop-test
invariant-loop-test l = map view_asked_at l.left ++ settled (view_asked l.asked) (map view_asked_at (drop l.test-index l.tests)) ≡ settled (view_asked l.asked) (map view_asked_at l.tests)
