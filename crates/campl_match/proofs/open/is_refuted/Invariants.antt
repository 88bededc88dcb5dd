use Rattle.std.proofs.Common.{◌≡◌, drop, map}
use Rattle.campl_code.specs.Compiled.{is_refuted}
use Rattle.campl_match.specs.View.{view_asked, view_asked_at}
use Rattle.campl_match.proofs.open.is_refuted.Given as goal

abbrev pub invariant-loop-test : goal.invariant-loop-test
invariant-loop-test l = is_refuted (view_asked l.asked) (map view_asked_at (drop l.test-index l.tests)) ≡ is_refuted (view_asked l.asked) (map view_asked_at l.tests)
