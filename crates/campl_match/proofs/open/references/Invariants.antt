use Rattle.std.proofs.Common.{◌≡◌, map, take}
use Rattle.campl_match.specs.View.{view_asked, view_asked_at}
use Rattle.campl_match.proofs.open.references.Given as goal

abbrev pub invariant-loop-test : goal.invariant-loop-test
invariant-loop-test l = map view_asked_at l.references ≡ map view_asked (take l.test-index l.tests)
