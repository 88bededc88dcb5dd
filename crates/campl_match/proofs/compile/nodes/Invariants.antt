use Rattle.std.proofs.Common.{◌≡◌, ◌∷◌, [], map}
use Rattle.campl_match.specs.Growing.{finish, seen, tree, trees, work}
use Rattle.campl_match.specs.View.{view_flat}
use Rattle.campl_match.proofs.compile.nodes.Given as goal

abbrev pub invariant-tasks : goal.invariant-tasks
invariant-tasks l = finish (seen l.tasks) (trees l.grown) ≡ tree (map view_flat l.rows) ∷ []

abbrev pub decreases-tasks : goal.decreases-tasks
decreases-tasks l = work (seen l.tasks)
