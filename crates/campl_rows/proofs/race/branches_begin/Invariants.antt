use Rattle.std.proofs.Common.{◌≡◌, [], map, drop}
use Rattle.campl_tree.specs.View.{view_branch, branches, view_decl}
use Rattle.campl_linear.specs.Rows.{branches_begin}
use Rattle.campl_held.specs.Slots.{view_held}
use Rattle.campl_rows.proofs.race.branches_begin.Given as goal

abbrev pub invariant-loop-i : goal.invariant-loop-i
invariant-loop-i l =
    branches_begin (map view_decl l.world) (view_held l.held) l.before (branches (map view_branch (drop l.i l.rows)))
    ≡ branches_begin (map view_decl l.world) (view_held l.held) [] (branches (map view_branch l.rows))
