use Rattle.std.proofs.Common.{◌≡◌, ◌+◌, ◌*◌, ◌++◌, map, drop}
use Rattle.campl_tree.specs.View.{view_seq, view_decl}
use Rattle.campl_types.specs.Missing.{opened_rows, parts_of, missing, first_missing}
use Rattle.campl_missing.specs.View.{view_rows, view_head, view_heads}
use Rattle.campl_missing.proofs.Depths.{depth, depth_behind, deepest}
use Rattle.campl_missing.proofs.search.+missing.Given as goal

abbrev pub decreases-missing : goal.decreases-missing
decreases-missing l = 3 * depth (map view_decl l.world.now) (view_rows l.rows.now) (map view_seq l.types.now)

abbrev pub decreases-missing_behind : goal.decreases-missing_behind
decreases-missing_behind l = 3 * depth_behind (map view_decl l.world.now) (view_rows l.rows.now) (map view_seq l.others.now) (view_head l.head.now) + 1

abbrev pub decreases-first_missing : goal.decreases-first_missing
decreases-first_missing l = 3 * deepest (map view_decl l.world.now) (view_rows l.rows.now) (map view_seq l.others.now) (view_heads l.heads.now) + 2

abbrev pub invariant-first_missing-loop-head : goal.invariant-first_missing-loop-head
invariant-first_missing-loop-head l =
    first_missing (λ h. missing (map view_decl l.world) (opened_rows h (view_rows l.rows)) (parts_of h ++ map view_seq l.others)) (view_heads (drop l.head-index l.heads))
    ≡ first_missing (λ h. missing (map view_decl l.world) (opened_rows h (view_rows l.rows)) (parts_of h ++ map view_seq l.others)) (view_heads l.heads)
