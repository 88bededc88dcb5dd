use Rattle.std.proofs.Common.{◌≡◌, ◌++◌, drop, map}
use Rattle.campl_tree.specs.View.{view_decl}
use Rattle.campl_types.specs.Forms.{list_of, part_forms}
use Rattle.campl_code.specs.Compiled.{flat_rows}
use Rattle.campl_match.specs.View.{view_flat}
use Rattle.campl_match.proofs.compile.flat_rows.Given as goal

abbrev pub invariant-loop-i : goal.invariant-loop-i
invariant-loop-i g l =
    map view_flat l.flat ++ flat_rows (map view_decl l.world) l.width l.i (map (λ r. list_of (part_forms (g.R.Row.patterns r))) (drop l.i l.rows))
    ≡ flat_rows (map view_decl l.world) l.width 0 (map (λ r. list_of (part_forms (g.R.Row.patterns r))) l.rows)
