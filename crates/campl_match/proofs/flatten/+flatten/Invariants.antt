use Rattle.std.proofs.Common.{◌≡◌, drop, map}
use Rattle.campl_tree.specs.View.{view_decl, view_pattern, patterns}
use Rattle.campl_match.specs.Flattened.{with_elements, with_parts}
use Rattle.campl_match.specs.View.{view_flat}
use Rattle.campl_match.proofs.flatten.+flatten.Given as goal

abbrev pub invariant-flatten_parts-loop-i : goal.invariant-flatten_parts-loop-i
invariant-flatten_parts-loop-i l =
    with_parts (map view_decl l.world) l.spot l.i (patterns (map view_pattern (drop l.i l.ps))) (view_flat l.row)
    ≡ with_parts (map view_decl l.world) l.spot 0 (patterns (map view_pattern l.ps)) (view_flat l.initial.row)

abbrev pub invariant-flatten_list-loop-i : goal.invariant-flatten_list-loop-i
invariant-flatten_list-loop-i l =
    with_elements (map view_decl l.world) l.rest (patterns (map view_pattern (drop l.i l.ps))) (view_flat l.row)
    ≡ with_elements (map view_decl l.world) l.spot (patterns (map view_pattern l.ps)) (view_flat l.initial.row)
