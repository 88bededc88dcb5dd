use Rattle.std.proofs.Common.{◌≡◌, [], drop, map}
use Rattle.campl_tree.specs.View.{view_part, parts}
use Rattle.campl_names.specs.Scope.{with_names}
use Rattle.campl_plug_heads.specs.Heads.{all_names}
use Rattle.campl_plug_heads.proofs.sets.all_names.Given as goal

abbrev pub invariant-loop-i : goal.invariant-loop-i
invariant-loop-i l = with_names l.set (all_names (parts (map view_part (drop l.i l.parts)))) ≡ with_names [] (all_names (parts (map view_part l.parts)))
