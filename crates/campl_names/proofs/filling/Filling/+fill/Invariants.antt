use Rattle.std.proofs.Common.{◌≡◌, map, take}
use Rattle.campl_tree.specs.View.{view_seq}
use Rattle.campl_names.specs.Filling.{view_filling}
use Rattle.campl_types.specs.Substitution.{filled}
use Rattle.campl_names.proofs.filling.Filling.+fill.Given as goal

abbrev pub invariant-filled_all-loop-t : goal.invariant-filled_all-loop-t
invariant-filled_all-loop-t l =
    map view_seq l.filled ≡ map (filled (view_filling l.self)) (map view_seq (take l.t-index l.ts))
