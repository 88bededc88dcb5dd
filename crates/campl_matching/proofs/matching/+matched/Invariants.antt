use Rattle.std.proofs.Common.{◌≡◌, drop, length, map, take}
use Rattle.campl_tree.specs.View.{view_seq, seq_types}
use Rattle.campl_matching.specs.Matching.{all_matched}
use Rattle.campl_names.specs.Filling.{view_filling}
use Rattle.campl_matching.proofs.matching.+matched.Given as goal

abbrev pub invariant-match_types-loop-i : goal.invariant-match_types-loop-i
invariant-match_types-loop-i l =
    (all_matched (view_filling l.filling) (seq_types (map view_seq (drop l.i l.declared))) (seq_types (map view_seq (drop l.i l.ts)))
    ≡ all_matched (view_filling l.initial.filling) (seq_types (map view_seq l.declared)) (seq_types (map view_seq l.ts)))
    × (take (length l.initial.filling) l.filling ≡ l.initial.filling)
