use Rattle.std.proofs.Common.{◌≡◌, drop, map}
use Rattle.campl_tree.specs.View.{view_seq, seq_types}
use Rattle.campl_types.specs.Names.{all_among}
use Rattle.campl_types.specs.Substitution.{variables_of_all}
use Rattle.campl_matching.specs.Matching.{bound_names}
use Rattle.campl_names.specs.Filling.{view_filling}
use Rattle.campl_matching.proofs.matching.+known.Given as goal

abbrev pub invariant-are_known-loop-i : goal.invariant-are_known-loop-i
invariant-are_known-loop-i l =
    all_among (variables_of_all (seq_types (map view_seq (drop l.i l.ts)))) (bound_names (view_filling l.filling))
    ≡ all_among (variables_of_all (seq_types (map view_seq l.ts))) (bound_names (view_filling l.filling))
