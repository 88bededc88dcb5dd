use Rattle.std.proofs.Common.{◌≡◌, drop, map}
use Rattle.campl_tree.specs.View.{view_seq, seq_types}
use Rattle.campl_names.specs.Scope.{with_names}
use Rattle.campl_types.specs.Substitution.{variables_of_all}
use Rattle.campl_names.proofs.judge_decls.+variables.Given as goal

abbrev pub invariant-add_all_variables-loop-t : goal.invariant-add_all_variables-loop-t
invariant-add_all_variables-loop-t l =
    with_names l.set (variables_of_all (seq_types (map view_seq (drop l.t-index l.ts)))) ≡ with_names l.initial.set (variables_of_all (seq_types (map view_seq l.ts)))
