use Rattle.std.proofs.Common.{◌≡◌, ◌++◌, drop, map}
use Rattle.campl_tree.specs.View.{view_seq, seq_types}
use Rattle.campl_shown.specs.Types.{more_arguments}
use Rattle.campl_shown.proofs.types.+types.Given as goal

abbrev pub invariant-push_arguments-loop-t : goal.invariant-push_arguments-loop-t
invariant-push_arguments-loop-t g l =
    l.text ++ more_arguments (g.V.Variables.spelling l.variables) (seq_types (map view_seq (drop l.t-index l.more)))
    ≡ l.initial.text ++ more_arguments (g.V.Variables.spelling l.variables) (seq_types (map view_seq l.more))
