use Rattle.std.proofs.Common.{◌≡◌, drop, map}
use Rattle.campl_tree.specs.View.{view_pattern, patterns, view_decl}
use Rattle.campl_types.specs.Known.{in_patterns}
use Rattle.campl_names.proofs.judge_exprs.+pattern.Given as goal

abbrev pub invariant-judge_patterns-loop-p : goal.invariant-judge_patterns-loop-p
invariant-judge_patterns-loop-p l =
    in_patterns (map view_decl l.world) (patterns (map view_pattern (drop l.p-index l.ps))) ≡ in_patterns (map view_decl l.world) (patterns (map view_pattern l.ps))
