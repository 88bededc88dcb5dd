use Rattle.std.proofs.Common.{◌≡◌, drop, map}
use Rattle.campl_tree.specs.View.{view_pattern, patterns}
use Rattle.campl_types.specs.Patterns.{bound_in_all}
use Rattle.campl_names.specs.Scope.{with_names}
use Rattle.campl_names.proofs.judge_exprs.+bind.Given as goal

abbrev pub invariant-bind_patterns-loop-p : goal.invariant-bind_patterns-loop-p
invariant-bind_patterns-loop-p l =
    with_names l.scope (bound_in_all (patterns (map view_pattern (drop l.p-index l.ps)))) ≡ with_names l.initial.scope (bound_in_all (patterns (map view_pattern l.ps)))
