use Rattle.std.proofs.Common.{◌≡◌, drop}
use Rattle.campl_types.specs.Patterns.{bound_by_all}
use Rattle.campl_names.specs.Scope.{with_names}
use Rattle.campl_names.proofs.judge_decls.bind_all.Given as goal

abbrev pub invariant-loop-binder : goal.invariant-loop-binder
invariant-loop-binder l = with_names l.scope (bound_by_all (drop l.binder-index l.binders)) ≡ with_names l.initial.scope (bound_by_all l.binders)
