use Rattle.std.proofs.Common.{◌≡◌, [], drop}
use Rattle.campl_names.specs.Scope.{with_names}
use Rattle.campl_types.specs.World.{names_of}
use Rattle.campl_names.proofs.judge_decls.parameter_set.Given as goal

abbrev pub invariant-loop-parameter : goal.invariant-loop-parameter
invariant-loop-parameter l = with_names l.set (names_of (drop l.parameter-index l.parameters)) ≡ with_names [] (names_of l.parameters)
