use Rattle.std.proofs.Common.{◌≡◌, drop, map}
use Rattle.campl_tree.specs.View.{view_pattern, patterns}
use Rattle.campl_gen_exprs.specs.Emission.{binding_all}
use Rattle.campl_gen_exprs.specs.View.{view_emitter}
use Rattle.campl_gen_exprs.proofs.binding.+bind.Given as goal

abbrev pub invariant-bind_patterns-loop-i : goal.invariant-bind_patterns-loop-i
invariant-bind_patterns-loop-i l =
    binding_all (patterns (map view_pattern (drop l.i l.ps))) (view_emitter l.code) ≡ binding_all (patterns (map view_pattern l.ps)) (view_emitter l.initial.code)
