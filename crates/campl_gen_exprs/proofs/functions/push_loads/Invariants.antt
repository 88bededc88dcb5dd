use Rattle.std.proofs.Common.{◌≡◌, ◌-◌}
use Rattle.campl_code.specs.Generated.{loads_code}
use Rattle.campl_gen_exprs.specs.Emission.{appended}
use Rattle.campl_gen_exprs.specs.View.{view_emitter}
use Rattle.campl_gen_exprs.proofs.functions.push_loads.Given as goal

abbrev pub invariant-loads : goal.invariant-loads
invariant-loads l = appended (loads_code l.n (l.count - l.n)) (view_emitter l.code) ≡ appended (loads_code 0 l.count) (view_emitter l.initial.code)

abbrev pub decreases-loads : goal.decreases-loads
decreases-loads l = l.count - l.n
