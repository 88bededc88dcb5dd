use Rattle.std.proofs.Common.{◌≡◌}
use Rattle.campl_code.specs.Generated.{conses_code}
use Rattle.campl_gen_exprs.specs.Emission.{appended}
use Rattle.campl_gen_exprs.specs.View.{view_emitter}
use Rattle.campl_gen_exprs.proofs.emitter.Emitter.push_cells.Given as goal

abbrev pub invariant-cells : goal.invariant-cells
invariant-cells l = appended (conses_code l.more l.tail) (view_emitter l.self) ≡ appended (conses_code l.count l.tail) (view_emitter l.initial.self)

abbrev pub decreases-cells : goal.decreases-cells
decreases-cells l = l.more
