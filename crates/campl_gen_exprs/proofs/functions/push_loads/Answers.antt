use Rattle.std.proofs.Common.{◌∙◌, ◌+◌, ◌-◌, ap, sym}
use Rattle.campl_code.specs.Generated.{loads_code}
use Rattle.campl_gen_exprs.specs.Emission.{appended}
use Rattle.campl_gen_exprs.specs.View.{view_emitter}
use Rattle.campl_gen_exprs.proofs.FunctionCode.{loads-at}
use Rattle.campl_gen_exprs.proofs.functions.push_loads.Goals as goal

pub loads-preserved : goal.loads-preserved
loads-preserved c =
    ap (λ s. appended (loads_code (c.loads.n + 1) (c.in_ok-count.count - (c.loads.n + 1))) s) c.in_ok-push.ensures
    ∙ sym (loads-at (view_emitter c.loads.code) c.loads.n c.in_ok-count.count c.loads-test.true) ∙ c.loads.invariant
