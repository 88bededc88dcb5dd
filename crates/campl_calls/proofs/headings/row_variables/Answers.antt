use Rattle.std.proofs.Common.{◌∙◌, ◌++◌, ◌+◌, sym, ap, map, drop, arith}
use Rattle.campl_tree.specs.View.{view_seq}
use Rattle.campl_types.specs.Linear.{row_variables}
use Rattle.campl_vars.specs.Variables.{view_vars}
use Rattle.campl_calls.proofs.Entered.{bound-more, bound-end}
use Rattle.campl_calls.proofs.headings.row_variables.Goals as goal

pub loop-i-preserved : goal.loop-i-preserved
loop-i-preserved c =
    ap (λ vs. row_variables (drop (c.loop-i.i + 1) c.args.binders.now) (map view_seq (drop (c.loop-i.i + 1) c.args.types.now)) ++ vs) c.in_ok-bind.ensures.bound
    ∙ bound-more c.args.binders.now c.args.types.now c.loop-i.i c.index-binders-i.result c.index-types-i.result (view_vars c.loop-i.vars) (omega (arith, c.loop-i-test.true)) c.index-binders-i.is c.index-types-i.is
    ∙ c.loop-i.invariant

pub returns : goal.returns
returns c = sym (bound-end c.args.binders.now c.args.types.now c.loop-i.i (view_vars c.loop-i.vars) (omega (arith, c.loop-i-test.false))) ∙ c.loop-i.invariant
