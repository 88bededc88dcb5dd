use Rattle.std.proofs.Common.{◌∙◌, sym, map, arith}
use Rattle.campl_tree.specs.View.{view_decl}
use Rattle.campl_vars.specs.Variables.{view_vars}
use Rattle.campl_seqcheck.proofs.Answered.{loop-went}
use Rattle.campl_calls.proofs.Turns.{seq-stopped}
use Rattle.campl_calls.proofs.Values.{values-at, values-end}
use Rattle.campl_calls.proofs.calling.values_fit.Goals as goal

pub loop-i-preserved : goal.loop-i-preserved
loop-i-preserved c =
    record {
      told = loop-went _ _ _ _ _ (rw c.loop-i.invariant.kept at c.in-Ok.ensures.judged)
          (values-at (map view_decl c.args.world.now) (view_vars c.args.vars.now) c.args.types.now c.args.values.now c.loop-i.i c.index-values-i.result c.index-types-i.result (omega (arith, c.loop-i-test.true)) c.index-values-i.is c.index-types-i.is)
          c.loop-i.invariant.told;
      kept = c.in-Ok.ensures.kept ∙ c.loop-i.invariant.kept;
    }

pub returns-in-Err-clause-judged : goal.returns-in-Err-clause-judged
returns-in-Err-clause-judged c =
    seq-stopped _ _ _ _ _ (rw c.loop-i.invariant.kept at c.in-Err.ensures.judged)
    (values-at (map view_decl c.args.world.now) (view_vars c.args.vars.now) c.args.types.now c.args.values.now c.loop-i.i c.index-values-i.result c.index-types-i.result (omega (arith, c.loop-i-test.true)) c.index-values-i.is c.index-types-i.is)
    c.loop-i.invariant.told

pub returns-clause-judged : goal.returns-clause-judged
returns-clause-judged c =
    sym c.loop-i.invariant.told ∙ values-end (map view_decl c.args.world.now) (view_vars c.args.vars.now) c.args.types.now c.args.values.now c.loop-i.i (omega (arith, c.loop-i-test.false))
