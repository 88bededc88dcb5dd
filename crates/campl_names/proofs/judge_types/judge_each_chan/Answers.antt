use Rattle.std.proofs.Common.{refl, map, arith, None}
use Rattle.campl_tree.specs.View.{view_decl, view_chan}
use Rattle.campl_types.specs.Known.{each, in_chan}
use Rattle.campl_names.specs.Scope.{heading}
use Rattle.campl_names.proofs.Judged.{loop-stopped}
use Rattle.campl_names.proofs.judge_types.judge_each_chan.Goals as goal

pub returns-in_err-judge_chan : goal.returns-in_err-judge_chan
returns-in_err-judge_chan c =
    loop-stopped (λ q. each (in_chan (map view_decl c.args.world.now) (heading c.args.parameters.now None)) (map view_chan q)) c.args.ts.now c.loop-t.t-index c.t-item.result _ _ _ _ _ c.in_err-judge_chan.ensures c.from_residual.ensures (omega (arith, c.loop-t-test.true)) c.t-item.is c.loop-t.invariant refl
