use Rattle.std.proofs.Common.{refl, map, arith, None}
use Rattle.campl_tree.specs.View.{view_decl, view_seq}
use Rattle.campl_types.specs.Known.{each, in_seq}
use Rattle.campl_names.specs.Scope.{heading}
use Rattle.campl_names.proofs.Judged.{loop-stopped}
use Rattle.campl_names.proofs.judge_types.judge_each_seq.Goals as goal

pub returns-in_err-judge_seq : goal.returns-in_err-judge_seq
returns-in_err-judge_seq c =
    loop-stopped (λ q. each (in_seq (map view_decl c.args.world.now) (heading c.args.parameters.now None)) (map view_seq q)) c.args.ts.now c.loop-t.t-index c.t-item.result _ _ _ _ _ c.in_err-judge_seq.ensures c.from_residual.ensures (omega (arith, c.loop-t-test.true)) c.t-item.is c.loop-t.invariant refl
