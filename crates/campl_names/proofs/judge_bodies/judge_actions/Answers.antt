use Rattle.std.proofs.Common.{refl, map, arith}
use Rattle.campl_tree.specs.View.{view_decl, view_action}
use Rattle.campl_names.specs.Scope.{in_actions}
use Rattle.campl_names.proofs.Judged.{loop-stopped}
use Rattle.campl_names.proofs.judge_bodies.judge_actions.Goals as goal

pub returns-in_err-judge_action-clause-judged : goal.returns-in_err-judge_action-clause-judged
returns-in_err-judge_action-clause-judged c =
    loop-stopped (λ q. in_actions (map view_decl c.args.world.now) c.loop-action.scope (map view_action q)) c.args.actions.now c.loop-action.action-index c.action-item.result _ _ _ _ _ c.in_err-judge_action.ensures.judged c.from_residual.ensures (omega (arith, c.loop-action-test.true)) c.action-item.is c.loop-action.invariant.0 refl
