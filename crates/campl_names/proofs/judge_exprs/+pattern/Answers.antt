use Rattle.std.proofs.Common.{refl, map, arith}
use Rattle.campl_tree.specs.View.{view_decl, view_pattern, patterns}
use Rattle.campl_types.specs.Known.{in_patterns}
use Rattle.campl_names.proofs.Judged.{loop-stopped}
use Rattle.campl_names.proofs.judge_exprs.+pattern.Goals as goal

pub judge_patterns-returns-in_err-judge_pattern : goal.judge_patterns-returns-in_err-judge_pattern
judge_patterns-returns-in_err-judge_pattern t c =
    loop-stopped (λ q. in_patterns (map view_decl c.args.world.now) (patterns (map view_pattern q))) c.args.ps.now c.loop-p.p-index c.p-item.result _ _ _ _ _ c.in_err-judge_pattern.ensures c.from_residual.ensures (omega (arith, c.loop-p-test.true)) c.p-item.is c.loop-p.invariant refl
