use Rattle.std.proofs.Common.{refl, map, arith}
use Rattle.campl_tree.specs.View.{view_decl}
use Rattle.campl_types.specs.Known.{each}
use Rattle.campl_names.proofs.Judged.{loop-stopped}
use Rattle.campl_names.proofs.judge_decls.judge_lines.Goals as goal

pub returns-in_err-judge : goal.returns-in_err-judge
returns-in_err-judge g c =
    loop-stopped (each (g.L.ChannelLine.faults (map view_decl c.args.world.now) c.args.parameters.now c.args.own.now)) c.args.lines.now c.loop-line.line-index c.line-item.result _ _ _ _ _ c.in_err-judge.ensures c.from_residual.ensures (omega (arith, c.loop-line-test.true)) c.line-item.is c.loop-line.invariant refl
