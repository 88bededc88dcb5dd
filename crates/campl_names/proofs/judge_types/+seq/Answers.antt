use Rattle.std.proofs.Common.{refl, map, arith}
use Rattle.std.specs.Option.{option_copied}
use Rattle.campl_tree.specs.View.{view_decl, view_seq, seq_types}
use Rattle.campl_types.specs.Known.{in_seqs}
use Rattle.campl_names.specs.Scope.{heading}
use Rattle.campl_names.proofs.Judged.{loop-stopped}
use Rattle.campl_names.proofs.judge_types.+seq.Goals as goal

pub judge_seqs-returns-in_err-judge_seq : goal.judge_seqs-returns-in_err-judge_seq
judge_seqs-returns-in_err-judge_seq t c =
    loop-stopped (λ q. in_seqs (map view_decl c.args.world.now) (heading c.args.parameters.now (option_copied c.args.local)) (seq_types (map view_seq q))) c.args.ts.now c.loop-t.t-index c.t-item.result _ _ _ _ _ c.in_err-judge_seq.ensures c.from_residual.ensures (omega (arith, c.loop-t-test.true)) c.t-item.is c.loop-t.invariant refl
