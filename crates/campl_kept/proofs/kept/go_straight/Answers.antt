use Rattle.std.proofs.Common.{[], sym, subst}
use Rattle.campl_code.specs.Frames.{frame_at}
use Rattle.campl_code_bodies.specs.Kept.{Values}
use Rattle.campl_eval.specs.View.{code_of}
use Rattle.campl_kept.specs.Keeps.{Keeps}
use Rattle.campl_kept.proofs.Commands.{straightly}
use Rattle.campl_kept.proofs.kept.go_straight.Goals as goal

pub returns-in-Ok-Some : goal.returns-in-Ok-Some
returns-in-Ok-Some c =
    subst (λ vs. Keeps (code_of c.args.program.now) (frame_at c.args.block c.args.at c.args.variables.now) [] 0 (Values c.in-Some-checked_add.to c.args.variables.now vs)) (sym c.take_all.ensures.taken)
    (straightly (code_of c.args.program.now) c.args.block c.args.variables.now c.code_from-code.result.now c.args.at c.in-Some.n c.in-Some-checked_add.to c.in-Ok-Some.operands
    c.code_from-code.ensures c.in-Some.ensures.value (rw c.in-Ok-Some.field-0-is at c.in-Ok-Some.ensures) c.in-Some-checked_add.ensures.1)
