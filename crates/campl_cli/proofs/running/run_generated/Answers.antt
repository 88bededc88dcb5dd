-- The text is the pipeline's, and the budget is its own.
use Rattle.std.proofs.Common.{List, ℕ, arith, subst}
use Rattle.campl_cli.specs.Source.{IsRefusedFor, IsSourceFault}
use Rattle.campl_cli.proofs.WholeRuns.{runs-generated}
use Rattle.campl_cli.proofs.running.run_generated.Goals as goal

pub returns-in-Err-run_alone : goal.returns-in-Err-run_alone
returns-in-Err-run_alone c = subst (λ (text : List ℕ). IsRefusedFor (IsSourceFault text) c.in-Err-run_alone.refusal) c.in-Ok.ensures c.in-Err-run_alone.ensures

pub returns-in-Ok-headed : goal.returns-in-Ok-headed
returns-in-Ok-headed c =
    runs-generated c.args.stages _ c.in-Ok.text c.in-Ok-run_alone.performance c.in-Ok-headed.performance c.in-Ok.ensures (omega (arith, c.from.ensures)) c.in-Ok-run_alone.ensures c.in-Ok-headed.ensures
