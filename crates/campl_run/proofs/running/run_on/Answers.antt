use Rattle.std.proofs.lemmas.Result.{IfOk-weaker}
use Rattle.campl_meaning.specs.Start.{start}
use Rattle.campl_types.specs.World.{world_of}
use Rattle.campl_cells.specs.Starts.{start_naming}
use Rattle.campl_eval.specs.View.{code_of}
use Rattle.campl_run.specs.Endings.{IsToldOf}
use Rattle.campl_run.specs.Runs.{IsRunThrough}
use Rattle.campl_run.proofs.Telling.{run-through}
use Rattle.campl_run.proofs.running.run_on.Goals as goal

pub returns-in-Ok : goal.returns-in-Ok
returns-in-Ok c = λ source scripts at named.
    IfOk-weaker c.tell.result (IsToldOf c.in-Ok.stop c.run-stopped.new.self.config c.run-stopped.new.journal.entries c.args.names.now) (IsRunThrough source scripts c.args.budget)
    (λ ran tells. run-through source scripts c.args.budget (code_of c.args.program) c.args.names.now c.args.solo.now c.run-stopped.new.self c.new-journal.result.entries c.run-stopped.new.journal.entries c.in-Ok.stop ran
    at named c.new-journal.ensures (c.in-Ok.ensures source start_naming (start (world_of source) scripts) at.run) tells)
    c.tell.ensures
