use Rattle.step_cases.proofs.Running.{goes-on}
use Rattle.step_cases.proofs.turns.turn.Goals as goal

pub returns : goal.returns
returns c =
    let (source, n, conf, run) = c.requires in
    goes-on c.args.program.now source n conf c.args.solo.now c.step.new.self c.args.journal.now.entries c.step.new.journal.entries c.step.result (c.step.ensures source n conf run)
