use Rattle.std.proofs.Common.{ap, ◌∙◌, arith}
use Rattle.campl_cells.specs.Parts.{near}
use Rattle.campl_cells.specs.Starts.{first_ends}
use Rattle.campl_cells.specs.Wants.{set_end}
use Rattle.campl_steps.proofs.Starting.{first_more}
use Rattle.campl_steps.proofs.start.near_ends.Goals as goal

pub loop-channel-preserved : goal.loop-channel-preserved
loop-channel-preserved c =
    let n = c.loop-channel.channel in
    c.in_ok-set.ensures ∙ ap (set_end n (near n)) c.loop-channel.invariant ∙ first_more n ∙ ap first_ends (omega arith)
