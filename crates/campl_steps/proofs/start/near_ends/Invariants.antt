use Rattle.std.proofs.Common.{◌≡◌}
use Rattle.campl_cells.specs.Starts.{first_ends}
use Rattle.campl_parts.specs.Ends.{ends_of}
use Rattle.campl_steps.proofs.start.near_ends.Given as goal

abbrev pub invariant-loop-channel : goal.invariant-loop-channel
invariant-loop-channel l = ends_of l.ends ≡ first_ends l.channel
