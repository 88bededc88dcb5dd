use Rattle.std.proofs.Common.{◌≡◌, drop}
use Rattle.campl_cells.specs.Wants.{are_set}
use Rattle.campl_parts.specs.Views.{held_of}
use Rattle.campl_parts.specs.Wanted.{block_of}
use Rattle.campl_parts.proofs.wanting.Ready.are_set.Given as goal

abbrev pub invariant-loop-to : goal.invariant-loop-to
invariant-loop-to l = are_set (block_of l.self) (held_of l.self.running.now).ends (drop l.to-index l.targets) ≡ are_set (block_of l.self) (held_of l.self.running.now).ends l.targets
