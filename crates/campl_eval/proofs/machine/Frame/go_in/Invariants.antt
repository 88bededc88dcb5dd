use Rattle.std.proofs.Common.{◌-◌, ◌^◌}
use Rattle.campl_instructions.specs.View.{view_block}
use Rattle.campl_eval.specs.Leaps.{Within}
use Rattle.campl_eval.specs.View.{seen}
use Rattle.campl_eval.proofs.machine.Frame.go_in.Given as goal

abbrev pub invariant-loop-error : goal.invariant-loop-error
invariant-loop-error l = Within (view_block l.block) (seen l.fn.self) (seen l.self)

abbrev pub decreases-loop-error : goal.decreases-loop-error
decreases-loop-error l = 2 ^ 64 - l.self.at
