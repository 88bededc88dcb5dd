use Rattle.std.proofs.Common.{◌+◌, ◌++◌, reverse, take}
use Rattle.campl_instructions.specs.View.{view_block}
use Rattle.campl_eval.specs.Leaps.{Within}
use Rattle.campl_eval.specs.View.{seen}
use Rattle.campl_eval.proofs.machine.Frame.loads.Given as goal

abbrev pub invariant-loop-i : goal.invariant-loop-i
invariant-loop-i l = Within (view_block l.block) (seen l.self) (record { block = l.self.block; at = l.self.at + l.i; vars = l.self.variables; stack = reverse (take l.i l.self.variables) ++ l.self.operands })
