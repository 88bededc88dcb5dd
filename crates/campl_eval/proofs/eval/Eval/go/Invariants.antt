use Rattle.std.proofs.Common.{◌≡◌, ◌+◌, ◌*◌}
use Rattle.campl_code.specs.Instructions.{blocks}
use Rattle.campl_eval.specs.View.{code_of, seen, seens}
use Rattle.campl_eval.proofs.Kept.{Same}
use Rattle.campl_eval.proofs.Size.{rest, rests, total}
use Rattle.campl_eval.proofs.eval.Eval.go.Given as goal

abbrev pub invariant-left : goal.invariant-left
invariant-left l = record {
  room : l.self.spent + l.left ≡ l.fn.self.spent + l.fn.calls;
  kept : Same (code_of l.program) (seen l.fn.self.machine.frame) (seens l.fn.self.machine.callers) l.fn.calls (seen l.self.machine.frame) (seens l.self.machine.callers) l.left;
}

abbrev pub decreases-left : goal.decreases-left
decreases-left l = l.left * (total (blocks (code_of l.program)) + 1) + (rest (code_of l.program) (seen l.self.machine.frame) + rests (code_of l.program) (seens l.self.machine.callers))
