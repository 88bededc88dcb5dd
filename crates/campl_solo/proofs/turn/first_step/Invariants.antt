use Rattle.std.proofs.Common.{◌<◌, ℕ}
use Rattle.campl_cells.specs.Steps.{IsStill}
use Rattle.campl_eval.specs.View.{code_of}
use Rattle.campl_steps.specs.Configs.{IsSame, drawn, parts}
use Rattle.campl_solo.proofs.turn.first_step.Given as goal

abbrev pub invariant-loop-branch : goal.invariant-loop-branch
invariant-loop-branch l = record {
  same : IsSame l.fn.config l.config;
  still : (i : ℕ) → i < l.branch → IsStill (code_of l.fn.program) (drawn l.fn.config) (parts l.fn.config) l.fn.number i;
}
