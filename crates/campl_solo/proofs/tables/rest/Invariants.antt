use Rattle.std.proofs.Common.{◌≡◌, ℕ, false, set}
use Rattle.campl_machine.specs.Names.{Who}
use Rattle.campl_eval.specs.View.{code_of}
use Rattle.campl_order.specs.Waiting.{IsScheduled}
use Rattle.campl_steps.specs.Configs.{parts}
use Rattle.campl_solo.specs.Fits.{HasWaited}
use Rattle.campl_solo.proofs.tables.rest.Given as goal

abbrev pub invariant-loop-branch : goal.invariant-loop-branch
invariant-loop-branch l = record {
  flags : l.schedule.board.flags.items ≡ set l.fn.schedule.board.flags.items l.fn.number false;
  order : l.schedule.order ≡ l.fn.schedule.order;
  scheduled : (names : ℕ → Who) → IsScheduled names l.fn.schedule → IsScheduled names l.schedule;
  waited : HasWaited (code_of l.fn.program) (parts l.fn.config) l.fn.number l.branch l.fn.schedule.waiting.items l.schedule.waiting.items;
}
