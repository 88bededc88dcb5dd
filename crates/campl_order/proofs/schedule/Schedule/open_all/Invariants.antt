use Rattle.std.proofs.Common.{◌≡◌, ◌+◌, ◌*◌, ℕ, vec_len}
use Rattle.campl_machine.specs.Names.{Who}
use Rattle.campl_order.specs.Waiting.{IsScheduled}
use Rattle.campl_order.proofs.schedule.Schedule.open_all.Given as goal

abbrev pub invariant-loop-opened : goal.invariant-loop-opened
invariant-loop-opened l = record {
  waiting : vec_len l.self.waiting ≡ vec_len l.fn.self.waiting + 2 * l._opened;
  order : l.self.order ≡ l.fn.self.order;
  board : l.self.board ≡ l.fn.self.board;
  scheduled : (names : ℕ → Who) → IsScheduled names l.fn.self → IsScheduled names l.self;
}
