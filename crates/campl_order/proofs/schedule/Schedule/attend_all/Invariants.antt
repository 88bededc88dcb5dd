use Rattle.std.proofs.Common.{◌≡◌, ◌+◌, vec_len}
use Rattle.campl_order.specs.Orders.{names_at_start}
use Rattle.campl_order.specs.Waiting.{AreFlagged, IsScheduled}
use Rattle.campl_order.proofs.schedule.Schedule.attend_all.Given as goal

abbrev pub invariant-loop-service : goal.invariant-loop-service
invariant-loop-service l = record {
  ranks : vec_len l.self.order.ranks ≡ l.service + 1;
  flagged : AreFlagged l.self.board.flags.items (l.service + 1);
  scheduled : IsScheduled names_at_start l.self;
  waiting : l.self.waiting.items ≡ l.fn.self.waiting.items;
}
