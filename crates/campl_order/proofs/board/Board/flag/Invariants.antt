use Rattle.std.proofs.Common.{ℕ, ◌≡◌, ◌<◌, ◌*◌, ◌/◌, set, vec_len}
use Rattle.campl_machine.specs.Names.{Who}
use Rattle.campl_order.specs.Orders.{Ranked}
use Rattle.campl_order.specs.Boards.{AllBut, IsBoard, Within, earlier}
use Rattle.campl_order.proofs.board.Board.flag.Given as goal

abbrev pub invariant-up : goal.invariant-up
invariant-up l = record {
  flags : l.self.flags.items ≡ set l.fn.self.flags.items l.process l.ready;
  same : vec_len l.self.winners ≡ vec_len l.fn.self.winners;
  small : l.place < 2 * vec_len l.self.winners;
  fits : Within (vec_len l.order.ranks) l.self.flags.items l.self.winners.items;
  board : (names : ℕ → Who) → Ranked names l.order.ranks.items → IsBoard (earlier names) l.fn.self.flags.items l.fn.self.winners.items → AllBut (earlier names) l.self.flags.items l.self.winners.items (l.place / 2);
}

abbrev pub decreases-up : goal.decreases-up
decreases-up l = l.place
