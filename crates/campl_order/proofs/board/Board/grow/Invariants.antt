use Rattle.std.proofs.Common.{◌≡◌, ◌*◌, ◌&&◌, nat_lt, ℕ, vec_len}
use Rattle.campl_machine.specs.Names.{Who}
use Rattle.campl_order.specs.Orders.{Ranked}
use Rattle.campl_order.specs.Boards.{IsBoard, Within, is_flagged, earlier}
use Rattle.campl_order.proofs.board.Board.grow.Given as goal

abbrev pub invariant-loop-i : goal.invariant-loop-i
invariant-loop-i l = record {
  sized : vec_len l.next.flags ≡ 2 * l.size;
  flags : (k : ℕ) → is_flagged l.next.flags.items k ≡ nat_lt k l.i && is_flagged l.self.flags.items k;
  fits : Within (vec_len l.order.ranks) l.next.flags.items l.next.winners.items;
  board : (names : ℕ → Who) → Ranked names l.order.ranks.items → IsBoard (earlier names) l.next.flags.items l.next.winners.items;
}
