use Rattle.std.proofs.Common.{sym, subst, arith}
use Rattle.campl_order.specs.Boards.{IsFirstFlagged, earlier}
use Rattle.campl_order.proofs.Matches.{first-flagged}
use Rattle.campl_order.proofs.Earlier.{earlier-order}
use Rattle.campl_order.proofs.board.Board.first.Goals as goal

pub returns : goal.returns
returns c names b =
    let s = c.args.self.now in
    subst (IsFirstFlagged (earlier names) s.flags.items) (sym c.entrant.ensures) (first-flagged (earlier names) (earlier-order names) s.flags.items s.winners.items (omega arith) (omega arith) b)
