use Rattle.std.proofs.Common.{◌∙◌, ap₂}
use Rattle.campl_order.specs.Boards.{better, earlier}
use Rattle.campl_order.proofs.board.Board.decide.Goals as goal

pub returns-clause-decided : goal.returns-clause-decided
returns-clause-decided c names r = c.better.ensures.first names r ∙ ap₂ (better (earlier names)) c.entrant.ensures c.entrant-2.ensures
