use Rattle.campl_lex.proofs.Bounds.{piece_moves, piece_within}
use Rattle.campl_lex.proofs.piece.first_piece.Goals as goal

pub returns-clause-moves : goal.returns-clause-moves
returns-clause-moves c = piece_moves c.args.place c.args.text.now c.classified.result c.classified.ensures

pub returns-clause-within : goal.returns-clause-within
returns-clause-within c = piece_within c.args.place c.args.text.now c.classified.result c.classified.ensures
