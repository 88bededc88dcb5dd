use Rattle.campl_lex.proofs.Whole.{one}
use Rattle.campl_lex.proofs.lexer.one_answer.Goals as goal

pub returns : goal.returns
returns c = λ text x y a b. one a b
