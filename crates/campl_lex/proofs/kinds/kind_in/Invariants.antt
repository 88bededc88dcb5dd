use Rattle.std.proofs.Common.{◌≡◌, drop}
use Rattle.campl_lex.specs.Spelling.{kind_in}
use Rattle.campl_lex.specs.Tables.{rows}
use Rattle.campl_lex.proofs.kinds.kind_in.Given as goal

abbrev pub invariant-loop-row : goal.invariant-loop-row
invariant-loop-row l = kind_in (rows (drop l.row-index l.table)) l.word ≡ kind_in (rows l.table) l.word
