use Rattle.std.proofs.Common.{◌≡◌, ◌+◌, drop}
use Rattle.campl_operands.proofs.RowsSet.{row_set}
use Rattle.campl_operands.proofs.variables.Variables.put_row.Given as goal

abbrev pub invariant-loop-i : goal.invariant-loop-i
invariant-loop-i l = row_set l.values (drop l.i l.spots) (l.first + l.i) l.self ≡ row_set l.values l.spots l.first l.fn.self
