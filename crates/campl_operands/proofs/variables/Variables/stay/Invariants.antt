use Rattle.std.proofs.Common.{◌≡◌, ◌+◌, take, drop}
use Rattle.campl_operands.proofs.RowsSet.{row_set}
use Rattle.campl_operands.proofs.variables.Variables.stay.Given as goal

abbrev pub invariant-loop-i : goal.invariant-loop-i
invariant-loop-i l = row_set (take l.width l.self) (drop l.i l.spots) (l.first + l.i) l.self ≡ row_set (take l.width l.self) l.spots l.first l.self
