use Rattle.std.proofs.Common.{◌≡◌, take, drop}
use Rattle.campl_operands.proofs.operands.Operands.move_top.Given as goal

abbrev pub invariant-loop-i : goal.invariant-loop-i
invariant-loop-i l = record {
  moved : l.variables ≡ take l._i l.fn.self;
  rest : l.self ≡ drop l._i l.fn.self;
}
