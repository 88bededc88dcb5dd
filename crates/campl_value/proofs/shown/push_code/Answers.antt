use Rattle.std.proofs.Common.{rules, arith}
use Rattle.campl_value.proofs.Escapes.{code_in_bytes}
use Rattle.campl_value.proofs.shown.push_code.Goals as goal

pub returns : goal.returns
returns c = rw (code_in_bytes c.args.code (omega arith)) (search rules)
