-- What emission has in hand, as the definitions see it.
use Rattle.std.specs.Prelude.{map}
use Rattle.campl_instructions.specs.View.{view_instr}
use Rattle.campl_gen_exprs.specs.declared.emitter.Emitter.{Emitter}
use Rattle.campl_instructions.specs.View.{view_operation}
use Rattle.campl_code.specs.Instructions as i
use Rattle.campl_gen_exprs.specs.declared.emission.Join.{Join}
use Rattle.campl_gen_exprs.specs.declared.emission.Join.TheVariants as join
use Rattle.campl_gen_exprs.specs.Emission.{Emission}

abbrev pub view_emitter : Emitter → Emission
view_emitter e = record { code = map view_instr e.code; decisions = e.decisions; free = e.free; numbers = e.scope }

-- the instruction that joins two operands
abbrev pub made_of : Join → i.Instr
made_of join.Cons = i.Cons
made_of join.Pair = i.Pair
made_of (join.Op op) = i.Op (view_operation op)
