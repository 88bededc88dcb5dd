use Rattle.std.proofs.Common.{◌≡◌, drop}
use Rattle.campl_gen_exprs.specs.Emission.{all_jump}
use Rattle.campl_gen_exprs.specs.View.{view_emitter}
use Rattle.campl_gen_exprs.proofs.emitter.Emitter.set_all.Given as goal

abbrev pub invariant-loop-i : goal.invariant-loop-i
invariant-loop-i l = all_jump (drop l.i l.ends) l.to (view_emitter l.self) ≡ all_jump l.ends l.to (view_emitter l.initial.self)
