use Rattle.std.proofs.Common.{◌≡◌, drop}
use Rattle.campl_gen_bodies.specs.View.{view_making}
use Rattle.campl_gen.specs.Blocks.{all_received}
use Rattle.campl_gen.proofs.processes.receive_all.Given as goal

abbrev pub invariant-loop-i : goal.invariant-loop-i
invariant-loop-i l = all_received (drop l.i l.variables) (view_making l.making) ≡ all_received l.variables (view_making l.initial.making)
