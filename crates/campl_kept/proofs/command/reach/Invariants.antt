use Rattle.std.proofs.Common.{◌≡◌, ◌+◌, drop, map, option_map}
use Rattle.campl_instructions.specs.View.{view_instr}
use Rattle.campl_kept.specs.Straight.{reach}
use Rattle.campl_kept.proofs.command.reach.Given as goal

abbrev pub invariant-loop-n : goal.invariant-loop-n
invariant-loop-n l = option_map (λ m. l.n + m) (reach (map view_instr (drop l.n l.code))) ≡ reach (map view_instr l.code)
