use Rattle.std.proofs.Common.{◌≡◌, drop, Some}
use Rattle.campl_code.specs.Decisions.{within, value_at}
use Rattle.campl_instructions.proofs.choose.value_at.Given as goal

abbrev pub invariant-loop-n : goal.invariant-loop-n
invariant-loop-n l = within (Some l.part) (drop l.n-index l.path) ≡ value_at l.values l.spot
