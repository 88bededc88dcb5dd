use Rattle.std.proofs.Common.{◌≡◌, drop}
use Rattle.campl_code.specs.Decisions.{values_at}
use Rattle.campl_instructions.proofs.Copies.{behind}
use Rattle.campl_instructions.proofs.choose.copies.Given as goal

abbrev pub invariant-loop-spot : goal.invariant-loop-spot
invariant-loop-spot l = behind l.copies (values_at l.values (drop l.spot-index l.spots)) ≡ values_at l.values l.spots
