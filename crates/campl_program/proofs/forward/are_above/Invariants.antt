use Rattle.std.proofs.Common.{◌≡◌, drop}
use Rattle.campl_program.specs.Onward.{all_above}
use Rattle.campl_program.proofs.forward.are_above.Given as goal

abbrev pub invariant-loop-to : goal.invariant-loop-to
invariant-loop-to l = all_above l.fn.at (drop l.to-index l.places) ≡ all_above l.fn.at l.places
