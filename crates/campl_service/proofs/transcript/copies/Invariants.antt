use Rattle.std.proofs.Common.{◌≡◌, ◌++◌}
use Rattle.campl_service.proofs.transcript.copies.Given as goal

-- the copies so far and what is left make all records
abbrev pub invariant-loop-noted : goal.invariant-loop-noted
invariant-loop-noted l = l.copies ++ l.noted-iterator ≡ l.records
