use Rattle.std.proofs.Common.{◌≡◌, [], replicate}
use Rattle.campl_service.proofs.script.Scripts.empty.Given as goal

abbrev pub invariant-loop : goal.invariant-loop
invariant-loop l = l.scripts.items ≡ replicate l.counter []
