use Rattle.campl_plug.proofs.Found.{FoundBelow}
use Rattle.campl_plug.proofs.search.new_neighbours.Given as goal

-- found are those below the candidate
abbrev pub invariant-loop-candidate : goal.invariant-loop-candidate
invariant-loop-candidate l = FoundBelow l.parts l.links l.order l.part l.candidate l.found.items
