use Rattle.campl_plug.proofs.Cycles.{FreeSoFar}
use Rattle.campl_plug.proofs.labels.label_parts.Given as goal

-- the labels are those of the links so far, none of which closes a cycle
abbrev pub invariant-loop-place : goal.invariant-loop-place
invariant-loop-place l = FreeSoFar l.parts l.links l.place l.labels.items
