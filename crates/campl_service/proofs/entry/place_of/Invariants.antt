use Rattle.std.proofs.Common.{◌≡◌, drop}
use Rattle.campl_service.specs.Reading.{place_of, place_from}
use Rattle.campl_service.proofs.entry.place_of.Given as goal

-- none of the names before is it
abbrev pub invariant-loop-place : goal.invariant-loop-place
invariant-loop-place l = place_from l.place (drop l.place l.names) l.name ≡ place_of l.names l.name
