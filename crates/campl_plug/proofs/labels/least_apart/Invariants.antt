use Rattle.std.proofs.Common.{◌≡◌, ◌<◌, ℕ, get_or}
use Rattle.campl_plug.specs.Links.{IsPart}
use Rattle.campl_plug.proofs.labels.least_apart.Given as goal

-- so far each part has the label of part 1
abbrev pub invariant-loop-part : goal.invariant-loop-part
invariant-loop-part l = (q : ℕ) → IsPart l.parts q → q < l.part → get_or l.labels q 0 ≡ get_or l.labels 1 0
