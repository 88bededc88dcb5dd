-- What is left of a list of processes.
use Rattle.std.specs.Prelude.{Bool, true, false, ◌||◌, List, [], ◌∷◌}
use Rattle.campl_kept.specs.declared.kept.Kept.{Kept}
use Rattle.campl_kept.specs.declared.kept.Kept.TheVariants as K
use Rattle.campl_parts.specs.declared.part.Life.{Life}
use Rattle.campl_parts.specs.declared.part.Life.TheVariants as l
use Rattle.campl_parts.specs.declared.part.ProcPart.{ProcPart}

-- it is a process that runs
abbrev pub is_running : Life → Bool
is_running l.Ended = false
is_running (l.Runs r) = true
is_running (l.Serves e service) = false

-- it keeps that it broke
abbrev pub keeps_break : Kept → Bool
keeps_break (K.Values at variables values) = false
keeps_break (K.AtCall eval) = false
keeps_break K.Broken = true

-- it is a process that broke
abbrev pub is_broken : Life → Bool
is_broken l.Ended = false
is_broken (l.Runs r) = keeps_break r.value.kept
is_broken (l.Serves e service) = false

-- the test holds of one of them
abbrev pub has_some : (Life → Bool) → List ProcPart → Bool
has_some f [] = false
has_some f (p ∷ ps) = f p.life || has_some f ps
