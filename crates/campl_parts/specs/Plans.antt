-- What is made ready for a step.
use Rattle.std.specs.Prelude.{◌≡◌, Option, Some, None, option_map}
use Rattle.campl_code.specs.Instructions.{Code}
use Rattle.campl_cells.specs.Wants.{Start, Next, Move}
use Rattle.campl_cells.specs.Steps.{IsLifeOf, IsChildOf}
use Rattle.campl_parts.specs.declared.part.Life.{Life}
use Rattle.campl_parts.specs.declared.place.Begun.{Begun}
use Rattle.campl_parts.specs.declared.plan.Planned.{Planned}
use Rattle.campl_parts.specs.Ends.{ends_of}
use Rattle.campl_parts.specs.Views.{life_of}

abbrev pub begun_of : Begun → Start
begun_of s = record { block = s.block; at = s.at; vars = s.variables; ends = ends_of s.ends }

-- the message and the lives are those of the move
abbrev pub IsPlanned : Code → Move → Planned → Type 0
IsPlanned code v p = (p.send ≡ v.send) × IsChildOf code v.child (option_map life_of p.child) × IsLifeOf code v.next (life_of p.next)

-- the life is what a look comes to, if the message fits
abbrev pub IsFit : Code → Option Next → Option Life → Type 0
IsFit code None None = Unit {0}
IsFit code (Some next) (Some life) = IsLifeOf code next (life_of life)
IsFit code None (Some life) = ⊥
IsFit code (Some next) None = ⊥
