-- The services at the start of a source.
use Rattle.std.specs.Prelude.{List, [], ◌∷◌}
use Rattle.campl_tree.specs.declared.service.ServiceName.{ServiceName}
use Rattle.campl_service.specs.declared.phase.Phase.TheVariants as phase
use Rattle.campl_service.specs.Scripts.{Lines}
use Rattle.campl_service.specs.Services.{Serving}
use Rattle.campl_meaning.specs.Start.{kind_at}

-- a service that is ready for a constructor, with these lines to send
abbrev pub ready : ServiceName → Lines → Serving
ready x lines = record { kind = kind_at x.side; phase = phase.Pick; script = lines; transcript = [] }

-- one for each name of the heading, in its order, each with its script, and with no lines where there is none
abbrev pub servings_at_start : List ServiceName → List Lines → List Serving
servings_at_start [] scripts = []
servings_at_start (x ∷ xs) [] = ready x [] ∷ servings_at_start xs []
servings_at_start (x ∷ xs) (lines ∷ scripts) = ready x lines ∷ servings_at_start xs scripts
