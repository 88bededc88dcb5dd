-- What peeling the last part of a plug gives.
use Rattle.std.specs.Prelude.{◌≡◌, List, [], ◌∷◌, Option, Some, None, if◌then◌else◌}
use Rattle.campl_tree.specs.declared.service.Side.{Side}
use Rattle.campl_tree.specs.declared.service.Side.TheVariants.{Input}
use Rattle.campl_tree.specs.Side.{opposite}
use Rattle.campl_tree.specs.Plain.Process.{Body, Link, Header, Parts, no_parts, part_then}
use Rattle.campl_types.specs.Names.{Name}
use Rattle.campl_types.specs.World.{World}
use Rattle.campl_types.specs.Fits.{Vars}
use Rattle.campl_types.specs.Held.{Held}
use Rattle.campl_types.specs.Linear.{IsWellFormed}
use Rattle.campl_peel.specs.Plugging.{stands_in, links_to, side_in, without_link, held_by_child, held_by_rest, PluggingIsWellFormed}

-- the child's header and body, the link whose channel is born, and the links and parts left
pub record Peel : Type 0 where
  pub header : Header
  pub body : Body
  pub link : Link
  pub links : List Link
  pub parts : Parts

abbrev pub peel_by : Header → Body → List Link → Parts → List Link → Option Peel
peel_by h body links parts [] = None
peel_by h body links parts (l ∷ more) = Some (record { header = h; body = body; link = l; links = without_link l.name.name links; parts = parts })

-- where more than one part is left, the last is peeled by its link to those before it
abbrev pub peel_of : List Link → Parts → Option Peel
peel_of links no_parts = None
peel_of links (part_then h body no_parts) = None
peel_of links (part_then h body (part_then g c parts)) = peel_by h body links (part_then g c parts) (links_to (part_then g c parts) h links)

-- the side on which the last of the parts with the name has it
abbrev pub side_among : Parts → Name → Side
side_among no_parts x = Input
side_among (part_then h body parts) x = if stands_in h x then side_in h x else side_among parts x

-- the part that stands first in the order
abbrev pub first_part : Parts → Option (Header × Body)
first_part no_parts = None
first_part (part_then h body no_parts) = Some (h, body)
first_part (part_then h body (part_then g c parts)) = first_part (part_then g c parts)

-- the child and the rest are well formed, each with its share of what was held and one half of the new
-- channel, on the sides that the headers say
pub record PeelKeepsTyping (w : World) (vs : Vars) (held : Held) (p : Peel) : Type 0 where
  pub new : held p.link.name.name ≡ None
  pub sides : side_among p.parts p.link.name.name ≡ opposite (side_in p.header p.link.name.name)
  pub child : IsWellFormed w vs (held_by_child p.header p.link held) p.body
  pub rest : PluggingIsWellFormed w vs (held_by_rest p.header p.link held) p.links p.parts
