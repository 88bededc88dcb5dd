-- The code of a plug in the steps in which it is emitted: the peels in turn, the body of the part that is left, and then those of
-- the children, the child of the last peel first.
use Rattle.std.specs.Prelude.{ℕ, suc, not, List, [], ◌∷◌, if◌then◌else◌, length, max}
use Rattle.campl_tree.specs.declared.service.Side.{Side}
use Rattle.campl_tree.specs.Plain.Process.{Body, Link, Header, Parts, no_parts, part_then}
use Rattle.campl_types.specs.Names.{Name, is_among}
use Rattle.campl_types.specs.World.{World}
use Rattle.campl_peel.specs.Plugging.{stands_in, side_in, links_to, without_link}
use Rattle.campl_peel.specs.Terms.{those}
use Rattle.campl_code.specs.Instructions as i
use Rattle.campl_code_bodies.specs.Bodies.{Channels}
use Rattle.campl_code_bodies.specs.BodyCode.{link_name}
use Rattle.campl_code_bodies.specs.BodySizes.{body_size}
use Rattle.campl_gen_bodies.specs.Making.{Making, pushed, patched, built}

-- the part that a peel bears: where the peel stands, its channel and the child's side, and what the child does and holds
pub record Child : Type 0 where
  pub at : ℕ
  pub channel : ℕ
  pub side : Side
  pub body : Body
  pub next : ℕ
  pub held : Channels

-- the body of a child, and its place in the peel
abbrev pub child_built : World → Child → Making → Making
child_built w c s =
    patched c.at (i.Peel c.channel c.side (length s.emission.code)) (built w c.body c.next c.held s)

-- those of children, the last first
abbrev pub children_built : World → List Child → Making → Making
children_built w [] s = s
children_built w (c ∷ children) s = child_built w c (children_built w children s)

-- the links but for those of these names
abbrev pub left_links : List Name → List Link → List Link
left_links used [] = []
left_links used (l ∷ links) = if is_among l.name.name used then left_links used links else l ∷ left_links used links

-- the name of the link of a part to those behind it
abbrev pub link_of : List Link → Header → Parts → Name
link_of links h rest = link_name (links_to rest h links)

-- what a child holds, and what the others go on to hold
abbrev pub child_held : Name → Header → (next : ℕ) → Channels → Channels
child_held l h next cs = (l, next) ∷ those (stands_in h) cs

abbrev pub rest_held : Name → Header → (next : ℕ) → Channels → Channels
rest_held l h next cs = (l, next) ∷ those (λ x. not (stands_in h x)) cs

abbrev pub peeled_child : Name → Header → Body → (next : ℕ) → Channels → Making → Child
peeled_child l h body next cs s = record { at = length s.emission.code; channel = next; side = side_in h l; body = body; next = suc next; held = child_held l h next cs }

-- a plug's parts, the last of the order first
abbrev pub peels_built : World → List Link → Parts → (next : ℕ) → Channels → Making → Making
peels_built w links no_parts next cs s = s
peels_built w links (part_then h body no_parts) next cs s = built w body next cs s
peels_built w links (part_then h body (part_then g c parts)) next cs s =
    let l = link_of links h (part_then g c parts) in
    child_built w (peeled_child l h body next cs s)
    (peels_built w (without_link l links) (part_then g c parts) (suc next) (rest_held l h next cs) (pushed (i.Nil ∷ []) s))

-- How large the bodies are at most, of parts and of children

abbrev pub heaviest : Parts → ℕ
heaviest no_parts = 0
heaviest (part_then h body parts) = max (body_size body) (heaviest parts)

abbrev pub heaviest_child : List Child → ℕ
heaviest_child [] = 0
heaviest_child (c ∷ children) = max (body_size c.body) (heaviest_child children)

abbrev pub heaviest_with : Body → List Child → ℕ
heaviest_with body children = max (heaviest_child children) (body_size body)
