-- The parts of a plug by their numbers, from 1, and the parts that its links join.
use Rattle.std.specs.Prelude.{ℕ, zero, suc, List, [], ◌∷◌, Option, Some, None, if◌then◌else◌, map, reverse}
use Rattle.campl_plug.specs.declared.plug.Link.{Link}
use Rattle.campl_plug.specs.Tree.{IsTree}
use Rattle.campl_tree.specs.declared.place.Ident.{Ident}
use Rattle.campl_tree.specs.Plain.Process as b
use Rattle.campl_tree.specs.Plain.Process.{Body, Header, Parts, no_parts, part_then}
use Rattle.campl_types.specs.Names.{Name, is_among}
use Rattle.campl_types.specs.World.{names_of}
use Rattle.campl_types.specs.Headers.{count}
use Rattle.campl_plug.specs.TreeOrder.{tree_order_of}

-- the part of a number
abbrev pub part_at : Parts → ℕ → Option (Header × Body)
part_at no_parts p = None
part_at (part_then h body parts) zero = None
part_at (part_then h body parts) (suc zero) = Some (h, body)
part_at (part_then h body parts) (suc (suc p)) = part_at parts (suc p)

abbrev pub add_part : Option (Header × Body) → Parts → Parts
add_part None parts = parts
add_part (Some p) parts = part_then p.0 p.1 parts

-- the parts of these numbers
abbrev pub picked : Parts → List ℕ → Parts
picked parts [] = no_parts
picked parts (p ∷ ps) = add_part (part_at parts p) (picked parts ps)

abbrev pub one_up : ℕ → ℕ
one_up zero = 0
one_up (suc p) = suc (suc p)

-- the number of the first part that has the name on one side, or 0
abbrev pub number_of : (Header → List Ident) → Name → Parts → ℕ
number_of side x no_parts = 0
number_of side x (part_then h body parts) = if is_among x (names_of (side h)) then 1 else one_up (number_of side x parts)

abbrev pub outputs_in : Header → List Ident
outputs_in h = h.outputs

abbrev pub inputs_in : Header → List Ident
inputs_in h = h.inputs

-- the two parts that a link joins
abbrev pub joined_by : Parts → b.Link → Link
joined_by parts l = record { a = number_of outputs_in l.name.name parts; b = number_of inputs_in l.name.name parts }

-- a plug's links as pairs of part numbers
abbrev pub joined_parts : List b.Link → Parts → List Link
joined_parts links parts = map (joined_by parts) links

-- the parts form a tree
abbrev pub PlugIsTree : List b.Link → Parts → Type 0
PlugIsTree links parts = IsTree (count parts) (joined_parts links parts)

-- the parts in breadth-first order, the last first
abbrev pub last_first : List b.Link → Parts → Parts
last_first links parts = picked parts (reverse (tree_order_of (count parts) (joined_parts links parts)))
