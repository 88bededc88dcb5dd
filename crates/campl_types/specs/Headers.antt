-- How the headers of a plug divide the links and the held channels among its parts.
use Rattle.std.specs.Prelude.{◌≡◌, ℕ, ◌+◌, Bool, true, false, IsTrue, List, [], ◌∷◌, ◌++◌, Option, Some, None, if◌then◌else◌, map}
use Rattle.campl_tree.specs.declared.place.Ident.{Ident}
use Rattle.campl_tree.specs.declared.service.Side.TheVariants.{Input, Output}
use Rattle.campl_tree.specs.Plain.ChanType.{ChanType}
use Rattle.campl_tree.specs.Plain.Process.{Link, Header, Parts, no_parts, part_then}
use Rattle.campl_types.specs.Names.{Name, same_name, is_among, are_distinct, found}
use Rattle.campl_types.specs.World.{names_of}
use Rattle.campl_types.specs.Held.{Channel, On, Held}

abbrev pub link_names : List Link → List Name
link_names = map (λ (l : Link). l.name.name)

-- the types of links, by name
abbrev pub Links : Type 0
Links = Name → Option ChanType

abbrev pub links_in : List Link → Links
links_in links x = found x (map (λ (l : Link). (l.name.name, l.channel_type)) links)

abbrev pub one_if : Bool → ℕ
one_if true = 1
one_if false = 0

-- how often a name stands
abbrev pub times : Name → List Ident → ℕ
times x [] = 0
times x (y ∷ ys) = one_if (same_name x y.name) + times x ys

-- how often a name stands among the inputs, or the outputs, of all parts
abbrev pub times_in : Name → Parts → ℕ
times_in x no_parts = 0
times_in x (part_then h body parts) = times x h.inputs + times_in x parts

abbrev pub times_out : Name → Parts → ℕ
times_out x no_parts = 0
times_out x (part_then h body parts) = times x h.outputs + times_out x parts

-- a link stands once on each side, a held channel once on its own side, and no other name stands
abbrev pub IsUsed : (link : Option ChanType) → (held : Option Channel) → (outputs inputs : ℕ) → Type 0
IsUsed (Some t) None outputs inputs = (outputs ≡ 1) × (inputs ≡ 1)
IsUsed (Some t) (Some c) outputs inputs = ⊥
IsUsed None (Some (On Output t)) outputs inputs = (outputs ≡ 1) × (inputs ≡ 0)
IsUsed None (Some (On Input t)) outputs inputs = (outputs ≡ 0) × (inputs ≡ 1)
IsUsed None None outputs inputs = (outputs ≡ 0) × (inputs ≡ 0)

-- no header has a name twice
abbrev pub NamesDiffer : Parts → Type 0
NamesDiffer no_parts = Unit {0}
NamesDiffer (part_then h body parts) = IsTrue (are_distinct (names_of h.inputs ++ names_of h.outputs)) × NamesDiffer parts

abbrev pub Divide : Links → Held → Parts → Type 0
Divide links held parts = ((x : Name) → IsUsed (links x) (held x) (times_out x parts) (times_in x parts)) × NamesDiffer parts

abbrev on_output : Option ChanType → Option Channel → Option Channel
on_output (Some t) held = Some (On Output t)
on_output None held = held

abbrev on_input : Option ChanType → Option Channel → Option Channel
on_input (Some t) held = Some (On Input t)
on_input None held = held

-- what a part holds: of each link in its header the half on that side, and the held channels there
abbrev pub share : Links → Held → Header → Held
share links held h x =
    if is_among x (names_of h.outputs)
    then on_output (links x) (held x)
    else (if is_among x (names_of h.inputs) then on_input (links x) (held x) else None)

abbrev pub count : Parts → ℕ
count no_parts = 0
count (part_then h body parts) = 1 + count parts
