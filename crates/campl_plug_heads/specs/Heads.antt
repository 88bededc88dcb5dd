-- What stands in the headers of a plug, as code takes it in.
use Rattle.std.specs.Prelude.{◌≡◌, ℕ, ◌+◌, true, ◌&&◌, List, [], ◌∷◌, ◌++◌, Option, Some, None, if◌then◌else◌, map}
use Rattle.campl_plug.specs.declared.plug.Link as numbers
use Rattle.campl_tree.specs.declared.place.Place.{Place}
use Rattle.campl_tree.specs.declared.place.Ident.{Ident}
use Rattle.campl_tree.specs.declared.service.Side.{Side}
use Rattle.campl_tree.specs.declared.service.Side.TheVariants.{Input, Output}
use Rattle.campl_tree.specs.Plain.ChanType.{TopBot}
use Rattle.campl_tree.specs.Plain.Process.{Link, Header, Parts, no_parts, part_then}
use Rattle.campl_types.specs.Names.{Name, is_among, are_distinct, found}
use Rattle.campl_types.specs.World.{names_of}
use Rattle.campl_types.specs.Held.{On}
use Rattle.campl_types.specs.Headers.{Links, links_in, link_names}
use Rattle.campl_seqcheck.specs.Judged.{Fine, fine, Judged, Is, Fails, and_then}
use Rattle.campl_linear.specs.Faults.{LinFault, PlugUse}
use Rattle.campl_linear.specs.Holding.{Holding}
use Rattle.campl_linear.specs.Channels.{new_name}
use Rattle.campl_linear.specs.Plugs.{stands_once, may_stand, names_stand, headers_stand, links_are_used, all_are_used, parts_form_tree}

-- names with the numbers of the parts in whose headers they stand
abbrev pub Numbered : Type 0
Numbered = List (Name × ℕ)

abbrev pub names_in : Numbered → List Name
names_in = map (λ (e : Name × ℕ). e.0)

abbrev pub or_zero : Option ℕ → ℕ
or_zero None = 0
or_zero (Some n) = n

-- the number that stands under a name first, or 0
abbrev pub number_in : Name → Numbered → ℕ
number_in x es = or_zero (found x es)

-- the names of one side of the header of part n
abbrev pub marked : ℕ → List Ident → Numbered
marked n [] = []
marked n (x ∷ xs) = (x.name, n) ∷ marked n xs

-- the names of one side of all headers, the first of which is that of part n
abbrev pub numbered : (Header → List Ident) → ℕ → Parts → Numbered
numbered side n no_parts = []
numbered side n (part_then h body parts) = marked n (side h) ++ numbered side (n + 1) parts

-- all names in headers
abbrev pub all_names : Parts → List Name
all_names no_parts = []
all_names (part_then h body parts) = (names_of h.outputs ++ names_of h.inputs) ++ all_names parts

-- links that have these names, whatever their types
abbrev pub links_named : List Name → Links
links_named names x = if is_among x names then Some TopBot else None

-- a link's name is new, and stands once
abbrev pub link_stands : Holding → List Name → Ident → Judged LinFault Fine
link_stands held before x = and_then (new_name x held) (λ _. stands_once x before)

-- a name in a header stands where it may, and once
abbrev pub name_stands : Links → Holding → Side → List Name → Ident → Judged LinFault Fine
name_stands links held s before x = and_then (may_stand x s (links x.name) (found x.name held)) (λ _. stands_once x before)

-- one header, where these names stood on each side before
abbrev pub header_stands : Links → Holding → (inputs outputs : List Name) → Header → Judged LinFault Fine
header_stands links held inputs outputs h =
    and_then (names_stand links held Input inputs h.inputs) (λ _. names_stand links held Output (names_of h.inputs ++ outputs) h.outputs)

-- a link stands on both sides
abbrev pub link_joins : (inputs outputs : Numbered) → Ident → Judged LinFault Fine
link_joins inputs outputs x = if is_among x.name (names_in inputs) && is_among x.name (names_in outputs) then Is fine else Fails (PlugUse x.place x.name)

-- each link does
abbrev pub links_join : (inputs outputs : Numbered) → List Link → Judged LinFault Fine
links_join inputs outputs [] = Is fine
links_join inputs outputs (l ∷ ls) = and_then (link_joins inputs outputs l.name) (λ _. links_join inputs outputs ls)

-- the parts that a link joins
abbrev pub joined_in : (inputs outputs : Numbered) → Link → numbers.Link
joined_in inputs outputs l = record { a = number_in l.name.name outputs; b = number_in l.name.name inputs }

-- the side on which a part holds a link, where these are the outputs and all names of its header
abbrev pub side_in : (outputs names : List Name) → Name → Option Side
side_in outputs names x = if is_among x outputs then Some Output else (if is_among x names then Some Input else None)

abbrev pub held_end : Link → Option Side → Holding
held_end l None = []
held_end l (Some s) = (l.name.name, On s l.channel_type) ∷ []

-- a part's end of a link, if it has one
abbrev pub end_in : (outputs names : List Name) → Link → Holding
end_in outputs names l = held_end l (side_in outputs names l.name.name)

abbrev pub ends_in : (outputs names : List Name) → List Link → Holding
ends_in outputs names [] = []
ends_in outputs names (l ∷ ls) = end_in outputs names l ++ ends_in outputs names ls

-- the links have names of their own, and none of them is held
pub record LinksStand (links : List Link) (held : Holding) : Type 0 where
  pub distinct : are_distinct (link_names links) ≡ true
  pub new : (x : Name) → is_among x (link_names links) ≡ true → found x held ≡ None

-- Steps 4 to 7 of a plug, and 3 to 7

abbrev pub ends_stand : Place → List Link → Parts → Holding → Judged LinFault Fine
ends_stand at links parts held =
    and_then (links_are_used links parts) (λ _. and_then (all_are_used at held parts) (λ _. parts_form_tree links parts))

abbrev pub heads_stand : Place → List Link → Parts → Holding → Judged LinFault Fine
heads_stand at links parts held = and_then (headers_stand (links_in links) held [] [] parts) (λ _. ends_stand at links parts held)

-- behind steps 2 and 3
pub record HeadersStand (links : List Link) (parts : Parts) (held : Holding) : Type 0 where
  pub links_stand : LinksStand links held
  pub headers : headers_stand (links_in links) held [] [] parts ≡ Is fine
