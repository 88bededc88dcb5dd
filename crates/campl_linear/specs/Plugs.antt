-- A plug before its bodies, in seven steps; the bodies are the eighth.
use Rattle.std.specs.Prelude.{ℕ, ◌+◌, Bool, ◌||◌, List, [], ◌∷◌, ◌++◌, Option, Some, None, if◌then◌else◌, nat_le, slice_get}
use Rattle.campl_plug.specs.declared.plug.PlugFault.{PlugFault}
use Rattle.campl_plug.specs.declared.plug.PlugFault.TheVariants as plug
use Rattle.campl_tree.specs.declared.place.Place.{Place}
use Rattle.campl_tree.specs.declared.place.Ident.{Ident}
use Rattle.campl_tree.specs.declared.service.Side.{Side}
use Rattle.campl_tree.specs.declared.service.Side.TheVariants.{Input, Output}
use Rattle.campl_tree.specs.Plain.ChanType.{ChanType}
use Rattle.campl_tree.specs.Plain.Process.{Body, Link, Header, Parts, no_parts, part_then}
use Rattle.campl_types.specs.Names.{Name, is_among, found}
use Rattle.campl_types.specs.World.{names_of}
use Rattle.campl_types.specs.Held.{Channel, On}
use Rattle.campl_types.specs.Headers.{Links, links_in, times_in, times_out, count}
use Rattle.campl_types.specs.Linear.{most_parts}
use Rattle.campl_seqcheck.specs.Judged.{Fine, fine, Judged, Is, Fails, and_then}
use Rattle.campl_linear.specs.Faults.{LinFault, NotHeld, LeftOver, PlugUse, PlugCycle, PlugApart, PartCount, OutOfMemory}
use Rattle.campl_linear.specs.Holding.{Holding, those}
use Rattle.campl_linear.specs.Channels.{new_name, same_side}
use Rattle.campl_linear.specs.Rows.{is_between}
use Rattle.campl_plug.specs.FirstFault.{fault_of}
use Rattle.campl_peel.specs.Numbered.{part_at, joined_parts}

-- 1. It has 2 to 64 parts (E51).
abbrev pub part_count : Place → ℕ → Judged LinFault Fine
part_count at n = if is_between 2 n most_parts then Is fine else Fails (PartCount at)

-- a name stands once where names stand
abbrev pub stands_once : Ident → (before : List Name) → Judged LinFault Fine
stands_once x before = if is_among x.name before then Fails (PlugUse x.place x.name) else Is fine

-- 2. Each link's name is new (E41), and stands once in the list of links (E43).
abbrev pub links_are_new : Holding → (before : List Name) → List Link → Judged LinFault Fine
links_are_new held before [] = Is fine
links_are_new held before (l ∷ ls) =
    and_then (new_name l.name held) (λ _. and_then (stands_once l.name before) (λ _. links_are_new held (l.name.name ∷ before) ls))

-- 3. Each name in a header is a link or held (E40), and a held channel stands on its own side. It stands
-- once on each side of all headers, and not on both sides of one (E43).

abbrev pub may_stand : Ident → Side → Option ChanType → Option Channel → Judged LinFault Fine
may_stand x s (Some t) held = Is fine
may_stand x s None (Some (On r u)) = if same_side r s then Is fine else Fails (PlugUse x.place x.name)
may_stand x s None None = Fails (NotHeld x.place x.name)

abbrev pub names_stand : Links → Holding → Side → (before : List Name) → List Ident → Judged LinFault Fine
names_stand links held s before [] = Is fine
names_stand links held s before (x ∷ xs) =
    and_then (may_stand x s (links x.name) (found x.name held)) (λ _. and_then (stands_once x before) (λ _.
    names_stand links held s (x.name ∷ before) xs))

abbrev pub headers_stand : Links → Holding → (inputs outputs : List Name) → Parts → Judged LinFault Fine
headers_stand links held inputs outputs no_parts = Is fine
headers_stand links held inputs outputs (part_then h body parts) =
    and_then (names_stand links held Input inputs h.inputs) (λ _.
    and_then (names_stand links held Output (names_of h.inputs ++ outputs) h.outputs) (λ _.
    headers_stand links held (names_of h.inputs ++ inputs) (names_of h.outputs ++ outputs) parts))

-- how often a name stands in all headers
abbrev pub uses : Name → Parts → ℕ
uses x parts = times_in x parts + times_out x parts

-- 4. Each link is used twice (E43).
abbrev pub links_are_used : List Link → Parts → Judged LinFault Fine
links_are_used [] parts = Is fine
links_are_used (l ∷ ls) parts =
    if nat_le 2 (uses l.name.name parts) then links_are_used ls parts else Fails (PlugUse l.name.place l.name.name)

-- 5. Each held channel is in a part (E41).
abbrev pub all_are_used : Place → Holding → Parts → Judged LinFault Fine
all_are_used at [] parts = Is fine
all_are_used at (e ∷ es) parts = if nat_le 1 (uses e.0 parts) then all_are_used at es parts else Fails (LeftOver at e.0)

-- 6. No link closes a cycle (E44). 7. No part is apart (E45).

-- there is always the link or the part that is at fault
abbrev pub in_cycle : Option Link → Judged LinFault Fine
in_cycle (Some l) = Fails (PlugCycle l.name.place l.name.name)
in_cycle None = Fails OutOfMemory

abbrev pub is_apart : ℕ → Option (Header × Body) → Judged LinFault Fine
is_apart p (Some part) = Fails (PlugApart part.0.place p)
is_apart p None = Fails OutOfMemory

abbrev pub tree_fault : List Link → Parts → Option PlugFault → Judged LinFault Fine
tree_fault links parts None = Is fine
tree_fault links parts (Some (plug.Cycle i)) = in_cycle (slice_get links i)
tree_fault links parts (Some (plug.Apart p)) = is_apart p (part_at parts p)
tree_fault links parts (Some plug.OutOfMemory) = Fails OutOfMemory

abbrev pub parts_form_tree : List Link → Parts → Judged LinFault Fine
parts_form_tree links parts = tree_fault links parts (fault_of (count parts) (joined_parts links parts))

-- all seven
abbrev pub plug_stands : Place → List Link → Parts → Holding → Judged LinFault Fine
plug_stands at links parts held =
    and_then (part_count at (count parts)) (λ _. and_then (links_are_new held [] links) (λ _.
    and_then (headers_stand (links_in links) held [] [] parts) (λ _. and_then (links_are_used links parts) (λ _.
    and_then (all_are_used at held parts) (λ _. parts_form_tree links parts)))))

-- 8. A part holds the held channels of its header in their order, then its ends of links in the order of links.

abbrev pub is_in : Header → Name → Bool
is_in h x = is_among x (names_of h.outputs) || is_among x (names_of h.inputs)

abbrev end_of : Header → Link → Holding → Holding
end_of h l rest =
    if is_among l.name.name (names_of h.outputs)
    then (l.name.name, On Output l.channel_type) ∷ rest
    else (if is_among l.name.name (names_of h.inputs) then (l.name.name, On Input l.channel_type) ∷ rest else rest)

abbrev pub ends_of : Header → List Link → Holding
ends_of h [] = []
ends_of h (l ∷ ls) = end_of h l (ends_of h ls)

abbrev pub share_of : List Link → Holding → Header → Holding
share_of links held h = those (is_in h) held ++ ends_of h links
