-- What a process has still to do: a body, or a plug some of whose parts were peeled.
use Rattle.std.specs.Prelude.{◌≡◌, ◌≤◌, Bool, true, false, List, [], ◌∷◌, Option, Some, None, if◌then◌else◌}
use Rattle.campl_tree.specs.Side.{opposite}
use Rattle.campl_tree.specs.Plain.Process as b
use Rattle.campl_tree.specs.Plain.Process.{Body, Link, Header, Parts, no_parts, part_then}
use Rattle.campl_types.specs.Names.{Name, found}
use Rattle.campl_types.specs.World.{World}
use Rattle.campl_types.specs.Fits.{Vars}
use Rattle.campl_types.specs.Held.{Channel, Held}
use Rattle.campl_types.specs.Headers.{count}
use Rattle.campl_types.specs.Linear.{IsWellFormed}
use Rattle.campl_peel.specs.Numbered.{last_first}
use Rattle.campl_peel.specs.Plugging.{side_in, held_by_child, held_by_rest, PluggingIsWellFormed}
use Rattle.campl_peel.specs.Peel.{Peel, peel_of, side_among}
use Rattle.campl_peel.specs.Trees.{PlugsAreTrees, PartsHaveTrees}

pub data Term : Type 0 where
  Doing : Body → Term
  -- the links and the parts that are left, the last of the order first
  Plugging : List Link → Parts → Term

-- a plug of which nothing is peeled, or some parts
abbrev pub is_plug : Term → Bool
is_plug (Doing (b.Plug at links parts)) = true
is_plug (Doing _) = false
is_plug (Plugging links parts) = true

-- its next peel
abbrev pub peel_in : Term → Option Peel
peel_in (Doing (b.Plug at links parts)) = peel_of links (last_first links parts)
peel_in (Doing _) = None
peel_in (Plugging links parts) = peel_of links parts

-- what the process has still to do behind it: with one part left, that part's body
abbrev pub left : List Link → Parts → Term
left links no_parts = Plugging links no_parts
left links (part_then h body no_parts) = Doing body
left links (part_then h body (part_then g c parts)) = Plugging links (part_then h body (part_then g c parts))

abbrev pub left_behind : Peel → Term
left_behind p = left p.links p.parts

abbrev pub TermIsWellFormed : World → Vars → Held → Term → Type 0
TermIsWellFormed w vs held (Doing body) = IsWellFormed w vs held body × PlugsAreTrees body
TermIsWellFormed w vs held (Plugging links parts) = (2 ≤ count parts) × PluggingIsWellFormed w vs held links parts × PartsHaveTrees parts

-- the child and what is left are well formed, each holding its share
pub record TermPeels (w : World) (vs : Vars) (held : Held) (term : Term) (p : Peel) : Type 0 where
  pub peels : peel_in term ≡ Some p
  pub new : held p.link.name.name ≡ None
  pub sides : side_among p.parts p.link.name.name ≡ opposite (side_in p.header p.link.name.name)
  pub child : TermIsWellFormed w vs (held_by_child p.header p.link held) (Doing p.body)
  pub rest : TermIsWellFormed w vs (held_by_rest p.header p.link held) (left_behind p)

-- Ends under names

abbrev pub those : {E : Type 0} → (Name → Bool) → List (Name × E) → List (Name × E)
those keep [] = []
those keep (e ∷ es) = if keep e.0 then e ∷ those keep es else those keep es

abbrev channel_at : {E : Type 0} → (E → Option Channel) → Option E → Option Channel
channel_at channel None = None
channel_at channel (Some e) = channel e

-- what a process holds, by its ends under their names, where `channel` tells an end's side and type
abbrev pub held_ends : {E : Type 0} → (E → Option Channel) → List (Name × E) → Held
held_ends channel es x = channel_at channel (found x es)
