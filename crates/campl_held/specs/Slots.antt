-- Held channels as code keeps them: slots in the order in which the channels came, of which those of channels
-- that were given up are empty.
use Rattle.std.specs.Prelude.{◌≡◌, ℕ, suc, Bool, true, false, not, ◌||◌, List, [], ◌∷◌, Option, Some, None, cond, map, option_map, slice_get}
use Rattle.campl_tree.specs.View.{view_chan}
use Rattle.campl_types.specs.Names.{Name, same_name, is_among}
use Rattle.campl_types.specs.Held.{Channel, On}
use Rattle.campl_linear.specs.Holding.{Holding}
use Rattle.campl_held.specs.declared.channel.HeldChannel.{HeldChannel}

-- a held channel without its name
abbrev pub view_channel : HeldChannel → Channel
view_channel h = On h.side (view_chan h.channel_type)

-- with its name
abbrev pub view_one : HeldChannel → Name × Channel
view_one h = (h.name, view_channel h)

-- the list of held channels
abbrev pub view_held : List HeldChannel → Holding
view_held = map view_one

-- those that are held
abbrev pub live : List (Option HeldChannel) → List HeldChannel
live [] = []
live (None ∷ s) = live s
live (Some h ∷ s) = h ∷ live s

-- whether a slot has the channel of a name
abbrev pub is_of : Name → Option HeldChannel → Bool
is_of x None = false
is_of x (Some h) = same_name x h.name

-- where the channel of the name stands
abbrev pub place : Name → List (Option HeldChannel) → Option ℕ
place x [] = None
place x (o ∷ s) = cond (is_of x o) (Some 0) (option_map suc (place x s))

-- no name stands twice
abbrev pub AreOnce : List (Option HeldChannel) → Type 0
AreOnce [] = Unit {0}
AreOnce (None ∷ s) = AreOnce s
AreOnce (Some h ∷ s) = (place h.name s ≡ None) × AreOnce s

-- what is in a slot that may not be there
abbrev pub in_slot : Option (Option HeldChannel) → Option HeldChannel
in_slot None = None
in_slot (Some o) = o

-- what stands at a place
abbrev pub slot_at : List (Option HeldChannel) → Option ℕ → Option HeldChannel
slot_at s None = None
slot_at s (Some n) = in_slot (slice_get s n)

-- whether a name is among those that are kept, or among none of those that aren't
abbrev pub is_kept : (keep : Bool) → List Name → Name → Bool
is_kept true names x = is_among x names
is_kept false names x = not (is_among x names)

-- whether a name is in neither list
abbrev pub is_outside : (inputs outputs : List Name) → Name → Bool
is_outside inputs outputs x = not (is_among x inputs || is_among x outputs)
