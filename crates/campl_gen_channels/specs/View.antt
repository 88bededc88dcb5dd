-- Channels as the definitions see them.
use Rattle.std.specs.Prelude.{ℕ, Bool, true, false, not, List, [], ◌∷◌, Option, Some, None}
use Rattle.campl_types.specs.Names.{Name, is_among}
use Rattle.campl_code_bodies.specs.Bodies as plain
use Rattle.campl_gen_channels.specs.declared.channels.Channels.{Channels}

-- the channels with their numbers; in which order they stand says nothing
abbrev pub view_channels : Channels → plain.Channels
view_channels c = c.numbers.entries

-- whether a name is among those that are kept, or among none of those that aren't
abbrev pub is_kept : (keep : Bool) → List Name → Name → Bool
is_kept true names x = is_among x names
is_kept false names x = not (is_among x names)

-- the entry as a list, where there is one
abbrev pub one_entry : Option (Name × ℕ) → plain.Channels
one_entry None = []
one_entry (Some e) = e ∷ []
