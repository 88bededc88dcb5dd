-- A set of names as the list of its names.
use Rattle.std.specs.Prelude.{◌≡◌, List, [], ◌∷◌, ◌++◌, if◌then◌else◌}
use Rattle.campl_types.specs.Names.{Name, is_among}

-- a name goes behind the others, if it isn't there
abbrev pub with_name : Name → List Name → List Name
with_name x xs = if is_among x xs then xs else xs ++ x ∷ []

-- the same names, in any order and as often as may be
abbrev pub HaveSame : List Name → List Name → Type 0
HaveSame xs ys = (x : Name) → is_among x xs ≡ is_among x ys
