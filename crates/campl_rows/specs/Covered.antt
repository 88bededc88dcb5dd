-- The first constructor without a row.
use Rattle.std.specs.Prelude.{List, [], ◌∷◌, Option, Some, None, if◌then◌else◌}
use Rattle.campl_types.specs.Names.{Name, is_among}

-- the first of these names that is not among those
abbrev pub first_missing : List Name → List Name → Option Name
first_missing [] names = None
first_missing (k ∷ ks) names = if is_among k names then first_missing ks names else Some k

-- a name, where it is not among those
abbrev pub missing_of : Option Name → List Name → Option Name
missing_of None names = None
missing_of (Some k) names = if is_among k names then None else Some k
