-- Patterns fit types. A variable and `_` fit every type; a number fits Int, a character Char, a text [Char],
-- True and False Bool; a list and `p : q` fit a list type where the parts do, and a pair fits a pair type. A
-- constructor fits its own data type where its parts fit the types that the arguments give them.
--
-- This is judged of patterns, and not of what they ask of a value: of the empty text that is the same as of
-- `[]`, but it fits no list type besides [Char].
use Rattle.std.specs.Prelude.{List, [], ◌∷◌, ◌++◌, Option, Some, None, if◌then◌else◌}
use Rattle.campl_tree.specs.Plain.SeqType.{SeqType, SeqTypes, Int, Char, Bool}
use Rattle.campl_tree.specs.Plain.SeqType as s
use Rattle.campl_tree.specs.Plain.Pattern.{Pattern, Patterns, Wildcard, Variable, Number, Negative, Character, Text, True, False, Constructor, Pair, Cons, no_patterns, pattern_then}
use Rattle.campl_tree.specs.Plain.Pattern as p
use Rattle.campl_types.specs.Names.{Name, same_name}
use Rattle.campl_types.specs.Substitution as types
use Rattle.campl_types.specs.Values.{parts_at}
use Rattle.campl_types.specs.World.{World, ConstructorEntry, OfData, OfProtocol, OfCoprotocol, constructor_named}

-- variables with their types, the newest first
abbrev pub Vars : Type 0
Vars = List (Name × SeqType)

-- both fit: what the second binds is newer
abbrev pub both : Option Vars → Option Vars → Option Vars
both (Some xs) (Some ys) = Some (ys ++ xs)
both (Some xs) None = None
both None other = None

abbrev built : Option ConstructorEntry → Name → List SeqType → (List SeqType → Option Vars) → Option Vars
built (Some (OfData d n k)) x ts parts = if same_name d.name.name x then parts (parts_at d ts k) else None
built (Some (OfProtocol d n k)) x ts parts = None
built (Some (OfCoprotocol d n k)) x ts parts = None
built None x ts parts = None

-- the variables that a pattern binds at the type, where it fits
abbrev mutual
  pub fits : World → Pattern → SeqType → Option Vars
  fits w (Wildcard at) t = Some []
  fits w (Variable at x) t = Some ((x, t) ∷ [])
  fits w (Number at n) Int = Some []
  fits w (Negative at n) Int = Some []
  fits w (Character at c) Char = Some []
  fits w (Text at text) (s.List Char) = Some []
  fits w (True at) Bool = Some []
  fits w (False at) Bool = Some []
  fits w (p.List at ps) (s.List t) = each_fits w ps t
  fits w (Cons at p q) (s.List t) = both (fits w p t) (fits w q (s.List t))
  fits w (Pair at p q) (s.Pair t u) = both (fits w p t) (fits w q u)
  fits w (Constructor at k ps) (s.Named there x ts) = built (constructor_named w k) x (types.list_of ts) (all_fit w ps)
  fits w _ _ = None

  -- elements of one type
  pub each_fits : World → Patterns → SeqType → Option Vars
  each_fits w no_patterns t = Some []
  each_fits w (pattern_then p ps) t = both (fits w p t) (each_fits w ps t)

  -- one pattern for each type
  pub all_fit : World → Patterns → List SeqType → Option Vars
  all_fit w no_patterns [] = Some []
  all_fit w (pattern_then p ps) (t ∷ ts) = both (fits w p t) (all_fit w ps ts)
  all_fit w _ _ = None
