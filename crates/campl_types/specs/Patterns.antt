-- The variables that patterns and binders bind.
use Rattle.std.specs.Prelude.{List, [], ◌∷◌, ◌++◌}
use Rattle.campl_tree.specs.declared.process.Binder.{Binder}
use Rattle.campl_tree.specs.declared.process.Binder.TheVariants as binder
use Rattle.campl_tree.specs.Plain.Pattern.{Pattern, Patterns, Wildcard, Variable, Number, Negative, Character, Text, True, False, Constructor, Pair, Cons, no_patterns, pattern_then}
use Rattle.campl_tree.specs.Plain.Pattern as p
use Rattle.campl_types.specs.Names.{Name}

-- from left to right, as often as they stand
abbrev mutual
  pub bound_in : Pattern → List Name
  bound_in (Wildcard at) = []
  bound_in (Variable at x) = x ∷ []
  bound_in (Number at n) = []
  bound_in (Negative at n) = []
  bound_in (Character at n) = []
  bound_in (Text at text) = []
  bound_in (True at) = []
  bound_in (False at) = []
  bound_in (Constructor at x ps) = bound_in_all ps
  bound_in (p.List at ps) = bound_in_all ps
  bound_in (Pair at p q) = bound_in p ++ bound_in q
  bound_in (Cons at p q) = bound_in p ++ bound_in q

  pub bound_in_all : Patterns → List Name
  bound_in_all no_patterns = []
  bound_in_all (pattern_then p ps) = bound_in p ++ bound_in_all ps

abbrev pub bound_by : Binder → List Name
bound_by (binder.Variable at x) = x ∷ []
bound_by (binder.Wildcard at) = []

abbrev pub bound_by_all : List Binder → List Name
bound_by_all [] = []
bound_by_all (b ∷ bs) = bound_by b ++ bound_by_all bs
