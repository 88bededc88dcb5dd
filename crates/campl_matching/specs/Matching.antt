-- The type parameters of a function or constructor are bound by matching its declared types against types
-- that are known.
use Rattle.std.specs.Prelude.{◌≡◌, true, false, List, [], ◌∷◌, ◌++◌, Option, Some, None, Result, Ok, Err, if◌then◌else◌}
use Rattle.campl_tree.specs.Plain.SeqType.{SeqType, SeqTypes, Int, Char, Bool, Pair, Named, Variable, no_types, type_then}
use Rattle.campl_tree.specs.Plain.SeqType as s
use Rattle.campl_types.specs.Names.{Name, same_name, found, all_among}
use Rattle.campl_types.specs.SameTest.{same_seq}
use Rattle.campl_types.specs.Substitution.{Filling, variables_of}
use Rattle.std.specs.Prelude.{map, Bool as Truth}
use Rattle.std.specs.declared.alloc.AllocError.{AllocError}
use Rattle.campl_names.specs.Filling.{Bound}

-- the parameters that stand for something already
abbrev pub bound_names : Filling → List Name
bound_names = map (λ (e : Name × SeqType). e.0)

-- each parameter of the type stands for something
abbrev pub is_known : Filling → SeqType → Truth
is_known fill t = all_among (variables_of t) (bound_names fill)

-- a parameter that stands for nothing yet stands for the type from now on
abbrev pub bind : Filling → Name → Option SeqType → SeqType → Option Filling
bind fill x None t = Some (fill ++ (x, t) ∷ [])
bind fill x (Some u) t = if same_seq u t then Some fill else None

abbrev pub then_match : Option Filling → (Filling → Option Filling) → Option Filling
then_match None next = None
then_match (Some fill) next = next fill

-- a declared type against a type, from left to right: what the parameters stand for then, where they match
abbrev mutual
  pub matched : Filling → (declared t : SeqType) → Option Filling
  matched fill Int Int = Some fill
  matched fill Char Char = Some fill
  matched fill Bool Bool = Some fill
  matched fill (s.List d) (s.List t) = matched fill d t
  matched fill (Pair d e) (Pair t u) = then_match (matched fill d t) (λ f. matched f e u)
  matched fill (Named at x ds) (Named there y ts) = if same_name x y then all_matched fill ds ts else None
  matched fill (Variable at x) t = bind fill x (found x fill) t
  matched fill _ _ = None

  pub all_matched : Filling → (declared ts : SeqTypes) → Option Filling
  all_matched fill no_types no_types = Some fill
  all_matched fill (type_then d ds) (type_then t ts) = then_match (matched fill d t) (λ f. all_matched f ds ts)
  all_matched fill _ _ = None

-- what code that matches answers: whether the types match, and what the parameters stand for if they do
abbrev pub Matches : Truth → Option Filling → Filling → Type 0
Matches true match fill = match ≡ Some fill
Matches false match fill = match ≡ None

-- and where they don't match, or memory wants, what was there stays
abbrev pub Stays : Result Truth AllocError → (before after : Bound) → Type 0
Stays (Ok true) before after = Unit {0}
Stays (Ok false) before after = after ≡ before
Stays (Err fault) before after = after ≡ before
