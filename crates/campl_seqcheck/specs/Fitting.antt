-- Patterns judged against types, from left to right: the variables that they bind, or their first fault. A
-- pattern whose type differs is at fault before its parts are; so is a constructor with another number
-- of parts than its declaration has, and that is judged first.
use Rattle.std.specs.Prelude.{ℕ, suc, List, [], ◌∷◌, Option, Some, None, if◌then◌else◌, codes, eqb, length}
use Rattle.campl_tree.specs.declared.place.Place.{Place}
use Rattle.campl_tree.specs.Plain.SeqType.{SeqType, Int, Char, Bool, Named}
use Rattle.campl_tree.specs.Plain.SeqType as s
use Rattle.campl_tree.specs.Plain.Pattern.{Pattern, Patterns, Wildcard, Variable, Number, Negative, Character, Text, True, False, Constructor, Pair, Cons, no_patterns, pattern_then}
use Rattle.campl_tree.specs.Plain.Pattern as p
use Rattle.campl_tree.specs.Plain.Decl.{DataDecl}
use Rattle.campl_types.specs.Names.{Name, same_name, is_among}
use Rattle.campl_types.specs.Substitution as types
use Rattle.campl_types.specs.SameTest.{same_seq}
use Rattle.campl_types.specs.Sequential.{whole}
use Rattle.campl_types.specs.Values.{parts_at}
use Rattle.campl_types.specs.Fits.{Vars}
use Rattle.campl_types.specs.World.{World, ConstructorEntry, OfData, OfProtocol, OfCoprotocol, constructor_named}
use Rattle.campl_shown.specs.Types.{type_text, type_text_at}
use Rattle.campl_vars.specs.Variables.{variable_names}
use Rattle.campl_seqcheck.specs.declared.fault.SeqFault.{SeqFault}
use Rattle.campl_seqcheck.specs.declared.fault.SeqFault.TheVariants.{ArgumentCount, TypeDiffers, NeedsType, NameTwiceInPattern}
use Rattle.campl_seqcheck.specs.Judged.{Judged, Is, Fails, Fine, fine, and_then}

-- another number than is wanted
abbrev pub counted : Place → (number wanted : ℕ) → Judged SeqFault Fine
counted at number wanted = if eqb number wanted then Is fine else Fails (ArgumentCount at number wanted)

abbrev pub number_of : Patterns → ℕ
number_of no_patterns = 0
number_of (pattern_then p ps) = suc (number_of ps)

-- of a pattern that fits one type alone
abbrev pub of_type : Place → (own t : SeqType) → Vars → Judged SeqFault Vars
of_type at own t xs = if same_seq own t then Is xs else Fails (TypeDiffers at (type_text own) (type_text t))

-- a variable, which is bound once in a row of patterns
abbrev pub variable_fits : Place → Name → Vars → SeqType → Judged SeqFault Vars
variable_fits at x xs t = if is_among x (variable_names xs) then Fails (NameTwiceInPattern at x) else Is ((x, t) ∷ xs)

-- the type of a list type's elements
abbrev pub item_type : Place → SeqType → Judged SeqFault SeqType
item_type at (s.List t) = Is t
item_type at t = Fails (TypeDiffers at (codes "[_]") (type_text t))

-- the types of a pair type's parts
abbrev pub pair_types : Place → SeqType → Judged SeqFault (SeqType × SeqType)
pair_types at (s.Pair t u) = Is (t, u)
pair_types at t = Fails (TypeDiffers at (codes "(_, _)") (type_text t))

abbrev pub another_type : Place → DataDecl → SeqType → Judged SeqFault (List SeqType)
another_type at d t = Fails (TypeDiffers at (type_text_at [] (whole d)) (type_text t))

-- the arguments of a data type at which a type stands
abbrev pub arguments_of : Place → DataDecl → SeqType → Judged SeqFault (List SeqType)
arguments_of at d (Named there x ts) = if same_name d.name.name x then Is (types.list_of ts) else another_type at d (Named there x ts)
arguments_of at d t = another_type at d t

-- a constructor of no data type: names are judged before, so it is in no well declared source
abbrev pub built : Place → Option ConstructorEntry → (parts : ℕ) → SeqType → (List SeqType → Judged SeqFault Vars) → Judged SeqFault Vars
built at (Some (OfData d n k)) parts t fit_parts =
    and_then (counted at parts (length k.parts)) (λ _. and_then (arguments_of at d t) (λ ts. fit_parts (parts_at d ts k)))
built at (Some (OfProtocol d n k)) parts t fit_parts = Fails (NeedsType at)
built at (Some (OfCoprotocol d n k)) parts t fit_parts = Fails (NeedsType at)
built at None parts t fit_parts = Fails (NeedsType at)

-- with the variables that were bound before, and those of the pattern before them
abbrev mutual
  pub fit : World → Vars → Pattern → SeqType → Judged SeqFault Vars
  fit w xs (Wildcard at) t = Is xs
  fit w xs (Variable at x) t = variable_fits at x xs t
  fit w xs (Number at n) t = of_type at Int t xs
  fit w xs (Negative at n) t = of_type at Int t xs
  fit w xs (Character at c) t = of_type at Char t xs
  fit w xs (Text at text) t = of_type at (s.List Char) t xs
  fit w xs (True at) t = of_type at Bool t xs
  fit w xs (False at) t = of_type at Bool t xs
  fit w xs (p.List at ps) t = and_then (item_type at t) (λ u. fit_each w xs ps u)
  fit w xs (Cons at p q) t = and_then (item_type at t) (λ u. and_then (fit w xs p u) (λ ys. fit w ys q t))
  fit w xs (Pair at p q) t = and_then (pair_types at t) (λ u. and_then (fit w xs p u.0) (λ ys. fit w ys q u.1))
  fit w xs (Constructor at k ps) t = built at (constructor_named w k) (number_of ps) t (fit_all w xs ps)

  -- elements of one type
  pub fit_each : World → Vars → Patterns → SeqType → Judged SeqFault Vars
  fit_each w xs no_patterns t = Is xs
  fit_each w xs (pattern_then p ps) t = and_then (fit w xs p t) (λ ys. fit_each w ys ps t)

  -- one pattern for each type; where one list is longer, its rest isn't looked at
  pub fit_all : World → Vars → Patterns → List SeqType → Judged SeqFault Vars
  fit_all w xs no_patterns ts = Is xs
  fit_all w xs (pattern_then p ps) [] = Is xs
  fit_all w xs (pattern_then p ps) (t ∷ ts) = and_then (fit w xs p t) (λ ys. fit_all w ys ps ts)
