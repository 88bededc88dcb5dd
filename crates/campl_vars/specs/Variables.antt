-- Variables in scope as code holds them: bindings, each with the number of the one that it hides.
use Rattle.std.specs.Prelude.{◌≡◌, ℕ, List, [], ◌∷◌, Option, Some, None, cond, length, map, option_map, slice_get}
use Rattle.campl_tree.specs.declared.types.SeqType.{SeqType}
use Rattle.campl_tree.specs.Plain.SeqType.{SeqType as Seen}
use Rattle.campl_tree.specs.View.{view_seq}
use Rattle.campl_types.specs.Names.{Name, same_name}
use Rattle.campl_types.specs.Fits.{Vars}
use Rattle.campl_vars.specs.declared.vars.Binding.{Binding}

-- the variables with their types, the newest first
abbrev pub view_vars : List (Name × SeqType) → Vars
view_vars = map (λ (v : Name × SeqType). (v.0, view_seq v.1))

abbrev pub variable_names : Vars → List Name
variable_names = map (λ (v : Name × Seen). v.0)

abbrev pub bound : List Binding → List (Name × SeqType)
bound = map (λ (b : Binding). (b.name, b.seq_type))

-- the number of the newest binding of the name, counted from the oldest
abbrev pub newest : Name → List Binding → Option ℕ
newest x [] = None
newest x (b ∷ bs) = cond (same_name b.name x) (Some (length bs)) (newest x bs)

-- each tells which it hides
abbrev pub AreLinked : List Binding → Type 0
AreLinked [] = Unit {0}
AreLinked (b ∷ bs) = (b.hidden ≡ newest b.name bs) × AreLinked bs

-- the type of the binding of the number
abbrev pub seen_at : List Binding → Option ℕ → Option Seen
seen_at bs None = None
seen_at bs (Some n) = option_map (λ (b : Binding). view_seq b.seq_type) (slice_get bs n)
