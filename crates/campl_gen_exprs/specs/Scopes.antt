-- The numbers of variables as code holds them: bindings, each with the number of the one that it hides.
use Rattle.std.specs.Prelude.{◌≡◌, ℕ, List, [], ◌∷◌, Option, Some, None, cond, length, map, option_map, slice_get}
use Rattle.campl_types.specs.Names.{Name, same_name}
use Rattle.campl_code.specs.Numbers.{Numbers}
use Rattle.campl_gen_exprs.specs.declared.scope.Binding.{Binding}

abbrev pub bound : List Binding → Numbers
bound = map (λ (b : Binding). (b.name, b.number))

-- the place of the newest binding of the name, counted from the oldest
abbrev pub newest : Name → List Binding → Option ℕ
newest x [] = None
newest x (b ∷ bs) = cond (same_name b.name x) (Some (length bs)) (newest x bs)

-- each tells which it hides
abbrev pub AreLinked : List Binding → Type 0
AreLinked [] = Unit {0}
AreLinked (b ∷ bs) = (b.hidden ≡ newest b.name bs) × AreLinked bs

-- the number of the binding at a place
abbrev pub seen_at : List Binding → Option ℕ → Option ℕ
seen_at bs None = None
seen_at bs (Some n) = option_map (λ (b : Binding). b.number) (slice_get bs n)
