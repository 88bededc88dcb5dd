-- Patterns as definitions see them.
use Rattle.std.specs.Prelude.{ℕ, ℤ, List as Many}
use Rattle.campl_tree.specs.declared.place.Place.{Place}
use Rattle.campl_tree.specs.declared.name.Name.{Name}

mutual
  pub data Pattern : Type 0 where
    Wildcard : Place → Pattern
    Variable : Place → Name → Pattern
    Number : Place → ℤ → Pattern
    Negative : Place → ℤ → Pattern
    Character : Place → ℕ → Pattern
    Text : Place → Many ℕ → Pattern
    True : Place → Pattern
    False : Place → Pattern
    Constructor : Place → Name → Patterns → Pattern
    List : Place → Patterns → Pattern
    Pair : Place → Pattern → Pattern → Pattern
    Cons : Place → Pattern → Pattern → Pattern

  -- parts, elements, or the patterns of a function's row
  pub data Patterns : Type 0 where
    no_patterns : Patterns
    pattern_then : Pattern → Patterns → Patterns
