-- Open blocks and brackets, the last opened first.
use Rattle.std.specs.Prelude.{ℕ, suc, Bool, true, false, List, [], ◌∷◌, nat_lt, nat_le, Option, Some, None}
use Rattle.std.specs.List.{count_by}
use Rattle.campl_lex.specs.declared.stack.Enclosure.{Enclosure}
use Rattle.campl_lex.specs.declared.stack.Enclosure.TheVariants.{Block, Bracket}

-- a bracket
abbrev pub is_bracket : Enclosure → Bool
is_bracket (Block c) = false
is_bracket (Bracket c) = true

-- a block of this column or a greater one
abbrev pub is_block_from : ℕ → Enclosure → Bool
is_block_from c (Block d) = nat_le c d
is_block_from c (Bracket d) = false

-- some bracket is open
abbrev pub has_bracket : List Enclosure → Bool
has_bracket stack = nat_lt 0 (count_by is_bracket stack)

-- the column of the nearest block
abbrev pub nearest : List Enclosure → ℕ
nearest [] = 0
nearest (Block c ∷ stack) = c
nearest (Bracket c ∷ stack) = c

-- whether there is a topmost one, and it passes
abbrev pub tops : (Enclosure → Bool) → Option Enclosure → Bool
tops p None = false
tops p (Some e) = p e

-- how many blocks are open
abbrev pub block_count : List Enclosure → ℕ
block_count [] = 0
block_count (Block c ∷ stack) = suc (block_count stack)
block_count (Bracket c ∷ stack) = block_count stack
