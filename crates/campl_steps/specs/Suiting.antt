-- Whether a message is such as one waits for.
use Rattle.std.specs.Prelude.{◌≡◌, ℕ, Bool, true, false, List, None, is_some, slice_get}
use Rattle.campl_value.specs.Tree.{Tree, Char, Nil, Cell}
use Rattle.campl_value.specs.Text.{chars_of}
use Rattle.campl_value.specs.declared.message.Message.TheVariants.{Word, Pick, Ends as EndPair}
use Rattle.campl_cells.specs.Parts.{Mail}
use Rattle.campl_steps.specs.declared.suiting.Front.{Front}
use Rattle.campl_steps.specs.declared.suiting.Front.TheVariants as F

-- a value
abbrev pub is_word : Mail → Bool
is_word (Word v) = true
is_word (Pick n) = false
is_word (EndPair e f) = false

-- the ends of two channels
abbrev pub is_ends : Mail → Bool
is_ends (Word v) = false
is_ends (Pick n) = false
is_ends (EndPair e f) = true

-- a constructor that has one of these places
abbrev pub is_pick : List ℕ → Mail → Bool
is_pick targets (Word v) = false
is_pick targets (Pick n) = is_some (slice_get targets n)
is_pick targets (EndPair e f) = false

-- a value is the empty text, or a character in front of the rest, or no text
abbrev pub IsFront : Tree → Front → Type 0
IsFront t F.End = t ≡ Nil
IsFront t (F.Letter rest) = (c : ℕ) × (t ≡ Cell (Char c) rest)
IsFront t F.NoText = chars_of t ≡ None
