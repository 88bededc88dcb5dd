-- Texts as lists of characters.
use Rattle.std.specs.Prelude.{◌≡◌, refl, ℕ, ◌<◌, List, [], ◌∷◌, length, Option, Some, None, option_map}
use Rattle.std.proofs.Common.{ap}
use Rattle.campl_value.specs.declared.text.Front.{Front}
use Rattle.campl_value.specs.declared.text.Front.TheVariants as F
use Rattle.campl_value.specs.declared.text.Row.{Row}
use Rattle.campl_value.specs.declared.text.Row.TheVariants as R
use Rattle.campl_value.specs.Tree.{Tree, Char, Nil, Cell}
use Rattle.campl_value.specs.List.{letters}

-- the list of these characters
abbrev pub text_of : List ℕ → Tree
text_of [] = Nil
text_of (c ∷ cs) = Cell (Char c) (text_of cs)

-- the characters of a list of characters, and None of any other value
abbrev pub chars_of : Tree → Option (List ℕ)
chars_of Nil = Some []
chars_of (Cell (Char c) rest) = option_map (λ cs. c ∷ cs) (chars_of rest)
chars_of _ = None

-- a text is read back as its characters
pub chars_of_text : (cs : List ℕ) → chars_of (text_of cs) ≡ Some cs
chars_of_text [] = refl
chars_of_text (c ∷ cs) = ap (option_map (λ rest. c ∷ rest)) (chars_of_text cs)

-- whether a value is the empty text or begins with a character
abbrev pub Begins : Tree → Type 0
Begins Nil = Unit {0}
Begins (Cell (Char c) rest) = Unit {0}
Begins _ = ⊥

-- what a text begins with
abbrev pub IsFront : Tree → Front → Type 0
IsFront t (F.End) = t ≡ Nil
IsFront t (F.Letter c rest) = t ≡ Cell (Char c) rest
IsFront t (F.NoText) = ¬ (Begins t)

-- a text is its characters in front of the empty list
pub letters_of_text : (cs : List ℕ) → letters cs Nil ≡ text_of cs
letters_of_text [] = refl
letters_of_text (c ∷ cs) = ap (Cell (Char c)) (letters_of_text cs)

-- what a text begins with, letters in a row or one
abbrev pub IsRow : Tree → Row → Type 0
IsRow t (R.End) = t ≡ Nil
IsRow t (R.Letter c rest) = t ≡ Cell (Char c) rest
IsRow t (R.Letters cs rest) = (t ≡ letters cs.now rest) × (0 < length cs.now)
IsRow t (R.NoText) = ¬ (Begins t)
