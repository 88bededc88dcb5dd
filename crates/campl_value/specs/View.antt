-- What a node and a place in a value are seen as.
use Rattle.std.specs.Prelude.{◌≡◌, ℕ, ◌<◌, ◌≤◌, length, drop}
use Rattle.campl_value.specs.Tree.{Tree, Int, Char, Truth, Nil, Cell, Pair, built, depth_of}
use Rattle.campl_value.specs.List.{letters}
use Rattle.campl_value.specs.declared.value.Letters.{Letters}
use Rattle.campl_value.specs.declared.value.Node.{Node}
use Rattle.campl_value.specs.declared.value.Node.TheVariants as N
use Rattle.campl_value.specs.declared.value.Place.{Place}
use Rattle.campl_value.specs.declared.value.Place.TheVariants as P
use Rattle.campl_value.specs.declared.value.TheConstants.{MAX_DEPTH}

-- the letters from a place on, and what is behind them
abbrev pub letters_from : ℕ → Letters → Tree
letters_from from text = letters (drop from text.characters.items) text.behind

-- there is a letter at this place, and there are no more letters than a value is deep
abbrev pub HasLetterAt : ℕ → Letters → Type 0
HasLetterAt from text = (from < length text.characters.items) × (length text.characters.items ≤ MAX_DEPTH)

-- the same, and what begins at this place has this depth
abbrev pub IsRest : ℕ → ℕ → Letters → Type 0
IsRest depth from text =
    (depth ≡ depth_of (letters_from from text)) × (depth ≤ MAX_DEPTH) × HasLetterAt from text

abbrev pub tree_of : Node → Tree
tree_of (N.Int n) = Int n
tree_of (N.Char n) = Char n
tree_of (N.Truth n) = Truth n
tree_of (N.Nil) = Nil
tree_of (N.Cell parts) = Cell parts.value.0 parts.value.1
tree_of (N.Text from text) = letters_from from text.value
tree_of (N.Pair parts) = Pair parts.value.0 parts.value.1
tree_of (N.Built c parts) = built c parts.value.items

-- a text has a letter
abbrev pub HasLetter : Node → Type 0
HasLetter (N.Text from text) = HasLetterAt from text.value
HasLetter _ = Unit {0}

abbrev pub tree_at : Place → Tree
tree_at (P.Lent value) = value.now
tree_at (P.Letter c) = Char c
tree_at (P.Rest depth from text) = letters_from from text.now.value

-- the rest of a text has a letter, and its depth is known
abbrev pub IsPlace : Place → Type 0
IsPlace (P.Rest depth from text) = IsRest depth from text.now.value
IsPlace _ = Unit {0}
