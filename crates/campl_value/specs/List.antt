-- Lists, made of cells that end in the empty list.
use Rattle.std.specs.Prelude.{ℕ, List, [], ◌∷◌, Option, Some, None, option_map}
use Rattle.campl_value.specs.Tree.{Tree, Char, Nil, Cell}

-- the items of a list, and None of any other value
abbrev pub items_of : Tree → Option (List Tree)
items_of Nil = Some []
items_of (Cell head tail) = option_map (λ items. head ∷ items) (items_of tail)
items_of _ = None

-- a value with these items in front, a cell for each
abbrev pub in_front : List Tree → Tree → Tree
in_front [] behind = behind
in_front (item ∷ items) behind = Cell item (in_front items behind)

-- a value with these characters in front, a cell for each
abbrev pub letters : List ℕ → Tree → Tree
letters [] behind = behind
letters (c ∷ cs) behind = Cell (Char c) (letters cs behind)

-- a list with a value behind its last cell, and None where the first is no list
abbrev pub appended : Tree → Tree → Option Tree
appended left right = option_map (λ items. in_front items right) (items_of left)
