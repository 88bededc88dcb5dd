-- The order of values. The comparable types are integers, characters, truths and texts.
use Rattle.std.specs.Prelude.{Option, Some, None}
use Rattle.std.specs.declared.cmp.Ordering.{Ordering}
use Rattle.std.specs.declared.cmp.Ordering.TheVariants.{Less, Equal, Greater}
use Rattle.std.specs.Ordering.{nat_cmp, int_cmp, bool_cmp, partial_ordering_then}
use Rattle.campl_value.specs.Tree.{Tree, Int, Char, Truth, Nil, Cell}

-- Texts go by their first characters that differ, a prefix before what is longer. Nothing behind is looked at,
-- and None comes where what is looked at isn't two texts.
abbrev pub texts_compared : Tree → Tree → Option Ordering
texts_compared Nil Nil = Some Equal
texts_compared Nil (Cell (Char b) right) = Some Less
texts_compared (Cell (Char a) left) Nil = Some Greater
texts_compared (Cell (Char a) left) (Cell (Char b) right) = partial_ordering_then (Some (nat_cmp a b)) (texts_compared left right)
texts_compared _ _ = None

-- The order of two values of one comparable type, with False before True, and None where they aren't.
abbrev pub compared : Tree → Tree → Option Ordering
compared (Int a) (Int b) = Some (int_cmp a b)
compared (Char a) (Char b) = Some (nat_cmp a b)
compared (Truth a) (Truth b) = Some (bool_cmp a b)
compared left right = texts_compared left right
