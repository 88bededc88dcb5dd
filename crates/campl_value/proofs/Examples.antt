-- What the definitions say of small values.
use Rattle.std.proofs.Common.{◌≡◌, refl, true, false, [], ◌∷◌, ◌++◌, Some, None}
use Rattle.std.specs.Prelude.{pos, codes}
use Rattle.std.specs.Fmt.{digits}
use Rattle.std.specs.declared.cmp.Ordering.TheVariants.{Less, Greater}
use Rattle.campl_value.specs.declared.value.TheConstants.{MAX_DEPTH}
use Rattle.campl_value.specs.Tree.{Int, Char, Truth, Nil, Cell, Pair, built, depth_of}
use Rattle.campl_value.specs.List.{appended}
use Rattle.campl_value.specs.Text.{text_of, chars_of}
use Rattle.campl_value.specs.Compare.{compared}
use Rattle.campl_value.specs.Shown.{shown_text, shown_bytes}

-- the pair of 1 and the empty list is two deep
a_pair : depth_of (Pair (Int (pos 1)) Nil) ≡ 2
a_pair = refl

-- the text "ab" is a cell deeper for each character
a_text : depth_of (text_of (97 ∷ 98 ∷ [])) ≡ 3
a_text = refl

-- a constructor without parts is as deep as a constant, and one with parts deeper than the deepest of them
no_parts : depth_of (built 4 []) ≡ 1
no_parts = refl

two_parts : depth_of (built 4 (Nil ∷ text_of (97 ∷ []) ∷ [])) ≡ 3
two_parts = refl

-- a list of other values than characters is no text
no_text : chars_of (Cell (Char 97) (Cell Nil Nil)) ≡ None
no_text = refl

-- "a" and "bc" appended
appended_texts : appended (text_of (97 ∷ [])) (text_of (98 ∷ 99 ∷ [])) ≡ Some (text_of (97 ∷ 98 ∷ 99 ∷ []))
appended_texts = refl

-- a pair is no list
no_list : appended (Pair Nil Nil) Nil ≡ None
no_list = refl

-- a prefix stands first, and else the first difference decides
a_prefix : compared (text_of (97 ∷ [])) (text_of (97 ∷ 98 ∷ [])) ≡ Some Less
a_prefix = refl

a_difference : compared (text_of (98 ∷ [])) (text_of (97 ∷ 98 ∷ [])) ≡ Some Greater
a_difference = refl

false_first : compared (Truth false) (Truth true) ≡ Some Less
false_first = refl

two_types : compared (Truth false) (Int (pos 1)) ≡ None
two_types = refl

-- how deep values go
limit : MAX_DEPTH ≡ 4096
limit = refl

-- a backslash, a line feed, a bell and delete are shown as escapes, and an accent isn't
escapes_shown : shown_text (97 ∷ 92 ∷ 10 ∷ 7 ∷ 127 ∷ 233 ∷ []) ≡ codes "a\\\\\\n\\u{7}\\u{7f}" ++ 233 ∷ []
unfolding digits
escapes_shown = refl

-- the same in UTF-8, where the accent is two bytes
bytes_shown : shown_bytes (9 ∷ 233 ∷ []) ≡ codes "\\t" ++ 195 ∷ 169 ∷ []
unfolding lib.Utf8.encode
bytes_shown = refl
