-- Patterns as they are written: with one space round `:` and behind commas, and with parentheses round a
-- `:` pattern that is the head of another. Several columns are joined by commas.
use Rattle.std.specs.Prelude.{Bool, true, false, List, [], ◌∷◌, ◌++◌, codes, if◌then◌else◌}
use Rattle.std.specs.Fmt.{signed_decimal}
use Rattle.campl_types.specs.Forms.{Form, Forms, Anything, Variable, Number, Character, Truth, Nil, Cons, Pair, Built, none, more, forms_of}
use Rattle.campl_shown.specs.Types.{Written}
use Rattle.campl_shown.specs.Characters.{character_text}

abbrev pub truth_text : Bool → Written
truth_text true = codes "True"
truth_text false = codes "False"

abbrev pub is_cell : Form → Bool
is_cell (Cons p q) = true
is_cell _ = false

-- what is written of a pattern before a `:`
abbrev pub at_head : Form → Written → Written
at_head p text = if is_cell p then codes "(" ++ text ++ codes ")" else text

abbrev mutual
  pub form_text : Form → Written
  form_text Anything = codes "_"
  form_text (Variable x) = x
  form_text (Number n) = signed_decimal n
  form_text (Character c) = character_text c
  form_text (Truth b) = truth_text b
  form_text Nil = codes "[]"
  form_text (Cons p q) = at_head p (form_text p) ++ codes " : " ++ form_text q
  form_text (Pair p q) = codes "(" ++ form_text p ++ codes ", " ++ form_text q ++ codes ")"
  form_text (Built k ps) = k ++ part_texts ps

  -- a constructor's parts in parentheses, where it has any
  pub part_texts : Forms → Written
  part_texts none = []
  part_texts (more p ps) = codes "(" ++ (form_text p ++ more_texts ps) ++ codes ")"

  -- behind others
  pub more_texts : Forms → Written
  more_texts none = []
  more_texts (more p ps) = codes ", " ++ form_text p ++ more_texts ps

abbrev pub forms_text : List Form → Written
forms_text [] = []
forms_text (p ∷ ps) = form_text p ++ more_texts (forms_of ps)
