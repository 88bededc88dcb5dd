-- Worked examples of patterns as they are written.
use Rattle.std.proofs.Common.{◌≡◌, refl, pos, negsuc, false, [], ◌∷◌}
use Rattle.std.specs.Fmt.{digits}
use Rattle.std.specs.Prelude.{codes}
use Rattle.campl_types.specs.Forms.{Anything, Number, Character, Truth, Nil, Cons, Built, none, more}
use Rattle.campl_missing.specs.Texts.{form_text, forms_text}

-- parentheses at a head, and none at a tail
nested : form_text (Cons (Cons Anything Anything) Anything) ≡ codes "(_ : _) : _"
nested = refl

longer : form_text (Cons Nil (Cons Anything Nil)) ≡ codes "[] : _ : []"
longer = refl

columns : forms_text (Truth false ∷ Nil ∷ []) ≡ codes "False, []"
columns = refl

parts : form_text (Built (codes "Node") (more Anything (more Nil none))) ≡ codes "Node(_, [])"
parts = refl

alone : form_text (Built (codes "Leaf") none) ≡ codes "Leaf"
alone = refl

number : form_text (Number (pos 0)) ≡ codes "0"
unfolding digits
number = refl

negative : form_text (Number (negsuc 29)) ≡ codes "-30"
unfolding digits
negative = refl

quote : form_text (Character 39) ≡ codes "'\\''"
quote = refl
