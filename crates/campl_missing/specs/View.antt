-- The forms of definitions that the code's forms and heads stand for, without pointers.
use Rattle.std.specs.Prelude.{List, map, Option, None, Some, [], ◌∷◌}
use Rattle.campl_tree.specs.View.{view_seq}
use Rattle.campl_types.specs.Forms as f
use Rattle.campl_types.specs.Missing.{Head, IsNumber, IsCharacter, IsTruth, IsNil, IsCons, IsPair, IsBuilt, IsOther}
use Rattle.campl_missing.specs.declared.form.Form.{Form, fold-Form}
use Rattle.campl_missing.specs.declared.form.Form.TheOpen.{Form-F}
use Rattle.campl_missing.specs.declared.head.Head as declared
use Rattle.campl_missing.specs.declared.head.Head.TheVariants as head

-- one layer, its parts seen already
abbrev pub form_layer : Form-F f.Form → f.Form
form_layer Form-F.Anything = f.Anything
form_layer (Form-F.Variable x) = f.Variable x
form_layer (Form-F.Number n) = f.Number n
form_layer (Form-F.Character c) = f.Character c
form_layer (Form-F.Truth b) = f.Truth b
form_layer Form-F.Nil = f.Nil
form_layer (Form-F.Cons p q) = f.Cons p q
form_layer (Form-F.Pair p q) = f.Pair p q
form_layer (Form-F.Built x ps) = f.Built x (f.forms_of ps)

unfoldable pub view_form : Form → f.Form
view_form = fold-Form f.Form form_layer

abbrev pub view_forms : List Form → List f.Form
view_forms = map view_form

abbrev pub view_rows : List (List Form) → List (List f.Form)
view_rows = map view_forms

abbrev pub view_head : declared.Head → Head
view_head (head.Number n) = IsNumber n
view_head (head.Character c) = IsCharacter c
view_head (head.Truth b) = IsTruth b
view_head head.Nil = IsNil
view_head (head.Cons t) = IsCons (view_seq t)
view_head (head.Pair t u) = IsPair (view_seq t) (view_seq u)
view_head (head.Built x ts) = IsBuilt x (map view_seq ts)
view_head head.Other = IsOther

abbrev pub view_heads : List declared.Head → List Head
view_heads = map view_head

abbrev pub head_seen : Option declared.Head → List Head
head_seen None = []
head_seen (Some h) = view_head h ∷ []
