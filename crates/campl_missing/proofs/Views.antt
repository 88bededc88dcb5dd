-- What the view of a form answers at each node.
use Rattle.std.proofs.Common.{◌≡◌, ℕ, ℤ, Bool, List, map, ap, sym, ◌∙◌}
use Rattle.campl_tree.specs.declared.name.Name.{Name}
use Rattle.campl_types.specs.Forms as f
use Rattle.campl_missing.specs.declared.form.Form.{Form}
use Rattle.campl_missing.specs.declared.form.Form.TheFolds.{fold-roll-Form}
use Rattle.campl_missing.specs.declared.form.Form.TheOpen.{Form-F}
use Rattle.campl_missing.specs.declared.form.Form.TheVariants as form
use Rattle.campl_missing.specs.View.{form_layer, view_form}

pub view_form-Anything : view_form form.Anything ≡ f.Anything
unfolding view_form
view_form-Anything = ap view_form (sym form.rolls-Anything) ∙ fold-roll-Form f.Form form_layer Form-F.Anything

pub view_form-Variable : (x : Name) → view_form (form.Variable x) ≡ f.Variable x
unfolding view_form
view_form-Variable x = ap view_form (sym (form.rolls-Variable x)) ∙ fold-roll-Form f.Form form_layer (Form-F.Variable x)

pub view_form-Number : (n : ℤ) → view_form (form.Number n) ≡ f.Number n
unfolding view_form
view_form-Number n = ap view_form (sym (form.rolls-Number n)) ∙ fold-roll-Form f.Form form_layer (Form-F.Number n)

pub view_form-Character : (c : ℕ) → view_form (form.Character c) ≡ f.Character c
unfolding view_form
view_form-Character c = ap view_form (sym (form.rolls-Character c)) ∙ fold-roll-Form f.Form form_layer (Form-F.Character c)

pub view_form-Truth : (b : Bool) → view_form (form.Truth b) ≡ f.Truth b
unfolding view_form
view_form-Truth b = ap view_form (sym (form.rolls-Truth b)) ∙ fold-roll-Form f.Form form_layer (Form-F.Truth b)

pub view_form-Nil : view_form form.Nil ≡ f.Nil
unfolding view_form
view_form-Nil = ap view_form (sym form.rolls-Nil) ∙ fold-roll-Form f.Form form_layer Form-F.Nil

pub view_form-Cons : (p : Form) (q : Form) → view_form (form.Cons p q) ≡ f.Cons (view_form p) (view_form q)
unfolding view_form
view_form-Cons p q = ap view_form (sym (form.rolls-Cons p q)) ∙ fold-roll-Form f.Form form_layer (Form-F.Cons p q)

pub view_form-Pair : (p : Form) (q : Form) → view_form (form.Pair p q) ≡ f.Pair (view_form p) (view_form q)
unfolding view_form
view_form-Pair p q = ap view_form (sym (form.rolls-Pair p q)) ∙ fold-roll-Form f.Form form_layer (Form-F.Pair p q)

pub view_form-Built : (x : Name) (ps : List Form) → view_form (form.Built x ps) ≡ f.Built x (f.forms_of (map view_form ps))
unfolding view_form
view_form-Built x ps = ap view_form (sym (form.rolls-Built x ps)) ∙ fold-roll-Form f.Form form_layer (Form-F.Built x ps)

pub ruleset form_views = (view_form-Anything, view_form-Variable, view_form-Number, view_form-Character, view_form-Truth, view_form-Nil, view_form-Cons, view_form-Pair, view_form-Built)
