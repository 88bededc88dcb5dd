-- The form of a pattern is what it asks of a value. A text asks for the list of its characters, `[p, q]`
-- is `p : q : []`, and `-n` is the opposite of the number n.
use Rattle.std.specs.Prelude.{ℕ, zero, suc, ℤ, neg_ℤ, Bool, true, false, List, [], ◌∷◌}
use Rattle.campl_tree.specs.Plain.Pattern as p
use Rattle.campl_types.specs.Names.{Name}

mutual
  pub data Form : Type 0 where
    Anything : Form
    Variable : Name → Form
    Number : ℤ → Form
    Character : ℕ → Form
    Truth : Bool → Form
    Nil : Form
    Cons : (head tail : Form) → Form
    Pair : (a b : Form) → Form
    Built : (constructor : Name) (parts : Forms) → Form

  -- the parts of a constructor
  pub data Forms : Type 0 where
    none : Forms
    more : Form → Forms → Forms

abbrev pub forms_of : List Form → Forms
forms_of [] = none
forms_of (f ∷ fs) = more f (forms_of fs)

abbrev pub list_of : Forms → List Form
list_of none = []
list_of (more f fs) = f ∷ list_of fs

abbrev pub text_form : List ℕ → Form
text_form [] = Nil
text_form (c ∷ cs) = Cons (Character c) (text_form cs)

abbrev mutual
  pub form_of : p.Pattern → Form
  form_of (p.Wildcard at) = Anything
  form_of (p.Variable at x) = Variable x
  form_of (p.Number at n) = Number n
  form_of (p.Negative at n) = Number (neg_ℤ n)
  form_of (p.Character at c) = Character c
  form_of (p.Text at text) = text_form text
  form_of (p.True at) = Truth true
  form_of (p.False at) = Truth false
  form_of (p.Constructor at x ps) = Built x (part_forms ps)
  form_of (p.List at ps) = element_forms ps
  form_of (p.Pair at p q) = Pair (form_of p) (form_of q)
  form_of (p.Cons at p q) = Cons (form_of p) (form_of q)

  pub part_forms : p.Patterns → Forms
  part_forms p.no_patterns = none
  part_forms (p.pattern_then p ps) = more (form_of p) (part_forms ps)

  pub element_forms : p.Patterns → Form
  element_forms p.no_patterns = Nil
  element_forms (p.pattern_then p ps) = Cons (form_of p) (element_forms ps)

-- so many patterns that ask nothing
abbrev pub anythings : ℕ → List Form
anythings zero = []
anythings (suc n) = Anything ∷ anythings n
