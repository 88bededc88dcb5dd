-- What a row that matches binds: its variables, in order.
use Rattle.std.proofs.Common.{◌≡◌, ◌∙◌, refl, sym, ap, ℕ, suc, arith, Bool, true, false, List, [], ◌∷◌, ◌++◌, Option, Some, None, if◌then◌else◌, eqb, length, append_assoc, length-append, slice_get}
use Rattle.std.proofs.lemmas.List.{append-nil}
use Rattle.std.specs.Ordering.{int_eq}
use Rattle.campl_tree.specs.Plain.Pattern.{Pattern, Patterns, Wildcard, Variable, Number, Negative, Character, Text, True, False, Constructor, Pair, Cons, no_patterns, pattern_then}
use Rattle.campl_tree.specs.Plain.Pattern as p
use Rattle.campl_value.specs.Tree as v
use Rattle.campl_value.specs.Tree.{Tree, Trees}
use Rattle.campl_types.specs.Names.{Name}
use Rattle.campl_types.specs.Forms as form
use Rattle.campl_types.specs.Forms.{Form, Forms, form_of, part_forms, element_forms, text_form, list_of}
use Rattle.campl_types.specs.Matching.{Bindings, both, where_holds, matched, all_matched, row_matched, first_match, or_next, number_of, is_number, same_truth}
use Rattle.campl_types.specs.Patterns.{bound_in, bound_in_all}
use Rattle.campl_types.specs.World.{World}
use Rattle.campl_evaluation.proofs.Bound.{both-match}
use Rattle.campl_code.specs.Decisions.{names_in, names_in_all, row_names, in_order}

-- the names of bindings in the order in which they came
abbrev pub name_order : Bindings → List Name
name_order [] = []
name_order (b ∷ bs) = name_order bs ++ b.0 ∷ []

pub order-append : (xs ys : Bindings) → name_order (xs ++ ys) ≡ name_order ys ++ name_order xs
order-append [] ys = sym (append-nil (name_order ys))
order-append (b ∷ xs) ys = ap (λ (l : List Name). l ++ b.0 ∷ []) (order-append xs ys) ∙ append_assoc (name_order ys) (name_order xs) (b.0 ∷ [])

both-names : (o q : Option Bindings) (bs : Bindings) (xs ys : List Name) → both o q ≡ Some bs → ((cs : Bindings) → o ≡ Some cs → name_order cs ≡ xs) → ((ds : Bindings) → q ≡ Some ds → name_order ds ≡ ys) → name_order bs ≡ xs ++ ys
both-names o q bs xs ys i first second =
    let r = both-match o q bs i in
    ap name_order (sym r.4) ∙ order-append r.1 r.0 ∙ ap (λ (l : List Name). l ++ name_order r.1) (first r.0 r.2) ∙ ap (λ (l : List Name). xs ++ l) (second r.1 r.3)

holds-names : (b : Bool) (bs : Bindings) → where_holds b ≡ Some bs → name_order bs ≡ []
holds-names true bs i = ap name_order (let k : bs ≡ [] = cc i in k)
holds-names false bs i = absurd (cc i)

none-names : (bs : Bindings) → Some [] ≡ Some bs → name_order bs ≡ []
none-names bs i = ap name_order (let k : bs ≡ [] = cc i in k)

if-names : (b : Bool) (o : Option Bindings) (bs : Bindings) (xs : List Name) → (if b then o else None) ≡ Some bs → (o ≡ Some bs → name_order bs ≡ xs) → name_order bs ≡ xs
if-names true o bs xs j next = next j
if-names false o bs xs j next = absurd (cc j)

mutual
  pub matched-names : (w : World) (f : Form) (t : Tree) (bs : Bindings) → matched w f t ≡ Some bs → name_order bs ≡ names_in f
  matched-names w form.Anything t bs i = none-names bs i
  matched-names w (form.Variable x) t bs i = ap name_order (let k : bs ≡ (x, t) ∷ [] = cc i in k)
  matched-names w (form.Number n) (v.Int m) bs i = holds-names (int_eq n m) bs i
  matched-names w (form.Character c) (v.Char d) bs i = holds-names (eqb c d) bs i
  matched-names w (form.Truth b) (v.Truth c) bs i = holds-names (same_truth b c) bs i
  matched-names w form.Nil v.Nil bs i = none-names bs i
  matched-names w (form.Cons p q) (v.Cell a b) bs i =
      both-names (matched w p a) (matched w q b) bs (names_in p) (names_in q) i (λ cs. matched-names w p a cs) (λ ds. matched-names w q b ds)
  matched-names w (form.Pair p q) (v.Pair a b) bs i =
      both-names (matched w p a) (matched w q b) bs (names_in p) (names_in q) i (λ cs. matched-names w p a cs) (λ ds. matched-names w q b ds)
  matched-names w (form.Built k ps) (v.Built n vs) bs i = if-names (is_number (number_of w k) n) (all_matched w ps vs) bs (names_in_all ps) i (λ j. all-names w ps vs bs j)
  matched-names w f t bs i = absurd (cc i)

  all-names : (w : World) (ps : Forms) (vs : Trees) (bs : Bindings) → all_matched w ps vs ≡ Some bs → name_order bs ≡ names_in_all ps
  all-names w form.none v.none bs i = none-names bs i
  all-names w (form.more p ps) (v.more t ts) bs i =
      both-names (matched w p t) (all_matched w ps ts) bs (names_in p) (names_in_all ps) i (λ cs. matched-names w p t cs) (λ ds. all-names w ps ts ds)
  all-names w ps vs bs i = absurd (cc i)

pub row-bound : (w : World) (ps : List Form) (vs : List Tree) (bs : Bindings) → row_matched w ps vs ≡ Some bs → name_order bs ≡ row_names ps
row-bound w [] [] bs i = none-names bs i
row-bound w (p ∷ ps) (t ∷ ts) bs i = both-names (matched w p t) (row_matched w ps ts) bs (names_in p) (row_names ps) i (λ cs. matched-names w p t cs) (λ ds. row-bound w ps ts ds)
row-bound w [] (t ∷ ts) bs i = absurd (cc i)
row-bound w (p ∷ ps) [] bs i = absurd (cc i)

-- Rows of patterns

text-names : (cs : List ℕ) → names_in (text_form cs) ≡ []
text-names [] = refl
text-names (c ∷ cs) = text-names cs

mutual
  pub form-names : (q : Pattern) → names_in (form_of q) ≡ bound_in q
  form-names (Wildcard at) = refl
  form-names (Variable at x) = refl
  form-names (Number at n) = refl
  form-names (Negative at n) = refl
  form-names (Character at c) = refl
  form-names (Text at text) = text-names text
  form-names (True at) = refl
  form-names (False at) = refl
  form-names (Constructor at x ps) = parts-names ps
  form-names (p.List at ps) = elements-names ps
  form-names (Pair at a b) = ap (λ (l : List Name). l ++ names_in (form_of b)) (form-names a) ∙ ap (λ (l : List Name). bound_in a ++ l) (form-names b)
  form-names (Cons at a b) = ap (λ (l : List Name). l ++ names_in (form_of b)) (form-names a) ∙ ap (λ (l : List Name). bound_in a ++ l) (form-names b)

  parts-names : (ps : Patterns) → names_in_all (part_forms ps) ≡ bound_in_all ps
  parts-names no_patterns = refl
  parts-names (pattern_then a ps) = ap (λ (l : List Name). l ++ names_in_all (part_forms ps)) (form-names a) ∙ ap (λ (l : List Name). bound_in a ++ l) (parts-names ps)

  elements-names : (ps : Patterns) → names_in (element_forms ps) ≡ bound_in_all ps
  elements-names no_patterns = refl
  elements-names (pattern_then a ps) = ap (λ (l : List Name). l ++ names_in (element_forms ps)) (form-names a) ∙ ap (λ (l : List Name). bound_in a ++ l) (elements-names ps)

-- the names of one pattern, and of a function's patterns
pub one-names : (q : Pattern) → row_names (form_of q ∷ []) ≡ bound_in q
one-names q = append-nil (names_in (form_of q)) ∙ form-names q

pub patterns-names : (ps : Patterns) → row_names (list_of (part_forms ps)) ≡ bound_in_all ps
patterns-names no_patterns = refl
patterns-names (pattern_then a ps) = ap (λ (l : List Name). l ++ row_names (list_of (part_forms ps))) (form-names a) ∙ ap (λ (l : List Name). bound_in a ++ l) (patterns-names ps)

-- The row that is found

pub same-length : (bs : Bindings) → length (in_order bs) ≡ length (name_order bs)
same-length [] = refl
same-length (b ∷ bs) = omega (arith, same-length bs, length-append (in_order bs) (b.1 ∷ []), length-append (name_order bs) (b.0 ∷ []))

pub some-same : {A : Type 0} {x y : A} → Some x ≡ Some y → x ≡ y
some-same e = cc e

pub found-row : (w : World) (rows : List (List Form)) (vs : List Tree) (i : ℕ) (bs : Bindings) → first_match w rows vs ≡ Some (i, bs) → (r : List Form) × (slice_get rows i ≡ Some r) × (row_matched w r vs ≡ Some bs)
found-row w [] vs i bs e = absurd (cc e)
found-row w (r ∷ rows) vs i bs e = go (row_matched w r vs) refl (first_match w rows vs) refl (found-row w rows vs) e
  where
    go : (o : Option Bindings) → row_matched w r vs ≡ o → (l : Option (ℕ × Bindings)) → first_match w rows vs ≡ l
        → ((i : ℕ) (bs : Bindings) → first_match w rows vs ≡ Some (i, bs) → (q : List Form) × (slice_get rows i ≡ Some q) × (row_matched w q vs ≡ Some bs))
        → or_next o l ≡ Some (i, bs) → (q : List Form) × (slice_get (r ∷ rows) i ≡ Some q) × (row_matched w q vs ≡ Some bs)
    go (Some xs) h l k later e =
        let pair : (0, xs) ≡ (i, bs) = some-same e in
        let z : i ≡ 0 = ap (λ (p : ℕ × Bindings). p.0) (sym pair) in
        let same : xs ≡ bs = ap (λ (p : ℕ × Bindings). p.1) pair in
        (r, ap (λ n. slice_get (r ∷ rows) n) z, h ∙ ap Some same)
    go None h (Some q) k later e =
        let pair : (suc q.0, q.1) ≡ (i, bs) = some-same e in
        let z : i ≡ suc q.0 = ap (λ (p : ℕ × Bindings). p.0) (sym pair) in
        let same : q.1 ≡ bs = ap (λ (p : ℕ × Bindings). p.1) pair in
        let f = later q.0 q.1 k in
        (f.0, ap (λ n. slice_get (r ∷ rows) n) z ∙ f.1, f.2 ∙ ap Some same)
    go None h None k later e = absurd (cc e)
