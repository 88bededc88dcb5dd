-- What each pattern puts behind a row.
use Rattle.std.proofs.Common.{◌≡◌, ◌∙◌, refl, sym, ap, ℕ, suc, ◌+◌, ◌<◌, ◌≤◌, ℤ, neg_ℤ, true, false, List, [], ◌∷◌, ◌++◌, append_assoc, map, drop, length, get_or, add-one, Bool, if◌then◌else◌, eqb, eqb-true, eq-eqb}
use Rattle.std.proofs.lemmas.List.{append-nil, drop_all}
use Rattle.campl_tree.specs.declared.place.Place.{Place}
use Rattle.campl_tree.specs.declared.pattern.Pattern.{Pattern}
use Rattle.campl_tree.specs.declared.pattern.Pattern.TheVariants as pattern
use Rattle.campl_tree.specs.Plain.Pattern as p
use Rattle.campl_tree.specs.View.{view_pattern, patterns}
use Rattle.campl_tree.proofs.Views.{view_pattern-Wildcard, view_pattern-Variable, view_pattern-Number, view_pattern-Negative, view_pattern-Character, view_pattern-Text, view_pattern-True, view_pattern-False, view_pattern-Constructor, view_pattern-List, view_pattern-Pair, view_pattern-Cons}
use Rattle.campl_types.specs.Names.{Name}
use Rattle.campl_types.specs.Forms as form
use Rattle.campl_types.specs.Forms.{Form, Forms, form_of, part_forms, element_forms, text_form, list_of}
use Rattle.campl_types.specs.Matching.{number_of}
use Rattle.campl_types.specs.World.{World}
use Rattle.campl_seqcheck.proofs.Answered.{drop-at}
use Rattle.campl_code.specs.Decisions.{Head, Spot}
use Rattle.campl_code.specs.Compiled.{Asked, Flat, built_test, count_forms, flat_tests, never, tests_in, tests_in_parts, spots_in, spots_in_parts, row_tests, row_spots}
use Rattle.campl_match.specs.Flattened.{flat_row, with_test, with_spot, with_form, with_pattern, with_elements, with_text, with_parts}

abbrev made : Flat → List Asked → List Spot → Flat
made r ts ss = record r { tests = ts; spots = ss }

nothing : (r : Flat) → made r (r.tests ++ []) (r.spots ++ []) ≡ r
nothing r = ap (λ ts. made r ts (r.spots ++ [])) (append-nil r.tests) ∙ ap (made r r.tests) (append-nil r.spots)

a-test : (a : Asked) (r : Flat) → made r (r.tests ++ a ∷ []) (r.spots ++ []) ≡ with_test a r
a-test a r = ap (made r (r.tests ++ a ∷ [])) (append-nil r.spots)

a-spot : (s : Spot) (r : Flat) → made r (r.tests ++ []) (r.spots ++ s ∷ []) ≡ with_spot s r
a-spot s r = ap (λ ts. made r ts (r.spots ++ s ∷ [])) (append-nil r.tests)

behind-one : {A : Type 0} → (xs : List A) (a : A) (ys zs : List A) → xs ++ a ∷ (ys ++ zs) ≡ ((xs ++ a ∷ []) ++ ys) ++ zs
behind-one [] a ys zs = refl
behind-one (x ∷ xs) a ys zs = ap (λ l. x ∷ l) (behind-one xs a ys zs)

-- a test, and what two parts ask
two : (a : Asked) (t u : List Asked) (s v : List Spot) (r : Flat)
    → made r (r.tests ++ a ∷ (t ++ u)) (r.spots ++ (s ++ v)) ≡ made r (((r.tests ++ a ∷ []) ++ t) ++ u) ((r.spots ++ s) ++ v)
two a t u s v r = ap (λ ts. made r ts (r.spots ++ (s ++ v))) (behind-one r.tests a t u) ∙ ap (made r (((r.tests ++ a ∷ []) ++ t) ++ u)) (sym (append_assoc r.spots s v))

-- a test, and what parts ask
one : (a : Asked) (t : List Asked) (s : List Spot) (r : Flat) → made r (r.tests ++ a ∷ t) (r.spots ++ s) ≡ made r ((r.tests ++ a ∷ []) ++ t) (r.spots ++ s)
one a t s r = ap (λ ts. made r ts (r.spots ++ s)) (sym (append_assoc r.tests (a ∷ []) t))

-- first what one asks, then what others do
both : (t u : List Asked) (s v : List Spot) (r : Flat)
    → made r (r.tests ++ (t ++ u)) (r.spots ++ (s ++ v)) ≡ made r ((r.tests ++ t) ++ u) ((r.spots ++ s) ++ v)
both t u s v r = ap (λ ts. made r ts (r.spots ++ (s ++ v))) (sym (append_assoc r.tests t u)) ∙ ap (made r ((r.tests ++ t) ++ u)) (sym (append_assoc r.spots s v))

counted : (ps : List Pattern) → count_forms (part_forms (patterns (map view_pattern ps))) ≡ length ps
counted [] = refl
counted (p ∷ ps) = ap suc (counted ps)

text-tests : (w : World) (s : Spot) (text : List ℕ) → tests_in w s (text_form text) ≡ tests_in [] s (text_form text)
text-tests w s [] = refl
text-tests w s (c ∷ cs) = ap (λ ts. (s, Head.Cell) ∷ ((s ++ 0 ∷ [], Head.Char c) ∷ ts)) (text-tests w (s ++ 1 ∷ []) cs)

module _ (w : World) (s : Spot) (at : Place) (r : Flat) where
  pub with-Wildcard : with_pattern w s (view_pattern (pattern.Wildcard at)) r ≡ r
  unfolding with_pattern
  with-Wildcard = ap (λ q. with_form w s (form_of q) r) (view_pattern-Wildcard at) ∙ nothing r

  pub with-Variable : (x : Name) → with_pattern w s (view_pattern (pattern.Variable at x)) r ≡ with_spot s r
  unfolding with_pattern
  with-Variable x = ap (λ q. with_form w s (form_of q) r) (view_pattern-Variable at x) ∙ a-spot s r

  pub with-Number : (n : ℤ) → with_pattern w s (view_pattern (pattern.Number at n)) r ≡ with_test (s, Head.Int n) r
  unfolding with_pattern
  with-Number n = ap (λ q. with_form w s (form_of q) r) (view_pattern-Number at n) ∙ a-test (s, Head.Int n) r

  pub with-Negative : (n : ℤ) → with_pattern w s (view_pattern (pattern.Negative at n)) r ≡ with_test (s, Head.Int (neg_ℤ n)) r
  unfolding with_pattern
  with-Negative n = ap (λ q. with_form w s (form_of q) r) (view_pattern-Negative at n) ∙ a-test (s, Head.Int (neg_ℤ n)) r

  pub with-Character : (c : ℕ) → with_pattern w s (view_pattern (pattern.Character at c)) r ≡ with_test (s, Head.Char c) r
  unfolding with_pattern
  with-Character c = ap (λ q. with_form w s (form_of q) r) (view_pattern-Character at c) ∙ a-test (s, Head.Char c) r

  pub with-Text : (text : List ℕ) → with_pattern w s (view_pattern (pattern.Text at text)) r ≡ with_text s text r
  unfolding with_pattern with_text
  with-Text text =
      ap (λ q. with_form w s (form_of q) r) (view_pattern-Text at text)
      ∙ ap (λ ts. made r (r.tests ++ ts) (r.spots ++ spots_in s (text_form text))) (text-tests w s text)

  pub with-True : with_pattern w s (view_pattern (pattern.True at)) r ≡ with_test (s, Head.Truth true) r
  unfolding with_pattern
  with-True = ap (λ q. with_form w s (form_of q) r) (view_pattern-True at) ∙ a-test (s, Head.Truth true) r

  pub with-False : with_pattern w s (view_pattern (pattern.False at)) r ≡ with_test (s, Head.Truth false) r
  unfolding with_pattern
  with-False = ap (λ q. with_form w s (form_of q) r) (view_pattern-False at) ∙ a-test (s, Head.Truth false) r

  pub with-Constructor : (x : Name) (ps : List Pattern) → with_pattern w s (view_pattern (pattern.Constructor at x ps)) r
      ≡ with_parts w s 0 (patterns (map view_pattern ps)) (with_test (built_test (number_of w x) s (length ps)) r)
  unfolding with_pattern with_parts
  with-Constructor x ps =
      ap (λ q. with_form w s (form_of q) r) (view_pattern-Constructor at x ps)
      ∙ ap (λ n. made r (r.tests ++ built_test (number_of w x) s n ∷ tests_in_parts w s 0 (part_forms (patterns (map view_pattern ps)))) (r.spots ++ spots_in_parts s 0 (part_forms (patterns (map view_pattern ps))))) (counted ps)
      ∙ one (built_test (number_of w x) s (length ps)) (tests_in_parts w s 0 (part_forms (patterns (map view_pattern ps)))) (spots_in_parts s 0 (part_forms (patterns (map view_pattern ps)))) r

  pub with-List : (ps : List Pattern) → with_pattern w s (view_pattern (pattern.List at ps)) r ≡ with_elements w s (patterns (map view_pattern ps)) r
  unfolding with_pattern with_elements
  with-List ps = ap (λ q. with_form w s (form_of q) r) (view_pattern-List at ps)

  pub with-Pair : (p q : Pattern) → with_pattern w s (view_pattern (pattern.Pair at p q)) r
      ≡ with_pattern w (s ++ 1 ∷ []) (view_pattern q) (with_pattern w (s ++ 0 ∷ []) (view_pattern p) (with_test (s, Head.Pair) r))
  unfolding with_pattern
  with-Pair p q =
      ap (λ x. with_form w s (form_of x) r) (view_pattern-Pair at p q)
      ∙ two (s, Head.Pair) (tests_in w (s ++ 0 ∷ []) (form_of (view_pattern p))) (tests_in w (s ++ 1 ∷ []) (form_of (view_pattern q))) (spots_in (s ++ 0 ∷ []) (form_of (view_pattern p))) (spots_in (s ++ 1 ∷ []) (form_of (view_pattern q))) r

  pub with-Cons : (p q : Pattern) → with_pattern w s (view_pattern (pattern.Cons at p q)) r
      ≡ with_pattern w (s ++ 1 ∷ []) (view_pattern q) (with_pattern w (s ++ 0 ∷ []) (view_pattern p) (with_test (s, Head.Cell) r))
  unfolding with_pattern
  with-Cons p q =
      ap (λ x. with_form w s (form_of x) r) (view_pattern-Cons at p q)
      ∙ two (s, Head.Cell) (tests_in w (s ++ 0 ∷ []) (form_of (view_pattern p))) (tests_in w (s ++ 1 ∷ []) (form_of (view_pattern q))) (spots_in (s ++ 0 ∷ []) (form_of (view_pattern p))) (spots_in (s ++ 1 ∷ []) (form_of (view_pattern q))) r

pub ruleset nodes = (with-Wildcard, with-Variable, with-Number, with-Negative, with-Character, with-Text, with-True, with-False, with-Constructor, with-List, with-Pair, with-Cons)

-- Step by step

pub part-at : (w : World) (s : Spot) (ps : List Pattern) (i : ℕ) (p : Pattern) (r : Flat) → i < length ps → p ≡ get_or ps i p
    → with_parts w s i (patterns (map view_pattern (drop i ps))) r ≡ with_parts w s (i + 1) (patterns (map view_pattern (drop (i + 1) ps))) (with_pattern w (s ++ i ∷ []) (view_pattern p) r)
unfolding with_parts with_pattern
part-at w s ps i p r l is =
    ap (λ qs. made r (r.tests ++ tests_in_parts w s i (part_forms (patterns (map view_pattern qs)))) (r.spots ++ spots_in_parts s i (part_forms (patterns (map view_pattern qs))))) (drop-at ps i p l is)
    ∙ both (tests_in w (s ++ i ∷ []) (form_of (view_pattern p))) (tests_in_parts w s (suc i) (part_forms (patterns (map view_pattern (drop (i + 1) ps)))))
    (spots_in (s ++ i ∷ []) (form_of (view_pattern p))) (spots_in_parts s (suc i) (part_forms (patterns (map view_pattern (drop (i + 1) ps))))) r
    ∙ ap (λ j. made r ((r.tests ++ tests_in w (s ++ i ∷ []) (form_of (view_pattern p))) ++ tests_in_parts w s j (part_forms (patterns (map view_pattern (drop (i + 1) ps)))))
    ((r.spots ++ spots_in (s ++ i ∷ []) (form_of (view_pattern p))) ++ spots_in_parts s j (part_forms (patterns (map view_pattern (drop (i + 1) ps)))))) (sym (add-one i))

pub parts-end : (w : World) (s : Spot) (ps : List Pattern) (i : ℕ) (r : Flat) → length ps ≤ i → with_parts w s i (patterns (map view_pattern (drop i ps))) r ≡ r
unfolding with_parts
parts-end w s ps i r l =
    ap (λ qs. made r (r.tests ++ tests_in_parts w s i (part_forms (patterns (map view_pattern qs)))) (r.spots ++ spots_in_parts s i (part_forms (patterns (map view_pattern qs))))) (drop_all i ps l)
    ∙ nothing r

pub element-at : (w : World) (s : Spot) (ps : List Pattern) (i : ℕ) (p : Pattern) (r : Flat) → i < length ps → p ≡ get_or ps i p
    → with_elements w s (patterns (map view_pattern (drop i ps))) r
    ≡ with_elements w (s ++ 1 ∷ []) (patterns (map view_pattern (drop (i + 1) ps))) (with_pattern w (s ++ 0 ∷ []) (view_pattern p) (with_test (s, Head.Cell) r))
unfolding with_elements with_pattern
element-at w s ps i p r l is =
    ap (λ qs. with_form w s (element_forms (patterns (map view_pattern qs))) r) (drop-at ps i p l is)
    ∙ two (s, Head.Cell) (tests_in w (s ++ 0 ∷ []) (form_of (view_pattern p))) (tests_in w (s ++ 1 ∷ []) (element_forms (patterns (map view_pattern (drop (i + 1) ps)))))
    (spots_in (s ++ 0 ∷ []) (form_of (view_pattern p))) (spots_in (s ++ 1 ∷ []) (element_forms (patterns (map view_pattern (drop (i + 1) ps))))) r

pub elements-end : (w : World) (s : Spot) (ps : List Pattern) (i : ℕ) (r : Flat) → length ps ≤ i → with_elements w s (patterns (map view_pattern (drop i ps))) r ≡ with_test (s, Head.Nil) r
unfolding with_elements
elements-end w s ps i r l = ap (λ qs. with_form w s (element_forms (patterns (map view_pattern qs))) r) (drop_all i ps l) ∙ a-test (s, Head.Nil) r

pub letter-at : (s : Spot) (text : List ℕ) (i : ℕ) (c : ℕ) (r : Flat) → i < length text → c ≡ get_or text i c
    → with_text s (drop i text) r ≡ with_text (s ++ 1 ∷ []) (drop (i + 1) text) (with_test (s ++ 0 ∷ [], Head.Char c) (with_test (s, Head.Cell) r))
unfolding with_text
letter-at s text i c r l is =
    ap (λ cs. with_form [] s (text_form cs) r) (drop-at text i c l is)
    ∙ two (s, Head.Cell) ((s ++ 0 ∷ [], Head.Char c) ∷ []) (tests_in [] (s ++ 1 ∷ []) (text_form (drop (i + 1) text))) [] (spots_in (s ++ 1 ∷ []) (text_form (drop (i + 1) text))) r
    ∙ ap (λ ss. made r (((r.tests ++ (s, Head.Cell) ∷ []) ++ (s ++ 0 ∷ [], Head.Char c) ∷ []) ++ tests_in [] (s ++ 1 ∷ []) (text_form (drop (i + 1) text))) (ss ++ spots_in (s ++ 1 ∷ []) (text_form (drop (i + 1) text)))) (append-nil r.spots)

pub text-end : (s : Spot) (text : List ℕ) (i : ℕ) (r : Flat) → length text ≤ i → with_text s (drop i text) r ≡ with_test (s, Head.Nil) r
unfolding with_text
text-end s text i r l = ap (λ cs. with_form [] s (text_form cs) r) (drop_all i text l) ∙ a-test (s, Head.Nil) r

-- Loops

pub part-went : (w : World) (s : Spot) (ps : List Pattern) (i : ℕ) (p : Pattern) (r new whole : Flat) → i < length ps → p ≡ get_or ps i p → new ≡ with_pattern w (s ++ i ∷ []) (view_pattern p) r
    → with_parts w s i (patterns (map view_pattern (drop i ps))) r ≡ whole → with_parts w s (i + 1) (patterns (map view_pattern (drop (i + 1) ps))) new ≡ whole
part-went w s ps i p r new whole l is e inv = ap (with_parts w s (i + 1) (patterns (map view_pattern (drop (i + 1) ps)))) e ∙ sym (part-at w s ps i p r l is) ∙ inv

pub element-went : (w : World) (s at more : Spot) (ps : List Pattern) (i : ℕ) (p : Pattern) (r new whole : Flat) → i < length ps → p ≡ get_or ps i p → at ≡ s → more ≡ s ++ 1 ∷ []
    → new ≡ with_pattern w (at ++ 0 ∷ []) (view_pattern p) (with_test (at, Head.Cell) r)
    → with_elements w s (patterns (map view_pattern (drop i ps))) r ≡ whole → with_elements w more (patterns (map view_pattern (drop (i + 1) ps))) new ≡ whole
element-went w s at more ps i p r new whole l is ea em e inv =
    ap (λ x. with_elements w x (patterns (map view_pattern (drop (i + 1) ps))) new) em
    ∙ ap (with_elements w (s ++ 1 ∷ []) (patterns (map view_pattern (drop (i + 1) ps)))) (e ∙ ap (λ x. with_pattern w (x ++ 0 ∷ []) (view_pattern p) (with_test (x, Head.Cell) r)) ea)
    ∙ sym (element-at w s ps i p r l is) ∙ inv

pub list-ended : (w : World) (s at : Spot) (ps : List Pattern) (i : ℕ) (r new whole : Flat) → length ps ≤ i → at ≡ s → with_elements w s (patterns (map view_pattern (drop i ps))) r ≡ whole
    → new ≡ with_test (at, Head.Nil) r → new ≡ whole
list-ended w s at ps i r new whole l ea inv e = e ∙ ap (λ x. with_test (x, Head.Nil) r) ea ∙ sym (elements-end w s ps i r l) ∙ inv

pub letter-went : (s at more : Spot) (text : List ℕ) (i c : ℕ) (r new whole : Flat) → i < length text → c ≡ get_or text i c → at ≡ s → more ≡ s ++ 1 ∷ []
    → new ≡ with_test (at ++ 0 ∷ [], Head.Char c) (with_test (at, Head.Cell) r) → with_text s (drop i text) r ≡ whole → with_text more (drop (i + 1) text) new ≡ whole
letter-went s at more text i c r new whole l is ea em e inv =
    ap (λ x. with_text x (drop (i + 1) text) new) em
    ∙ ap (with_text (s ++ 1 ∷ []) (drop (i + 1) text)) (e ∙ ap (λ x. with_test (x ++ 0 ∷ [], Head.Char c) (with_test (x, Head.Cell) r)) ea)
    ∙ sym (letter-at s text i c r l is) ∙ inv

pub text-ended : (s at : Spot) (text : List ℕ) (i : ℕ) (r new whole : Flat) → length text ≤ i → at ≡ s → with_text s (drop i text) r ≡ whole → new ≡ with_test (at, Head.Nil) r → new ≡ whole
text-ended s at text i r new whole l ea inv e = e ∙ ap (λ x. with_test (x, Head.Nil) r) ea ∙ sym (text-end s text i r l) ∙ inv

-- A row's patterns are the parts of what stands nowhere

parts-tests : (w : World) (i : ℕ) (fs : Forms) → tests_in_parts w [] i fs ≡ row_tests w i (list_of fs)
parts-tests w i form.none = refl
parts-tests w i (form.more f fs) = ap (λ ts. tests_in w (i ∷ []) f ++ ts) (parts-tests w (suc i) fs)

parts-spots : (i : ℕ) (fs : Forms) → spots_in_parts [] i fs ≡ row_spots i (list_of fs)
parts-spots i form.none = refl
parts-spots i (form.more f fs) = ap (λ ss. spots_in (i ∷ []) f ++ ss) (parts-spots (suc i) fs)

row-counted : (ps : List Pattern) → length (list_of (part_forms (patterns (map view_pattern ps)))) ≡ length ps
row-counted [] = refl
row-counted (p ∷ ps) = ap suc (row-counted ps)

-- the row of patterns, where there are as many as values
pub row-whole : (w : World) (n i : ℕ) (ps : List Pattern) (r : Flat) → r ≡ with_parts w [] 0 (patterns (map view_pattern ps)) (record { number = i; tests = []; spots = [] }) → length ps ≡ n
    → r ≡ flat_row w n i (list_of (part_forms (patterns (map view_pattern ps))))
unfolding with_parts
row-whole w n i ps r e k =
    let fs = part_forms (patterns (map view_pattern ps)) in
    e ∙ ap (λ ts. record { number = i; tests = ts; spots = spots_in_parts [] 0 fs }) (parts-tests w 0 fs ∙ sym (ap (λ (b : Bool). if b then row_tests w 0 (list_of fs) else never ∷ []) (eq-eqb (length (list_of fs)) n (row-counted ps ∙ k))))
    ∙ ap (λ ss. record { number = i; tests = flat_tests w n (list_of fs); spots = ss }) (parts-spots 0 fs)

-- and where there aren't
pub row-never : (w : World) (n i : ℕ) (ps : List Pattern) (r : Flat) → r ≡ with_parts w [] 0 (patterns (map view_pattern ps)) (record { number = i; tests = []; spots = [] }) → (length ps ≡ n → ⊥)
    → record r { tests = never ∷ [] } ≡ flat_row w n i (list_of (part_forms (patterns (map view_pattern ps))))
unfolding with_parts
row-never w n i ps r e k =
    let fs = part_forms (patterns (map view_pattern ps)) in
    ap (λ (x : Flat). record x { tests = never ∷ [] }) e
    ∙ ap (λ ss. record { number = i; tests = never ∷ []; spots = ss }) (parts-spots 0 fs)
    ∙ ap (λ ts. record { number = i; tests = ts; spots = row_spots 0 (list_of fs) }) (sym (ap (λ (b : Bool). if b then row_tests w 0 (list_of fs) else never ∷ []) (differ (eqb (length (list_of fs)) n) refl)))
  where
    differ : (b : Bool) → eqb (length (list_of (part_forms (patterns (map view_pattern ps))))) n ≡ b → b ≡ false
    differ true h = absurd (k (sym (row-counted ps) ∙ eqb-true (length (list_of (part_forms (patterns (map view_pattern ps))))) n h))
    differ false h = refl
