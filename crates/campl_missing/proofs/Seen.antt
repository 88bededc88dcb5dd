-- Forms of patterns, and of lists of them.
use Rattle.std.proofs.Common.{◌≡◌, refl, sym, ap, ◌∙◌, ℕ, zero, suc, ◌-◌, ◌<◌, ◌≤◌, List, [], ◌∷◌, map, drop, length, get_or, arith}
use Rattle.campl_tree.specs.Plain.Pattern.{Pattern}
use Rattle.campl_tree.specs.View.{patterns, view_pattern}
use Rattle.campl_tree.specs.declared.pattern.Pattern as pattern
use Rattle.campl_tree.proofs.Views.{pattern_views}
use Rattle.campl_types.specs.Forms.{form_of, part_forms, forms_of, text_form, element_forms}
use Rattle.campl_missing.proofs.Views.{form_views, view_form-Nil, view_form-Cons, view_form-Character}
use Rattle.campl_missing.specs.View.{view_form}
use Rattle.campl_missing.specs.declared.form.Form as declared
use Rattle.campl_missing.specs.declared.form.Form.TheVariants as form

pub part_forms-map : (qs : List Pattern) → part_forms (patterns qs) ≡ forms_of (map form_of qs)
part_forms-map [] = refl
part_forms-map (q ∷ qs) = rw (part_forms-map qs) refl

pub ruleset seen = (pattern_views, form_views, part_forms-map)

-- lists, from behind

drop-all : {A : Type 0} → (xs : List A) → drop (length xs) xs ≡ []
drop-all [] = refl
drop-all (x ∷ xs) = drop-all xs

pub drop-at : {A : Type 0} → (xs : List A) (j : ℕ) (x : A) → j < length xs → x ≡ get_or xs j x → drop j xs ≡ x ∷ drop (suc j) xs
drop-at [] j x l e = absurd (omega (arith, l))
drop-at (y ∷ ys) zero x l e = ap (λ z. z ∷ ys) (sym e)
drop-at (y ∷ ys) (suc j) x l e = drop-at ys j x (omega (arith, l)) e

drop-before : {A : Type 0} → (xs : List A) (i : ℕ) (x : A) → 0 < i → i ≤ length xs → x ≡ get_or xs (i - 1) x → drop (i - 1) xs ≡ x ∷ drop i xs
drop-before xs i x a b e =
    let next : suc (i - 1) ≡ i = omega (arith, a) in
    drop-at xs (i - 1) x (omega (arith, a, b)) e ∙ ap (λ k. x ∷ drop k xs) next

pub text-end : (text : List ℕ) → view_form form.Nil ≡ text_form (drop (length text) text)
text-end text = view_form-Nil ∙ sym (ap text_form (drop-all text))

pub text-before : (text : List ℕ) (i c : ℕ) (list new : declared.Form) → 0 < i → i ≤ length text → c ≡ get_or text (i - 1) c → view_form list ≡ text_form (drop i text) → new ≡ form.Cons (form.Character c) list → view_form new ≡ text_form (drop (i - 1) text)
text-before text i c list new a b r inv e =
    rw (e, view_form-Cons (form.Character c) list, view_form-Character c, inv, drop-before text i c a b r) refl

pub elements-end : (ps : List pattern.Pattern) → view_form form.Nil ≡ element_forms (patterns (map view_pattern (drop (length ps) ps)))
elements-end ps = view_form-Nil ∙ sym (ap (λ qs. element_forms (patterns (map view_pattern qs))) (drop-all ps))

pub elements-before : (ps : List pattern.Pattern) (i : ℕ) (p : pattern.Pattern) (head list new : declared.Form) → 0 < i → i ≤ length ps → p ≡ get_or ps (i - 1) p → view_form list ≡ element_forms (patterns (map view_pattern (drop i ps))) → view_form head ≡ form_of (view_pattern p) → new ≡ form.Cons head list → view_form new ≡ element_forms (patterns (map view_pattern (drop (i - 1) ps)))
elements-before ps i p head list new a b r inv h e =
    rw (e, view_form-Cons head list, inv, h, drop-before ps i p a b r) refl

pub ruleset elements = (form_views)
