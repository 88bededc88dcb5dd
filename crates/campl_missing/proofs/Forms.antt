-- Forms that ask nothing.
use Rattle.std.proofs.Common.{◌≡◌, refl, ℕ, zero, suc, ◌+◌, List, [], ◌∷◌, ◌++◌, add-one, sym, ap, ◌∙◌, ◌<◌, ◌≤◌, length, arith}
use Rattle.campl_types.specs.Forms.{Anything, anythings}
use Rattle.campl_missing.proofs.Views.{form_views, view_form-Anything}
use Rattle.campl_missing.specs.View.{view_form, view_forms}
use Rattle.campl_missing.specs.declared.form.Form as declared
use Rattle.campl_missing.specs.declared.form.Form.TheVariants as form

anythings-snoc : (n : ℕ) → anythings (suc n) ≡ anythings n ++ Anything ∷ []
anythings-snoc zero = refl
anythings-snoc (suc n) = rw (anythings-snoc n) refl

pub anythings-more : (n : ℕ) → anythings (n + 1) ≡ anythings n ++ Anything ∷ []
anythings-more n = rw add-one (anythings-snoc n)

seen-push : (xs : List declared.Form) → view_forms (xs ++ form.Anything ∷ []) ≡ view_forms xs ++ Anything ∷ []
seen-push [] = ap (λ p. p ∷ []) view_form-Anything
seen-push (x ∷ xs) = ap (λ ps. view_form x ∷ ps) (seen-push xs)

length-push : (xs : List declared.Form) (x : declared.Form) → length (xs ++ x ∷ []) ≡ length xs + 1
length-push [] x = omega arith
length-push (y ∷ xs) x = let i : length (xs ++ x ∷ []) ≡ length xs + 1 = length-push xs x in omega (arith, i)

-- one more
pub anythings-pushed : (xs ys : List declared.Form) (n : ℕ) → view_forms xs ≡ anythings (length xs) → ys ≡ xs ++ form.Anything ∷ [] → length xs < n → (view_forms ys ≡ anythings (length ys)) × (length ys ≤ n)
anythings-pushed xs ys n i e l =
    let len : length ys ≡ length xs + 1 = ap length e ∙ length-push xs form.Anything in
    (ap view_forms e ∙ seen-push xs ∙ ap (λ ps. ps ++ Anything ∷ []) i ∙ sym (anythings-more (length xs)) ∙ ap anythings (sym len), omega (arith, len, l))

pub ruleset anythings_views = (form_views, anythings-more)
