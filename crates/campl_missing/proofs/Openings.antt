-- Rows opened at a head, and heads put back.
use Rattle.std.proofs.Common.{◌≡◌, refl, List, [], ◌∷◌, ◌++◌, Option, Some, None, map, slice_get, remove, ap, Bool, true, false, ◌&&◌, length, eqb, arith, ℕ, zero, suc, min, take, drop, ◌∙◌, IfOk, Result, Ok, Err, ◌-◌}
use Rattle.campl_missing.proofs.Slices.{take-rest}
use Rattle.campl_tree.specs.View.{view_seq}
use Rattle.campl_tree.specs.declared.types.SeqType as types
use Rattle.campl_types.specs.Forms.{Form, forms_of, list_of}
use Rattle.campl_types.specs.Missing.{is_open, all_open, first_of, put_back, IsBuilt}
use Rattle.campl_missing.specs.declared.form.Form as declared
use Rattle.campl_missing.specs.declared.form.Form.TheVariants as form
use Rattle.campl_missing.specs.View.{view_form, view_forms}
use Rattle.campl_missing.proofs.Views.{form_views, view_form-Built}

-- the first of a list, taken off
pub first-removed : {A : Type 0} → (xs ys : List A) (a : A) → slice_get xs 0 ≡ Some a → ys ≡ remove xs 0 → xs ≡ a ∷ ys
first-removed [] ys a i j = absurd (cc i)
first-removed (x ∷ xs) ys a i j = let e : x ≡ a = cc i in let t : ys ≡ xs = j in rw (e, t) refl

-- what a row begins with
abbrev pub first_seen : Option declared.Form → List Form
first_seen None = []
first_seen (Some p) = view_form p ∷ []

pub first-is : (row : List declared.Form) → first_of (view_forms row) ≡ first_seen (slice_get row 0)
first-is [] = refl
first-is (p ∷ ps) = refl

pub all_open-one : (p : Form) → all_open (p ∷ []) ≡ is_open p
all_open-one p = go (is_open p)
  where
    go : (b : Bool) → (b && true) ≡ b
    go true = refl
    go false = refl

pub ruleset firsts = (first-is, all_open-one)

pub all_open-append : (ps qs : List Form) → all_open (ps ++ qs) ≡ (all_open ps && all_open qs)
all_open-append [] qs = refl
all_open-append (p ∷ ps) qs = go (is_open p) (all_open-append ps qs)
  where
    go : (b : Bool) → all_open (ps ++ qs) ≡ (all_open ps && all_open qs) → (b && all_open (ps ++ qs)) ≡ ((b && all_open ps) && all_open qs)
    go true i = i
    go false i = refl

-- a constructor's parts

pub list_of-forms : (ps : List Form) → list_of (forms_of ps) ≡ ps
list_of-forms [] = refl
list_of-forms (p ∷ ps) = rw (list_of-forms ps) refl

length-seen : {A B : Type 0} → (g : A → B) (xs : List A) → length (map g xs) ≡ length xs
length-seen g [] = refl
length-seen g (x ∷ xs) = let i : length (map g xs) ≡ length xs = length-seen g xs in omega (arith, i)

pub count-parts : (ts : List types.SeqType) (ps : List declared.Form) → eqb (length (map view_seq ts)) (length (view_forms ps)) ≡ eqb (length ts) (length ps)
count-parts ts ps = rw (length-seen view_seq ts, length-seen view_form ps) refl

take-seen : {A B : Type 0} → (g : A → B) (n : ℕ) (xs : List A) → map g (take n xs) ≡ take n (map g xs)
take-seen g zero xs = refl
take-seen g (suc n) [] = refl
take-seen g (suc n) (x ∷ xs) = rw (take-seen g n xs) refl

drop-seen : {A B : Type 0} → (g : A → B) (n : ℕ) (xs : List A) → map g (drop n xs) ≡ drop n (map g xs)
drop-seen g zero xs = refl
drop-seen g (suc n) [] = refl
drop-seen g (suc n) (x ∷ xs) = drop-seen g n xs

take-least : {A : Type 0} → (m : ℕ) (xs : List A) → take (min m (length xs)) xs ≡ take m xs
take-least zero xs = let e : min zero (length xs) ≡ zero = omega arith in rw e refl
take-least (suc m) [] = let e : min (suc m) 0 ≡ zero = omega arith in rw e refl
take-least (suc m) (x ∷ xs) = let e : min (suc m) (length (x ∷ xs)) ≡ suc (min m (length xs)) = omega arith in rw e (ap (λ ys. x ∷ ys) (take-least m xs))

drop-least : {A : Type 0} → (m : ℕ) (xs : List A) → drop (min m (length xs)) xs ≡ drop m xs
drop-least zero xs = let e : min zero (length xs) ≡ zero = omega arith in rw e refl
drop-least (suc m) [] = let e : min (suc m) 0 ≡ zero = omega arith in rw e refl
drop-least (suc m) (x ∷ xs) = let e : min (suc m) (length (x ∷ xs)) ≡ suc (min m (length xs)) = omega arith in rw e (drop-least m xs)

-- the first forms as parts of a constructor, so many as there are of either
pub built-back : (k : List ℕ) (ts : List types.SeqType) (ps : List declared.Form) (n : ℕ) → n ≡ min (length ts) (length ps) → view_form (form.Built k (take n ps)) ∷ view_forms (drop n ps) ≡ put_back (IsBuilt k (map view_seq ts)) (view_forms ps)
built-back k ts ps n e =
    rw (e, take-least (length ts) ps, drop-least (length ts) ps, view_form-Built k (take (length ts) ps), take-seen view_form (length ts) ps, drop-seen view_form (length ts) ps, length-seen view_seq ts) refl

pub built-seen : (k name : List ℕ) (ts : List types.SeqType) (ps first others : List declared.Form) (n : ℕ) → n ≡ min (length ts) (length ps) → name ≡ k → first ≡ take n ps → others ≡ take (length ps - n) (drop n ps) → view_forms (form.Built name first ∷ others) ≡ put_back (IsBuilt k (map view_seq ts)) (view_forms ps)
built-seen k name ts ps first others n e a b c =
    let rest : others ≡ drop n ps = c ∙ take-rest n ps in
    rw (a, b, rest) (built-back k ts ps n e)

-- what is seen of forms that a call gave
pub seen-given : {E : Type 0} → (r : Result (List declared.Form) E) (xs : List declared.Form) (z : List Form) → IfOk r (λ ps. ps ≡ xs) → view_forms xs ≡ z → IfOk r (λ ps. view_forms ps ≡ z)
seen-given (Ok ps) xs z i e = ap view_forms i ∙ e
seen-given (Err x) xs z i e = tt

pub ruleset parts = (list_of-forms, count-parts)

pub ruleset columns = (all_open-append)

pub ruleset putting = (form_views, first-removed)

pub ruleset building = (form_views, built-back)
