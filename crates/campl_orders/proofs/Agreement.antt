-- The order that is computed is the one that the words are.
use Rattle.std.proofs.Common.{◌≡◌, ◌↔◌, ℕ, Bool, true, false, ◌||◌, List, [], ◌∷◌, Option, Some, None, is_some, option_map, if◌then◌else◌, codes, refl, sym, ap, subst, ◌∙◌}
use Rattle.std.specs.Prelude.{option_and_then, MatchOption}
use Rattle.std.specs.Str.{bytes_eq}
use Rattle.std.proofs.lemmas.Slice.Eq.{bytes_eq-Decides}
use Rattle.campl_orders.specs.Numbers.{IsNumber, IsNumberOr, number_in, number_or}
use Rattle.campl_orders.specs.Orders.{PlainOrder, run, check, code, generate, migrate, Given, Give, only, IsOrder, is_run, is_check, is_code, is_generate, is_migrate}
use Rattle.campl_orders.specs.Reading.{gathered, generate_of, nothing, only_operand, order_of, ordered, run_of}
use Rattle.campl_orders.specs.declared.reader.State.TheVariants.{Open}
use Rattle.campl_orders.proofs.Numerals.{number-computes, computes-number, or-computes, computes-or}
use Rattle.campl_orders.proofs.Slots.{gathers, gives}

-- ---- from the relation

abbrev giving : List ℕ → Option Given → Option PlainOrder
giving first = option_and_then (ordered first)

run-computes : (file : List ℕ) (script steps workers : Option (List ℕ)) (n w : ℕ) → IsNumberOr 0 1000000 100000 steps n → IsNumberOr 1 16 4 workers w
    → run_of (record { operand = Some file; script = script; steps = steps; workers = workers }) ≡ Some (run file script n w)
run-computes file script steps workers n w i j = rw (or-computes 0 1000000 100000 steps n i, or-computes 1 16 4 workers w j) refl

generate-computes : (word : List ℕ) (workers : Option (List ℕ)) (n w : ℕ) → IsNumber 1 10000 word n → IsNumberOr 1 16 4 workers w
    → generate_of (record { operand = Some word; script = None; steps = None; workers = workers }) ≡ Some (generate n w)
generate-computes word workers n w i j = rw (number-computes 1 10000 word n i, or-computes 1 16 4 workers w j) refl

pub order-computes : (words : List (List ℕ)) (order : PlainOrder) → IsOrder words order → order_of words ≡ Some order
order-computes words order (is_run rest file script steps workers n w g i j) = ap (giving (codes "run")) (gathers rest _ g) ∙ run-computes file script steps workers n w i j
order-computes words order (is_check rest file g) = ap (giving (codes "check")) (gathers rest _ g)
order-computes words order (is_code rest file g) = ap (giving (codes "code")) (gathers rest _ g)
order-computes words order (is_generate rest stages workers n w g i j) = ap (giving (codes "generate")) (gathers rest _ g) ∙ generate-computes stages workers n w i j
order-computes words order (is_migrate rest file g) = ap (giving (codes "migrate")) (gathers rest _ g)

-- ---- to the relation

only-back : (g : Given) (file : List ℕ) → only_operand g ≡ Some file → g ≡ only file
only-back g file e = by g.script g.steps g.workers refl refl refl e
  where
    by : (a b c : Option (List ℕ)) → g.script ≡ a → g.steps ≡ b → g.workers ≡ c → (if is_some a || (is_some b || is_some c) then None else g.operand) ≡ Some file → g ≡ only file
    by None None None i j k e = λ t. record { operand = e t; script = i t; steps = j t; workers = k t }
    by (Some a) b c i j k e = absurd (let no : ⊥ = cc in no)
    by None (Some b) c i j k e = absurd (let no : ⊥ = cc in no)
    by None None (Some c) i j k e = absurd (let no : ⊥ = cc in no)

-- an order of a file alone
file-back : (of : List ℕ → PlainOrder) (words : List (List ℕ)) (g : Given) (order : PlainOrder) → Give words g → option_map of (only_operand g) ≡ Some order
    → (file : List ℕ) × (of file ≡ order) × Give words (only file)
file-back of words g order d = by (only_operand g) refl
  where
    by : (o : Option (List ℕ)) → only_operand g ≡ o → option_map of o ≡ Some order → (file : List ℕ) × (of file ≡ order) × Give words (only file)
    by None i e = absurd (let no : ⊥ = cc in no)
    by (Some file) i e = let same : of file ≡ order = cc in (file, same, subst (Give words) (only-back g file i) d)

run-back : (words : List (List ℕ)) (g : Given) (order : PlainOrder) → Give words g → run_of g ≡ Some order → IsOrder (codes "run" ∷ words) order
run-back words g order d = by g.operand (number_or 0 1000000 100000 g.steps) (number_or 1 16 4 g.workers) refl refl refl
  where
    by : (o : Option (List ℕ)) (n w : Option ℕ) → g.operand ≡ o → number_or 0 1000000 100000 g.steps ≡ n → number_or 1 16 4 g.workers ≡ w
        → option_and_then (λ file. option_and_then (λ k. option_map (λ m. run file g.script k m) w) n) o ≡ Some order → IsOrder (codes "run" ∷ words) order
    by None n w i j k e = absurd (let no : ⊥ = cc in no)
    by (Some file) None w i j k e = absurd (let no : ⊥ = cc in no)
    by (Some file) (Some n) None i j k e = absurd (let no : ⊥ = cc in no)
    by (Some file) (Some n) (Some w) i j k e =
        let same : run file g.script n w ≡ order = cc in
        let whole : Give words (record { operand = Some file; script = g.script; steps = g.steps; workers = g.workers }) =
        subst (Give words) (λ t. record { operand = i t; script = g.script; steps = g.steps; workers = g.workers }) d in
        subst (IsOrder (codes "run" ∷ words)) same
        (is_run words file g.script g.steps g.workers n w whole (computes-or 0 1000000 100000 g.steps n j) (computes-or 1 16 4 g.workers w k))

generate-back : (words : List (List ℕ)) (g : Given) (order : PlainOrder) → Give words g → generate_of g ≡ Some order → IsOrder (codes "generate" ∷ words) order
generate-back words g order d = by g.script g.steps g.operand refl refl refl
  where
    number-of : (word : List ℕ) → g.script ≡ None → g.steps ≡ None → g.operand ≡ Some word → (n w : Option ℕ) → number_in 1 10000 word ≡ n → number_or 1 16 4 g.workers ≡ w
        → option_and_then (λ k. option_map (λ m. generate k m) w) n ≡ Some order → IsOrder (codes "generate" ∷ words) order
    number-of word a b i None w j k e = absurd (let no : ⊥ = cc in no)
    number-of word a b i (Some n) None j k e = absurd (let no : ⊥ = cc in no)
    number-of word a b i (Some n) (Some w) j k e =
        let same : generate n w ≡ order = cc in
        let whole : Give words (record { operand = Some word; script = None; steps = None; workers = g.workers }) =
        subst (Give words) (λ t. record { operand = i t; script = a t; steps = b t; workers = g.workers }) d in
        subst (IsOrder (codes "generate" ∷ words)) same
        (is_generate words word g.workers n w whole (computes-number 1 10000 word n j) (computes-or 1 16 4 g.workers w k))

    by : (a b o : Option (List ℕ)) → g.script ≡ a → g.steps ≡ b → g.operand ≡ o
        → (if is_some a || is_some b then None else option_and_then (λ word. option_and_then (λ n. option_map (λ w. generate n w) (number_or 1 16 4 g.workers)) (number_in 1 10000 word)) o) ≡ Some order
        → IsOrder (codes "generate" ∷ words) order
    by (Some a) b o i j k e = absurd (let no : ⊥ = cc in no)
    by None (Some b) o i j k e = absurd (let no : ⊥ = cc in no)
    by None None None i j k e = absurd (let no : ⊥ = cc in no)
    by None None (Some word) i j k e = number-of word i j k _ _ refl refl e

-- the first word is this one
is-first : (first word : List ℕ) (words : List (List ℕ)) (order : PlainOrder) → bytes_eq first word ≡ true → IsOrder (word ∷ words) order → IsOrder (first ∷ words) order
is-first first word words order e d = subst (λ w. IsOrder (w ∷ words) order) (sym ((bytes_eq-Decides first word).0 e)) d

ordered-back : (first : List ℕ) (words : List (List ℕ)) (g : Given) (order : PlainOrder) → Give words g → ordered first g ≡ Some order → IsOrder (first ∷ words) order
ordered-back first words g order d =
    by (bytes_eq first (codes "run")) (bytes_eq first (codes "check")) (bytes_eq first (codes "code")) (bytes_eq first (codes "generate")) (bytes_eq first (codes "migrate")) refl refl refl refl refl
  where
    by : (a b c e f : Bool) → bytes_eq first (codes "run") ≡ a → bytes_eq first (codes "check") ≡ b → bytes_eq first (codes "code") ≡ c → bytes_eq first (codes "generate") ≡ e → bytes_eq first (codes "migrate") ≡ f
        → (if a then run_of g else (if b then option_map check (only_operand g) else (if c then option_map code (only_operand g) else (if e then generate_of g else (if f then option_map migrate (only_operand g) else None))))) ≡ Some order
        → IsOrder (first ∷ words) order
    by true b c e f i j k l m is = is-first first (codes "run") words order i (run-back words g order d is)
    by false true c e f i j k l m is = let (file, same, only_it) = file-back check words g order d is in is-first first (codes "check") words order j (subst (IsOrder (codes "check" ∷ words)) same (is_check words file only_it))
    by false false true e f i j k l m is = let (file, same, only_it) = file-back code words g order d is in is-first first (codes "code") words order k (subst (IsOrder (codes "code" ∷ words)) same (is_code words file only_it))
    by false false false true f i j k l m is = is-first first (codes "generate") words order l (generate-back words g order d is)
    by false false false false true i j k l m is = let (file, same, only_it) = file-back migrate words g order d is in is-first first (codes "migrate") words order m (subst (IsOrder (codes "migrate" ∷ words)) same (is_migrate words file only_it))
    by false false false false false i j k l m is = absurd (let no : ⊥ = cc in no)

pub computes-order : (words : List (List ℕ)) (order : PlainOrder) → order_of words ≡ Some order → IsOrder words order
computes-order [] order e = absurd (let no : ⊥ = cc in no)
computes-order (first ∷ words) order e = by (gathered nothing Open words) refl e
  where
    by : (o : Option Given) → gathered nothing Open words ≡ o → option_and_then (ordered first) o ≡ Some order → IsOrder (first ∷ words) order
    by None i e = absurd (let no : ⊥ = cc in no)
    by (Some g) i e = ordered-back first words g order (gives words g i) e

-- what is computed, as the relation: the order, or that there is none
pub reads_order : {A : Type 0} (view : A → PlainOrder) (words : List (List ℕ)) (o : Option A) → option_map view o ≡ order_of words
    → MatchOption o ((order : PlainOrder) → ¬ (IsOrder words order)) (λ order. IsOrder words (view order))
reads_order view words None e = λ order d. let no : None ≡ Some order = e ∙ order-computes words order d in absurd (let bad : ⊥ = cc in bad)
reads_order view words (Some o) e = computes-order words (view o) (sym e)

pub order_agrees : (words : List (List ℕ)) (order : PlainOrder) → IsOrder words order ↔ (order_of words ≡ Some order)
order_agrees words order = (order-computes words order, computes-order words order)

pub one_order : (words : List (List ℕ)) (order other : PlainOrder) → IsOrder words order → IsOrder words other → order ≡ other
one_order words order other d e = let same : Some order ≡ Some other = sym (order-computes words order d) ∙ order-computes words other e in cc
