-- What stands within a literal is what the scan takes for it.
use Rattle.std.proofs.Common.{◌≡◌, ℕ, zero, suc, ◌+◌, ◌<◌, ◌≤◌, Bool, true, false, cond, not, ◌&&◌, ◌||◌, eqb, List, [], ◌∷◌, ◌++◌, length, Option}
use Rattle.std.proofs.Common.{Some, None, refl, sym, ap, ◌∙◌, subst, arith, append_assoc, length-append, one-add, add-zero, ◌-◌}
use Rattle.std.proofs.lemmas.Bool.Decides.{nat_tests}
use Rattle.std.proofs.lemmas.List.{drop_at}
use Rattle.campl_lex.specs.declared.literal.Stop.{Stop}
use Rattle.campl_lex.specs.declared.literal.Stop.TheVariants as stop
use Rattle.campl_lex.specs.Literal.{IsEscape, Spells, is_plain}
use Rattle.campl_lex.specs.Literal as spells
use Rattle.campl_lex.specs.Tokens.{is_quote}
use Rattle.campl_lex.specs.Reading.{escape_len, tail_len, stop_of, longer, stopped, scan}
use Rattle.campl_lex.proofs.Scanning.{scan_stops, longer_none, longer_longer, scan_skip}
use Rattle.campl_lex.proofs.Escapes.{escape_is, escape_found, escape_some, HasEscape}

plain_stop : (q c : ℕ) (x : List ℕ) → is_plain q c ≡ true → stop_of q (c ∷ x) ≡ None
plain_stop q c x h = by (eqb c 9) (eqb c 10) (eqb c q) (eqb c 92) h
  where
    by : (t l k b : Bool) → not (((t || l) || k) || b) ≡ true
        → cond t (Some stop.Tab) (cond l (Some stop.LineEnd) (cond k (Some stop.Quote) (cond (b && eqb (escape_len x) 0) (Some stop.Backslash) None))) ≡ None
    by false false false false h = refl
    by true l k b h = cc
    by false true k b h = cc
    by false false true b h = cc
    by false false false true h = cc

plain_tail : (q c : ℕ) (x : List ℕ) → is_plain q c ≡ true → tail_len c x ≡ 0
plain_tail q c x h = by (eqb c 9) (eqb c 10) (eqb c q) (eqb c 92) h
  where
    by : (t l k b : Bool) → not (((t || l) || k) || b) ≡ true → cond b (escape_len x) 0 ≡ 0
    by t l k false h = refl
    by true l k true h = cc
    by false true k true h = cc
    by false false true true h = cc
    by false false false true h = cc

backslash_goes : (q n : ℕ) (x : List ℕ) → is_quote q ≡ true → escape_len x ≡ suc n → stop_of q (92 ∷ x) ≡ None
backslash_goes q n x h e =
    let other : eqb 92 q ≡ false = grind (arith, nat_tests) in
    let some : eqb (escape_len x) 0 ≡ false = grind (arith, nat_tests) in
    rw (other, some) refl

-- what is spelled is scanned
pub spells_scan : (q : ℕ) {w cs : List ℕ} → is_quote q ≡ true → Spells q w cs → (rest : List ℕ) → scan q 0 (w ++ rest) ≡ longer (length w) (length cs) (scan q 0 rest)
spells_scan q h spells.nothing rest = sym (longer_none (scan q 0 rest))
spells_scan q h (spells.plain c {w} {cs} k s) rest =
    ap (λ o. stopped o (longer 1 1 (scan q (tail_len c (w ++ rest)) (w ++ rest)))) (plain_stop q c (w ++ rest) k)
    ∙ ap (λ n. longer 1 1 (scan q n (w ++ rest))) (plain_tail q c (w ++ rest) k)
    ∙ ap (longer 1 1) (spells_scan q h s rest)
    ∙ longer_longer 1 1 (length w) (length cs) (scan q 0 rest)
    ∙ ap (λ n. longer n (1 + length cs) (scan q 0 rest)) (one-add (length w))
    ∙ ap (λ n. longer (suc (length w)) n (scan q 0 rest)) (one-add (length cs))
spells_scan q h (spells.escape e c {w} {cs} k s) rest =
    let x : List ℕ = (e ++ w) ++ rest in
    let y : List ℕ = w ++ rest in
    let same : x ≡ e ++ y = append_assoc e w rest in
    let long : escape_len x ≡ length e = ap escape_len same ∙ escape_is k y in
    let some : 0 < length e = escape_some k in
    let one : escape_len x ≡ suc (length e - 1) = omega arith in
    let size : length (e ++ w) ≡ length e + length w = length-append e w in
    let total : 1 + (length e + length w) ≡ suc (length (e ++ w)) = omega arith in
    ap (λ o. stopped o (longer 1 1 (scan q (escape_len x) x))) (backslash_goes q (length e - 1) x h one)
    ∙ ap (λ n. longer 1 1 (scan q n x)) long
    ∙ ap (λ t. longer 1 1 (scan q (length e) t)) same
    ∙ ap (longer 1 1) (scan_skip q (length e) (e ++ y) (omega (arith, length-append e y)) ∙ ap (λ t. longer (length e) 0 (scan q 0 t)) (drop_at e y (length e) refl))
    ∙ ap (λ b. longer 1 1 (longer (length e) 0 b)) (spells_scan q h s rest)
    ∙ ap (longer 1 1) (longer_longer (length e) 0 (length w) (length cs) (scan q 0 rest))
    ∙ longer_longer 1 1 (length e + length w) (0 + length cs) (scan q 0 rest)
    ∙ ap (λ n. longer n (1 + (0 + length cs)) (scan q 0 rest)) total
    ∙ ap (λ n. longer (suc (length (e ++ w))) n (scan q 0 rest)) (let f : 1 + (0 + length cs) ≡ suc (length cs) = omega arith in f)

-- what is scanned up to where a literal stops
pub scan_is : (q : ℕ) {w cs : List ℕ} (rest : List ℕ) (why : Stop) → is_quote q ≡ true → Spells q w cs → stop_of q rest ≡ Some why
    → scan q 0 (w ++ rest) ≡ record { stop = why; length = length w; count = length cs }
scan_is q {w} {cs} rest why h s e =
    spells_scan q h s rest
    ∙ ap (longer (length w) (length cs)) (scan_stops q rest why e)
    ∙ ap (λ n. record { stop = why; length = n; count = length cs + 0 }) (add-zero (length w))
    ∙ ap (λ n. record { stop = why; length = length w; count = n }) (add-zero (length cs))

-- what a literal has, and why it stops
abbrev pub Found : ℕ → List ℕ → Type 0
Found q text = (w : List ℕ) × (cs : List ℕ) × (rest : List ℕ) × (why : Stop) × (text ≡ w ++ rest) × Spells q w cs × (stop_of q rest ≡ Some why)

is_plain_from : (q c : ℕ) (x : List ℕ) → stop_of q (c ∷ x) ≡ None → eqb c 92 ≡ false → is_plain q c ≡ true
is_plain_from q c x h e = by (eqb c 9) (eqb c 10) (eqb c q) (eqb c 92) h e
  where
    by : (t l k b : Bool) → cond t (Some stop.Tab) (cond l (Some stop.LineEnd) (cond k (Some stop.Quote) (cond (b && eqb (escape_len x) 0) (Some stop.Backslash) None))) ≡ None
        → b ≡ false → not (((t || l) || k) || b) ≡ true
    by false false false false h e = refl
    by true l k b h e = cc
    by false true k b h e = cc
    by false false true b h e = cc
    by false false false true h e = cc

goes_from : (q : ℕ) (x : List ℕ) → is_quote q ≡ true → stop_of q (92 ∷ x) ≡ None → escape_len x ≡ 0 → ⊥
goes_from q x i h e =
    let other : eqb 92 q ≡ false = grind (arith, nat_tests) in
    by (eqb 92 q) (eqb (escape_len x) 0) other (ap (λ n. eqb n 0) e) h
  where
    by : (k b : Bool) → k ≡ false → b ≡ true → cond k (Some stop.Quote) (cond b (Some stop.Backslash) None) ≡ None → ⊥
    by false true e f h = cc
    by true b e f h = cc
    by false false e f h = cc

pub finds : (q : ℕ) → is_quote q ≡ true → (n : ℕ) (text : List ℕ) → length text ≤ n → Found q text
finds q h n [] l = ([], [], [], stop.LineEnd, refl, spells.nothing, refl)
finds q h zero (c ∷ x) l = absurd (omega arith)
finds q h (suc n) (c ∷ x) l = by (stop_of q (c ∷ x)) refl (eqb c 92) refl (λ r m. finds q h n r m)
  where
    more : (c : ℕ) (x : List ℕ) → is_plain q c ≡ true → Found q x → Found q (c ∷ x)
    more c x k (w, cs, rest, why, e, s, st) = (c ∷ w, c ∷ cs, rest, why, ap (λ t. c ∷ t) e, spells.plain c k s, st)

    jump : (x r e : List ℕ) (d : ℕ) → x ≡ e ++ r → IsEscape e d → Found q r → Found q (92 ∷ x)
    jump x r e d i k (w, cs, rest, why, f, s, st) =
        (92 ∷ (e ++ w), d ∷ cs, rest, why, ap (λ t. 92 ∷ t) (i ∙ ap (λ t. e ++ t) f ∙ sym (append_assoc e w rest)), spells.escape e d k s, st)

    escaped : (m : ℕ) → escape_len x ≡ m → stop_of q (92 ∷ x) ≡ None → ((r : List ℕ) → length r ≤ n → Found q r) → Found q (92 ∷ x)
    escaped zero f g k = absurd (goes_from q x h g f)
    escaped (suc m) f g k =
        let has : HasEscape x (suc m) = escape_found x m f in
        let size : length x ≡ length has.0 + length has.1 = ap length has.3 ∙ length-append has.0 has.1 in
        jump x has.1 has.0 has.2 has.3 has.4 (k has.1 (omega (arith, has.5)))

    by : (o : Option Stop) → stop_of q (c ∷ x) ≡ o → (b : Bool) → eqb c 92 ≡ b → ((r : List ℕ) → length r ≤ n → Found q r) → Found q (c ∷ x)
    by (Some why) e b f k = ([], [], c ∷ x, why, refl, spells.nothing, e)
    by None e false f k = more c x (is_plain_from q c x e f) (k x (omega arith))
    by None e true f k =
        let same : c ≡ 92 = grind (arith, nat_tests) in
        subst (λ y. Found q (y ∷ x)) (sym same) (escaped (escape_len x) refl (ap (λ y. stop_of q (y ∷ x)) (sym same) ∙ e) k)
