-- Literals at the front of a text.
use Rattle.std.proofs.Common.{◌≡◌, ℕ, ◌+◌, ◌≤◌, Bool, true, false, cond, ◌&&◌, ◌||◌, ◌==◌, eqb, List, [], ◌∷◌, ◌++◌, length, Some, None, refl, sym}
use Rattle.std.proofs.Common.{ap, ◌∙◌, subst, arith, append_assoc, length-append}
use Rattle.std.proofs.lemmas.Bool.Decides.{nat_tests}
use Rattle.campl_tree.specs.declared.place.Place.{Place}
use Rattle.campl_lex.specs.declared.literal.Stop.{Stop}
use Rattle.campl_lex.specs.declared.literal.Stop.TheVariants as stop
use Rattle.campl_lex.specs.declared.literal.Body.{Body}
use Rattle.campl_lex.specs.Literal.{Spells}
use Rattle.campl_lex.specs.Tokens.{ends_line, is_quote, IsSpelling}
use Rattle.campl_lex.specs.Reading.{literal, literal_by, scan, stop_of, escape_len}
use Rattle.campl_lex.proofs.Families.{spelled_literal, Quoted}
use Rattle.campl_lex.proofs.Literals.{scan_is}
-- n characters at the front are a piece of this kind
use Rattle.std.proofs.Common.{inl, inr, ◌⊎◌}
use Rattle.campl_lex.proofs.Stands.{apart, same_head, same_tail}

pub quote_cases : (q : ℕ) → is_quote q ≡ true → (q ≡ 34) ⊎ (q ≡ 39)
quote_cases q h = by (eqb q 34) refl (eqb q 39) refl
  where
    by : (x : Bool) → eqb q 34 ≡ x → (y : Bool) → eqb q 39 ≡ y → (q ≡ 34) ⊎ (q ≡ 39)
    by true e y f = inl (grind (arith, nat_tests))
    by false e true f = inr (grind (arith, nat_tests))
    by false e false f = apart (is_quote q) h (ap (λ t. t || q == 39) e ∙ ap (λ t. false || t) f)

-- why a literal stopped
abbrev pub Why : Stop → ℕ → List ℕ → Type 0
Why stop.Tab q rest = (r : List ℕ) × (rest ≡ 9 ∷ r)
Why stop.LineEnd q rest = ends_line rest ≡ true
Why stop.Quote q rest = (r : List ℕ) × (rest ≡ q ∷ r)
Why stop.Backslash q rest = (r : List ℕ) × (rest ≡ 92 ∷ r) × (escape_len r ≡ 0)

pub why_from : (q : ℕ) (rest : List ℕ) (why : Stop) → stop_of q rest ≡ Some why → Why why q rest
why_from q [] why h = let e : stop.LineEnd ≡ why = cc in subst (λ s. Why s q []) e refl
why_from q (c ∷ r) why h = by (eqb c 9) refl (eqb c 10) refl (eqb c q) refl (eqb c 92) refl (eqb (escape_len r) 0) refl h
  where
    by : (t : Bool) → eqb c 9 ≡ t → (l : Bool) → eqb c 10 ≡ l → (k : Bool) → eqb c q ≡ k → (b : Bool) → eqb c 92 ≡ b → (z : Bool) → eqb (escape_len r) 0 ≡ z
        → cond t (Some stop.Tab) (cond l (Some stop.LineEnd) (cond k (Some stop.Quote) (cond (b && z) (Some stop.Backslash) None))) ≡ Some why → Why why q (c ∷ r)
    by true t l f k g b i z j h =
        let e : stop.Tab ≡ why = cc in let same : c ≡ 9 = grind (arith, nat_tests) in subst (λ s. Why s q (c ∷ r)) e (r, ap (λ x. x ∷ r) same)
    by false t true f k g b i z j h = let e : stop.LineEnd ≡ why = cc in subst (λ s. Why s q (c ∷ r)) e f
    by false t false f true g b i z j h =
        let e : stop.Quote ≡ why = cc in let same : c ≡ q = grind (arith, nat_tests) in subst (λ s. Why s q (c ∷ r)) e (r, ap (λ x. x ∷ r) same)
    by false t false f false g true i true j h =
        let e : stop.Backslash ≡ why = cc in
        let same : c ≡ 92 = grind (arith, nat_tests) in
        let none : escape_len r ≡ 0 = grind (arith, nat_tests) in
        subst (λ s. Why s q (c ∷ r)) e (r, ap (λ x. x ∷ r) same, none)
    by false t false f false g true i false j h = cc
    by false t false f false g false i z j h = cc

pub tab_stops : (q : ℕ) (r : List ℕ) → stop_of q (9 ∷ r) ≡ Some stop.Tab
tab_stops q r = refl

pub line_stops : (q : ℕ) (rest : List ℕ) → ends_line rest ≡ true → stop_of q rest ≡ Some stop.LineEnd
line_stops q [] h = refl
line_stops q (c ∷ r) h = let same : c ≡ 10 = grind (arith, nat_tests) in subst (λ x. stop_of q (x ∷ r) ≡ Some stop.LineEnd) (sym same) refl

pub quote_stops : (q : ℕ) (r : List ℕ) → is_quote q ≡ true → stop_of q (q ∷ r) ≡ Some stop.Quote
quote_stops q r h = by (quote_cases q h)
  where
    by : (q ≡ 34) ⊎ (q ≡ 39) → stop_of q (q ∷ r) ≡ Some stop.Quote
    by (inl e) = subst (λ x. stop_of x (x ∷ r) ≡ Some stop.Quote) (sym e) refl
    by (inr e) = subst (λ x. stop_of x (x ∷ r) ≡ Some stop.Quote) (sym e) refl

pub backslash_stops : (q : ℕ) (r : List ℕ) → is_quote q ≡ true → escape_len r ≡ 0 → stop_of q (92 ∷ r) ≡ Some stop.Backslash
backslash_stops q r h z = by (quote_cases q h)
  where
    zero_len : eqb (escape_len r) 0 ≡ true
    zero_len = ap (λ n. eqb n 0) z

    by : (q ≡ 34) ⊎ (q ≡ 39) → stop_of q (92 ∷ r) ≡ Some stop.Backslash
    by (inl e) = subst (λ x. stop_of x (92 ∷ r) ≡ Some stop.Backslash) (sym e) (rw zero_len refl)
    by (inr e) = subst (λ x. stop_of x (92 ∷ r) ≡ Some stop.Backslash) (sym e) (rw zero_len refl)

-- what a literal is, by where it stops
pub literal_is : (p : Place) (q : ℕ) {w ds : List ℕ} (rest : List ℕ) (why : Stop) → is_quote q ≡ true → Spells q w ds → stop_of q rest ≡ Some why
    → literal p q (w ++ rest) ≡ literal_by why p q (record { stop = why; length = length w; count = length ds })
literal_is p q rest why h s e = ap (λ b. literal_by b.stop p q b) (scan_is q rest why h s e)

-- no spelling of a literal is longer than the literal
pub literal_most : (q : ℕ) (w ds r : List ℕ) → is_quote q ≡ true → Spells q w ds → (x y : List ℕ) → x ++ y ≡ q ∷ (w ++ q ∷ r) → IsSpelling x → length x ≤ length w + 2
literal_most q w ds r h s [] y e k = omega arith
literal_most q w ds r h s (a ∷ x) y e k =
    let same : a ≡ q = same_head a q (x ++ y) (w ++ q ∷ r) e in
    let tail : x ++ y ≡ w ++ q ∷ r = same_tail a q (x ++ y) (w ++ q ∷ r) e in
    let quoted : Quoted a x = spelled_literal a x (ap is_quote same ∙ h) k in
    body quoted.0 quoted.1 (quoted.2 ∙ ap (λ z. quoted.0 ++ z ∷ []) same) (subst (λ z. Spells z quoted.0 quoted.1) same quoted.3) tail
  where
    body : (b cs : List ℕ) → x ≡ b ++ q ∷ [] → Spells q b cs → x ++ y ≡ w ++ q ∷ r → length (a ∷ x) ≤ length w + 2
    body b cs f t tail =
        let whole : b ++ q ∷ y ≡ w ++ q ∷ r = sym (append_assoc b (q ∷ []) y) ∙ ap (λ z. z ++ y) (sym f) ∙ tail in
        let left : scan q 0 (b ++ q ∷ y) ≡ record { stop = stop.Quote; length = length b; count = length cs } = scan_is q (q ∷ y) stop.Quote h t (quote_stops q y h) in
        let right_ : scan q 0 (w ++ q ∷ r) ≡ record { stop = stop.Quote; length = length w; count = length ds } = scan_is q (q ∷ r) stop.Quote h s (quote_stops q r h) in
        let size : length b ≡ length w = ap (λ (o : Body). o.length) (sym left ∙ ap (scan q 0) whole ∙ right_) in
        let total : length x ≡ length b + 1 = ap length f ∙ length-append b (q ∷ []) in
        omega arith
