-- What a literal at the front of a text is.
use Rattle.std.proofs.Common.{◌≡◌, ℕ, suc, ◌+◌, ◌<◌, ◌≤◌, Bool, true, false, cond, not, ◌&&◌, ◌||◌, ◌==◌, eqb, nat_lt, List, [], ◌∷◌, ◌++◌, length}
use Rattle.std.proofs.Common.{Some, None, Ok, Err, refl, sym, ap, ◌∙◌, subst, arith, append_assoc, length-append, add-one, add-zero, add_assoc}
use Rattle.std.specs.List.{list_all}
use Rattle.std.specs.Char.{is_ascii_digit}
use Rattle.std.proofs.lemmas.Bool.Decides.{nat_tests}
use Rattle.campl_tree.specs.declared.place.Place.{Place}
use Rattle.campl_lex.specs.Limits.{longest_text}
use Rattle.campl_lex.specs.declared.token.TokenKind.TheVariants as kind
use Rattle.campl_lex.specs.declared.literal.Stop.{Stop}
use Rattle.campl_lex.specs.declared.literal.Stop.TheVariants as stop
use Rattle.campl_lex.specs.declared.literal.Body.{Body}
use Rattle.campl_lex.specs.declared.fault.LexFault.TheVariants.{OpenString, BadEscape, Tab, TextTooLong}
use Rattle.campl_lex.specs.Spot.{place_past}
use Rattle.campl_lex.specs.Spelling.{begins_name}
use Rattle.campl_lex.specs.Literal.{IsEscape, Spells}
use Rattle.campl_lex.specs.Tokens.{is_white, begins_comment, begins_with, ends_line, is_quote, IsBlank, IsSpelling, IsLongest, IsWithinLimits}
use Rattle.campl_lex.specs.Tokens.{IsToken, Offends}
use Rattle.campl_lex.specs.Tokens as says
use Rattle.campl_lex.specs.Reading.{literal, literal_by, closed_literal, scan, right, stop_of, escape_len}
use Rattle.campl_lex.proofs.Families.{name_first, number_first, quote_no_name}
use Rattle.campl_lex.proofs.Escapes.{escape_is}
use Rattle.campl_lex.proofs.Literals.{scan_is, finds, Found}
use Rattle.std.proofs.Common.{inl, inr, ◌⊎◌}
use Rattle.campl_lex.proofs.Stands.{apart, same_head, same_tail, Stands}
use Rattle.std.proofs.lemmas.List.Folds.{list_all-append}
use Rattle.std.proofs.Common.{one-add}
use Rattle.campl_lex.specs.Spot.{after}
use Rattle.campl_lex.specs.Literal.{short_escape, is_hex_digit}
use Rattle.campl_lex.specs.Literal as lit
use Rattle.campl_lex.proofs.Escapes.{escape_some}
use Rattle.campl_lex.proofs.Families.{differs}
use Rattle.campl_lex.proofs.Stands.{both}
use Rattle.campl_lex.proofs.StandsLiteral.{quote_cases, Why, why_from, literal_is, literal_most}

-- a closed literal's piece
quote_comment : (q : ℕ) (x : List ℕ) → is_quote q ≡ true → begins_comment (q ∷ x) ≡ false
quote_comment q x h = by (quote_cases q h)
  where
    by : (q ≡ 34) ⊎ (q ≡ 39) → begins_comment (q ∷ x) ≡ false
    by (inl e) = subst (λ z. begins_comment (z ∷ x) ≡ false) (sym e) refl
    by (inr e) = subst (λ z. begins_comment (z ∷ x) ≡ false) (sym e) refl

pub closed_size : (q : ℕ) (w : List ℕ) → length (q ∷ (w ++ q ∷ [])) ≡ length w + 2
closed_size q w = let e : length (w ++ q ∷ []) ≡ length w + 1 = length-append w (q ∷ []) in omega arith

closed_longest : (q : ℕ) (w ds r : List ℕ) → is_quote q ≡ true → Spells q w ds → IsSpelling (q ∷ (w ++ q ∷ [])) → IsLongest (q ∷ (w ++ q ∷ [])) r
closed_longest q w ds r h s k =
    record {
      spelled = k;
      longest = λ x y e t.
          let l : length x ≤ length w + 2 = literal_most q w ds r h s x y (e ∙ ap (λ z. q ∷ z) (append_assoc w (q ∷ []) r)) t in
          omega (arith, closed_size q w);
    }

-- the characters between a literal's quotes are told by the literal
one_body : (w ds b cs : List ℕ) → Spells 34 w ds → Spells 34 b cs → 34 ∷ (w ++ 34 ∷ []) ≡ 34 ∷ (b ++ 34 ∷ []) → length cs ≡ length ds
one_body w ds b cs s t e =
    let tail : w ++ 34 ∷ [] ≡ b ++ 34 ∷ [] = same_tail 34 34 (w ++ 34 ∷ []) (b ++ 34 ∷ []) e in
    ap (λ (o : Body). o.count)
    (sym (scan_is 34 {w = b} {cs = cs} (34 ∷ []) stop.Quote refl t refl) ∙ ap (scan 34 0) (sym tail) ∙ scan_is 34 {w = w} {cs = ds} (34 ∷ []) stop.Quote refl s refl)

text_within : (w ds : List ℕ) → Spells 34 w ds → length ds ≤ longest_text → IsWithinLimits (34 ∷ (w ++ 34 ∷ []))
text_within w ds s l =
    record {
      name = λ h. apart (begins_name 34) (name_first 34 (w ++ 34 ∷ []) h) (quote_no_name 34 refl);
      number = λ h. apart (is_ascii_digit 34) (number_first 34 (w ++ 34 ∷ []) h) refl;
      text = λ b cs e t. let k : length cs ≡ length ds = one_body w ds b cs s t e in omega arith;
    }

character_within : (w : List ℕ) → IsWithinLimits (39 ∷ (w ++ 39 ∷ []))
character_within w =
    record {
      name = λ h. apart (begins_name 39) (name_first 39 (w ++ 39 ∷ []) h) (quote_no_name 39 refl);
      number = λ h. apart (is_ascii_digit 39) (number_first 39 (w ++ 39 ∷ []) h) refl;
      text = λ b cs e t. absurd (let k : 39 ≡ 34 = same_head 39 34 (w ++ 39 ∷ []) (b ++ 34 ∷ []) e in omega arith);
    }

one_of : (ds : List ℕ) → length ds ≡ 1 → (d : ℕ) × (ds ≡ d ∷ [])
one_of [] h = absurd (omega arith)
one_of (d ∷ []) h = (d, refl)
one_of (d ∷ e ∷ ds) h = absurd (omega arith)

sound_character : (p : Place) (w ds r : List ℕ) → Spells 39 w ds
    → Stands p (39 ∷ (w ++ 39 ∷ r)) (closed_literal p 39 (record { stop = stop.Quote; length = length w; count = length ds }))
sound_character p w ds r s = by (eqb (length ds) 1) refl
  where
    by : (b : Bool) → eqb (length ds) 1 ≡ b → Stands p (39 ∷ (w ++ 39 ∷ r)) (cond b (Ok (record { kind = Some kind.Character; length = length w + 2 })) (Err (OpenString p)))
    by true e =
        let one : length ds ≡ 1 = grind (arith, nat_tests) in
        let d = one_of ds one in
        let k : IsSpelling (39 ∷ (w ++ 39 ∷ [])) = says.character d.0 (subst (Spells 39 w) d.1 s) in (
          39 ∷ (w ++ 39 ∷ []),
          r,
          ap (λ z. 39 ∷ z) (sym (append_assoc w (39 ∷ []) r)),
          closed_size 39 w,
          record { longest = closed_longest 39 w ds r refl s k; no_comment = refl; within = character_within w },
          refl,
        )
    by false e = says.not_one_character w ds r s (λ h. apart (eqb (length ds) 1) (ap (λ n. eqb n 1) h) e)

sound_text : (p : Place) (w ds r : List ℕ) → Spells 34 w ds
    → Stands p (34 ∷ (w ++ 34 ∷ r)) (closed_literal p 34 (record { stop = stop.Quote; length = length w; count = length ds }))
sound_text p w ds r s = by (nat_lt longest_text (length ds)) refl
  where
    by : (b : Bool) → nat_lt longest_text (length ds) ≡ b → Stands p (34 ∷ (w ++ 34 ∷ r)) (cond b (Err (TextTooLong p)) (Ok (record { kind = Some kind.Text; length = length w + 2 })))
    by true e = let more : longest_text < length ds = grind (arith, nat_tests) in says.long_text w ds r s more
    by false e =
        let less : length ds ≤ longest_text = grind (arith, nat_tests) in (
          34 ∷ (w ++ 34 ∷ []),
          r,
          ap (λ z. 34 ∷ z) (sym (append_assoc w (34 ∷ []) r)),
          closed_size 34 w,
          record { longest = closed_longest 34 w ds r refl s (says.text s); no_comment = refl; within = text_within w ds s less },
          refl,
        )

-- within a literal no line ends, so places go right
right_past : (p : Place) (w : List ℕ) → list_all (λ c. not (c == 10)) w ≡ true → place_past p w ≡ right p (length w)
right_past p [] h = ap (λ n. record { line = p.line; column = n }) (sym (add-zero p.column))
right_past p (c ∷ w) h = by (eqb c 10) refl h (right_past (right p 1) w)
  where
    by : (b : Bool) → eqb c 10 ≡ b → (not b && list_all (λ c. not (c == 10)) w) ≡ true
        → (list_all (λ c. not (c == 10)) w ≡ true → place_past (right p 1) w ≡ right (right p 1) (length w))
        → place_past (after p c) w ≡ right p (suc (length w))
    by true e h k = cc
    by false e h k =
        ap (λ b. place_past (cond {A = Place} b (record { line = p.line + 1; column = 1 }) (right p 1)) w) e
        ∙ k h
        ∙ ap (λ n. record { line = p.line; column = n }) (add_assoc p.column 1 (length w) ∙ ap (λ n. p.column + n) (one-add (length w)))

all_imp : (p r : ℕ → Bool) (w : List ℕ) → ((c : ℕ) → p c ≡ true → r c ≡ true) → list_all p w ≡ true → list_all r w ≡ true
all_imp p r [] k h = refl
all_imp p r (c ∷ w) k h = by (p c) refl h (all_imp p r w k)
  where
    by : (b : Bool) → p c ≡ b → (b && list_all p w) ≡ true → (list_all p w ≡ true → list_all r w ≡ true) → (r c && list_all r w) ≡ true
    by true e h m = both (r c) (list_all r w) (k c e) (m h)
    by false e h m = cc

-- the character ends no line
abbrev pub stays : ℕ → Bool
stays c = not (c == 10)

short_stays : (x c : ℕ) → short_escape x ≡ Some c → stays x ≡ true
short_stays x c h = by (eqb x 10) refl
  where
    by : (b : Bool) → eqb x 10 ≡ b → stays x ≡ true
    by true e = absurd (let same : x ≡ 10 = grind (arith, nat_tests) in let k : None ≡ Some c = sym (ap short_escape same) ∙ h in let f : ⊥ = cc in f)
    by false e = ap not e

hex_stays : (c : ℕ) → is_hex_digit c ≡ true → stays c ≡ true
hex_stays c h = ap not (differs is_hex_digit c 10 h refl)

escape_stays : {e : List ℕ} {c : ℕ} → IsEscape e c → list_all stays e ≡ true
escape_stays (lit.short x c h) = both (stays x) true (short_stays x c h) refl
escape_stays (lit.unicode h a l m s) = list_all-append stays h (125 ∷ []) ∙ both (list_all stays h) true (all_imp is_hex_digit stays h hex_stays a) refl

spells_stays : (q : ℕ) {w cs : List ℕ} → Spells q w cs → list_all stays w ≡ true
spells_stays q lit.nothing = refl
spells_stays q (lit.plain c {w} {cs} k s) = both (stays c) (list_all stays w) (plain_stays (eqb c 9) (eqb c 10) (eqb c q) (eqb c 92) k) (spells_stays q s)
  where
    plain_stays : (t l k b : Bool) → not (((t || l) || k) || b) ≡ true → not l ≡ true
    plain_stays t false k b h = refl
    plain_stays true true k b h = cc
    plain_stays false true k b h = cc
spells_stays q (lit.escape e c {w} {cs} k s) = list_all-append stays e w ∙ both (list_all stays e) (list_all stays w) (escape_stays k) (spells_stays q s)

pub spells_right : (p : Place) (q : ℕ) {w cs : List ℕ} → is_quote q ≡ true → Spells q w cs → place_past p (q ∷ w) ≡ right p (length w + 1)
spells_right p q {w} {cs} h s =
    right_past p (q ∷ w) (both (stays q) (list_all stays w) (quote_stays (quote_cases q h)) (spells_stays q s))
    ∙ ap (right p) (sym (add-one (length w)))
  where
    quote_stays : (q ≡ 34) ⊎ (q ≡ 39) → stays q ≡ true
    quote_stays (inl e) = subst (λ z. stays z ≡ true) (sym e) refl
    quote_stays (inr e) = subst (λ z. stays z ≡ true) (sym e) refl

no_escape : (r : List ℕ) → escape_len r ≡ 0 → (e y : List ℕ) (c : ℕ) → e ++ y ≡ r → IsEscape e c → ⊥
no_escape r z e y c f k =
    let long : escape_len (e ++ y) ≡ length e = escape_is k y in
    let some : 0 < length e = escape_some k in
    let same : escape_len (e ++ y) ≡ escape_len r = ap escape_len f in
    omega arith

-- a literal at the front
pub sound_literal : (p : Place) (q : ℕ) (cs : List ℕ) → is_quote q ≡ true → Stands p (q ∷ cs) (literal p q cs)
sound_literal p q cs h = at (finds q h (length cs) cs (omega arith))
  where
    by : (w ds rest : List ℕ) (why : Stop) → Spells q w ds → stop_of q rest ≡ Some why → Why why q rest
        → Stands p (q ∷ (w ++ rest)) (literal_by why p q (record { stop = why; length = length w; count = length ds }))
    by w ds rest stop.Tab s e (r, f) =
        subst (λ z. Offends p (q ∷ (w ++ z)) (Tab (right p (length w + 1)))) (sym f)
        (subst (λ z. Offends p (q ∷ (w ++ 9 ∷ r)) (Tab z)) (spells_right p q h s) (says.tab_within q w ds r h s))
    by w ds rest stop.Backslash s e (r, f, z) =
        subst (λ t. Offends p (q ∷ (w ++ t)) (BadEscape (right p (length w + 1)))) (sym f)
        (subst (λ t. Offends p (q ∷ (w ++ 92 ∷ r)) (BadEscape t)) (spells_right p q h s) (says.bad_escape q w ds r h s (no_escape r z)))
    by w ds rest stop.LineEnd s e f = says.open_literal q w ds rest h s f
    by w ds rest stop.Quote s e (r, f) = closed (quote_cases q h)
      where
        closed : (q ≡ 34) ⊎ (q ≡ 39) → Stands p (q ∷ (w ++ rest)) (closed_literal p q (record { stop = stop.Quote; length = length w; count = length ds }))
        closed (inl g) =
            subst (λ z. Stands p (q ∷ (w ++ z)) (closed_literal p q (record { stop = stop.Quote; length = length w; count = length ds }))) (sym f)
            (subst (λ z. Stands p (z ∷ (w ++ z ∷ r)) (closed_literal p z (record { stop = stop.Quote; length = length w; count = length ds }))) (sym g)
            (sound_text p w ds r (subst (λ z. Spells z w ds) g s)))
        closed (inr g) =
            subst (λ z. Stands p (q ∷ (w ++ z)) (closed_literal p q (record { stop = stop.Quote; length = length w; count = length ds }))) (sym f)
            (subst (λ z. Stands p (z ∷ (w ++ z ∷ r)) (closed_literal p z (record { stop = stop.Quote; length = length w; count = length ds }))) (sym g)
            (sound_character p w ds r (subst (λ z. Spells z w ds) g s)))

    at : Found q cs → Stands p (q ∷ cs) (literal p q cs)
    at (w, ds, rest, why, f, s, e) =
        subst (λ z. Stands p (q ∷ z) (literal p q z)) (sym f)
        (subst (Stands p (q ∷ (w ++ rest))) (sym (literal_is p q rest why h s e)) (by w ds rest why s e (why_from q rest why e)))
