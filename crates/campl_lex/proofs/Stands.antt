-- What stands at the front of a text is what the relation says of it.
use Rattle.std.proofs.Common.{◌≡◌, ℕ, zero, suc, ◌<◌, ◌≤◌, Bool, true, false, cond, ◌&&◌, ◌||◌, ◌==◌, eqb, nat_lt, nat_le, List, [], ◌∷◌, ◌++◌}
use Rattle.std.proofs.Common.{length, take, drop, Option, Some, None, Result, Ok, Err, refl, sym, ap, ◌∙◌, subst, arith}
use Rattle.std.specs.List.{prefix_len, list_all}
use Rattle.std.specs.Char.{is_ascii_digit}
use Rattle.std.proofs.lemmas.Bool.Decides.{nat_tests}
use Rattle.std.proofs.lemmas.List.{take-append-drop, take_at, length-take-le}
use Rattle.std.proofs.lemmas.List.Sums.{prefix_len-le-length}
use Rattle.campl_tree.specs.declared.place.Place.{Place}
use Rattle.campl_lex.specs.Limits.{longest_name, greatest_number}
use Rattle.campl_lex.specs.declared.token.TokenKind.{TokenKind}
use Rattle.campl_lex.specs.declared.token.TokenKind.TheVariants as kind
use Rattle.campl_lex.specs.declared.piece.Piece.{Piece}
use Rattle.campl_lex.specs.declared.fault.LexFault.{LexFault}
use Rattle.campl_lex.specs.declared.fault.LexFault.TheVariants.{BadCharacter, NumberTooLarge, NameTooLong}
use Rattle.campl_lex.specs.Spelling.{begins_name, goes_on, number_of, is_symbol, name_kind, symbol_kind, kind_of}
use Rattle.campl_lex.specs.Tokens.{is_white, begins_comment, begins_with, ends_line, is_quote, IsBlank, IsSpelling, IsLongest, IsWithinLimits}
use Rattle.campl_lex.specs.Tokens.{IsToken, Offends}
use Rattle.campl_lex.specs.Tokens as says
use Rattle.campl_lex.specs.Reading.{name_piece, number_piece, symbol_piece, symbol_len}
use Rattle.campl_lex.proofs.Runs.{run_longest}
use Rattle.campl_lex.proofs.Classes.{digit_no_name}
use Rattle.campl_lex.proofs.Families.{name_first, number_first, quote_no_name, some_spelled, spelled_name, spelled_number, spelled_symbol, differs}
use Rattle.campl_lex.proofs.Symbols.{symbol_longest, symbol_found}

pub apart : {A : Type 0} (b : Bool) → b ≡ true → b ≡ false → A
apart b h k = let e : true ≡ false = sym h ∙ k in absurd (let f : ⊥ = cc in f)

-- n characters at the front are a piece of this kind
abbrev pub Front : List ℕ → Option TokenKind → ℕ → Type 0
Front text None n = (w : List ℕ) × (rest : List ℕ) × (text ≡ w ++ rest) × (length w ≡ n) × IsBlank w rest
Front text (Some k) n = (w : List ℕ) × (rest : List ℕ) × (text ≡ w ++ rest) × (length w ≡ n) × IsToken w rest × (k ≡ kind_of w)

abbrev pub Stands : Place → List ℕ → Result Piece LexFault → Type 0
Stands p text (Ok found) = Front text found.kind found.length
Stands p text (Err fault) = Offends p text fault

pub same_head : (d c : ℕ) (x y : List ℕ) → d ∷ x ≡ c ∷ y → d ≡ c
same_head d c x y e = cc

pub same_tail : (d c : ℕ) (x y : List ℕ) → d ∷ x ≡ c ∷ y → x ≡ y
same_tail d c x y e = cc

-- no spelling of this first character is longer than a run
run_word : (first p : ℕ → Bool) → ((d : ℕ) (x : List ℕ) → first d ≡ true → IsSpelling (d ∷ x) → (first d && list_all p x) ≡ true)
    → (c : ℕ) (w rest : List ℕ) → first c ≡ true → prefix_len p (w ++ rest) ≡ length w
    → (x y : List ℕ) → x ++ y ≡ c ∷ (w ++ rest) → IsSpelling x → length x ≤ suc (length w)
run_word first p known c w rest b run [] y e s = omega arith
run_word first p known c w rest b run (d ∷ x) y e s =
    let same : d ≡ c = same_head d c (x ++ y) (w ++ rest) e in
    let tail : x ++ y ≡ w ++ rest = same_tail d c (x ++ y) (w ++ rest) e in
    let all : list_all p x ≡ true = second (first d) (list_all p x) (known d x (ap first same ∙ b) s) in
    let long : length x ≤ prefix_len p (x ++ y) = run_longest p x y all in
    let total : prefix_len p (x ++ y) ≡ length w = ap (prefix_len p) tail ∙ run in
    omega arith
  where
    second : (a b : Bool) → (a && b) ≡ true → b ≡ true
    second true b h = h
    second false b h = cc

pub both : (a b : Bool) → a ≡ true → b ≡ true → (a && b) ≡ true
both true b h k = k
both false b h k = cc

module _ (p : ℕ → Bool) (cs : List ℕ) where
  pub run_split : cs ≡ take (prefix_len p cs) cs ++ drop (prefix_len p cs) cs
  run_split = sym (take-append-drop (prefix_len p cs) cs)

  pub run_size : prefix_len p (take (prefix_len p cs) cs ++ drop (prefix_len p cs) cs) ≡ length (take (prefix_len p cs) cs)
  run_size = ap (prefix_len p) (sym run_split) ∙ sym (length-take-le (prefix_len p cs) cs (prefix_len-le-length p cs))

pub name_longest : (c : ℕ) (w rest : List ℕ) → begins_name c ≡ true → list_all goes_on w ≡ true → prefix_len goes_on (w ++ rest) ≡ length w → IsLongest (c ∷ w) rest
name_longest c w rest b a run =
    record { spelled = says.name (both (begins_name c) (list_all goes_on w) b a); longest = run_word begins_name goes_on spelled_name c w rest b run }

pub number_longest : (c : ℕ) (w rest : List ℕ) → is_ascii_digit c ≡ true → list_all is_ascii_digit w ≡ true → prefix_len is_ascii_digit (w ++ rest) ≡ length w → IsLongest (c ∷ w) rest
number_longest c w rest b a run =
    record { spelled = says.number (both (is_ascii_digit c) (list_all is_ascii_digit w) b a); longest = run_word is_ascii_digit is_ascii_digit spelled_number c w rest b run }

pub kind_name : (c : ℕ) (w : List ℕ) → begins_name c ≡ true → kind_of (c ∷ w) ≡ name_kind (c ∷ w)
kind_name c w b =
    let t : (c == 34) ≡ false = differs begins_name c 34 b (quote_no_name 34 refl) in
    let k : (c == 39) ≡ false = differs begins_name c 39 b (quote_no_name 39 refl) in
    let d : is_ascii_digit c ≡ false = no_digit (is_ascii_digit c) refl in
    rw (t, k, d, b) refl
  where
    no_digit : (d : Bool) → is_ascii_digit c ≡ d → is_ascii_digit c ≡ false
    no_digit true e = apart (begins_name c) b (digit_no_name c e)
    no_digit false e = e

pub kind_number : (c : ℕ) (w : List ℕ) → is_ascii_digit c ≡ true → kind_of (c ∷ w) ≡ kind.Number
kind_number c w b =
    let t : (c == 34) ≡ false = differs is_ascii_digit c 34 b refl in
    let k : (c == 39) ≡ false = differs is_ascii_digit c 39 b refl in
    rw (t, k, b) refl

not_34 : (c : ℕ) (b x : List ℕ) → (p : ℕ → Bool) → p c ≡ true → p 34 ≡ false → c ∷ x ≡ 34 ∷ b → ⊥
not_34 c b x p h k e = apart (p 34) (ap p (sym (same_head c 34 x b e)) ∙ h) k

name_within : (c : ℕ) (w : List ℕ) → begins_name c ≡ true → length (c ∷ w) ≤ longest_name → IsWithinLimits (c ∷ w)
name_within c w b l =
    record {
      name = λ _. l;
      number = λ h. apart (begins_name c) b (digit_no_name c (number_first c w h));
      text = λ x cs e s. absurd (not_34 c (x ++ 34 ∷ []) w begins_name b (quote_no_name 34 refl) e);
    }

number_within : (c : ℕ) (w : List ℕ) → is_ascii_digit c ≡ true → number_of (c ∷ w) ≤ greatest_number → IsWithinLimits (c ∷ w)
number_within c w b l =
    record {
      name = λ h. apart (begins_name c) (name_first c w h) (digit_no_name c b);
      number = λ _. l;
      text = λ x cs e s. absurd (not_34 c (x ++ 34 ∷ []) w is_ascii_digit b refl e);
    }

-- a name at the front
pub sound_name : (p : Place) (c : ℕ) (cs w rest : List ℕ) → cs ≡ w ++ rest → list_all goes_on w ≡ true → prefix_len goes_on (w ++ rest) ≡ length w
    → begins_comment (c ∷ cs) ≡ false → begins_name c ≡ true → Stands p (c ∷ cs) (name_piece p (c ∷ w))
sound_name p c cs w rest split a run m b = by (nat_lt longest_name (length (c ∷ w))) refl
  where
    by : (t : Bool) → nat_lt longest_name (length (c ∷ w)) ≡ t → Stands p (c ∷ cs) (cond t (Err (NameTooLong p)) (Ok (record { kind = Some (name_kind (c ∷ w)); length = length (c ∷ w) })))
    by true e =
        let more : longest_name < length (c ∷ w) = grind (arith, nat_tests) in
        subst (λ t. Offends p (c ∷ t) (NameTooLong p)) (sym split)
        (says.long_name (c ∷ w) rest (both (begins_name c) (list_all goes_on w) b a) (name_longest c w rest b a run) more)
    by false e =
        let less : length (c ∷ w) ≤ longest_name = grind (arith, nat_tests) in (
          c ∷ w,
          rest,
          ap (λ t. c ∷ t) split,
          refl,
          record { longest = name_longest c w rest b a run; no_comment = ap (λ t. begins_comment (c ∷ t)) (sym split) ∙ m; within = name_within c w b less },
          sym (kind_name c w b),
        )

pub sound_number : (p : Place) (c : ℕ) (cs w rest : List ℕ) → cs ≡ w ++ rest → list_all is_ascii_digit w ≡ true → prefix_len is_ascii_digit (w ++ rest) ≡ length w
    → begins_comment (c ∷ cs) ≡ false → is_ascii_digit c ≡ true → Stands p (c ∷ cs) (number_piece p (c ∷ w))
sound_number p c cs w rest split a run m b = by (nat_le (number_of (c ∷ w)) greatest_number) refl
  where
    by : (t : Bool) → nat_le (number_of (c ∷ w)) greatest_number ≡ t → Stands p (c ∷ cs) (cond t (Ok (record { kind = Some kind.Number; length = length (c ∷ w) })) (Err (NumberTooLarge p)))
    by false e =
        let more : greatest_number < number_of (c ∷ w) = grind (arith, nat_tests) in
        subst (λ t. Offends p (c ∷ t) (NumberTooLarge p)) (sym split)
        (says.large_number (c ∷ w) rest (both (is_ascii_digit c) (list_all is_ascii_digit w) b a) (number_longest c w rest b a run) more)
    by true e =
        let less : number_of (c ∷ w) ≤ greatest_number = grind (arith, nat_tests) in (
          c ∷ w,
          rest,
          ap (λ t. c ∷ t) split,
          refl,
          record { longest = number_longest c w rest b a run; no_comment = ap (λ t. begins_comment (c ∷ t)) (sym split) ∙ m; within = number_within c w b less },
          sym (kind_number c w b),
        )

-- a symbol at the front, or a character that begins nothing
pub symbol_most : (c : ℕ) (cs : List ℕ) → begins_name c ≡ false → is_ascii_digit c ≡ false → is_quote c ≡ false → (x y : List ℕ) → x ++ y ≡ c ∷ cs → IsSpelling x
    → (0 < length x) × (length x ≤ symbol_len c cs)
symbol_most c cs b d q [] y e s = absurd (some_spelled s)
symbol_most c cs b d q (a ∷ x) y e s =
    let same : a ≡ c = same_head a c (x ++ y) cs e in
    let tail : x ++ y ≡ cs = same_tail a c (x ++ y) cs e in
    let sym_is : is_symbol (a ∷ x) ≡ true = spelled_symbol a x (ap begins_name same ∙ b) (ap is_ascii_digit same ∙ d) (ap is_quote same ∙ q) s in
    let long : length (a ∷ x) ≤ symbol_len a (x ++ y) = symbol_longest a x y sym_is in
    let total : symbol_len a (x ++ y) ≡ symbol_len c cs = ap (λ t. symbol_len a t) tail ∙ ap (λ t. symbol_len t cs) same in
    (omega arith, omega arith)

pub kind_symbol : (c : ℕ) (w : List ℕ) → begins_name c ≡ false → is_ascii_digit c ≡ false → is_quote c ≡ false → kind_of (c ∷ w) ≡ symbol_kind (c ∷ w)
kind_symbol c w b d q = by (eqb c 34) refl (eqb c 39) refl
  where
    by : (x : Bool) → eqb c 34 ≡ x → (y : Bool) → eqb c 39 ≡ y → kind_of (c ∷ w) ≡ symbol_kind (c ∷ w)
    by true e y f = apart (is_quote c) (ap (λ t. t || c == 39) e) q
    by false e true f = apart (is_quote c) (ap (λ t. (c == 34) || t) f ∙ ap (λ t. t || true) e) q
    by false e false f = rw (e, f, d, b) refl

symbol_within : (c : ℕ) (w : List ℕ) → begins_name c ≡ false → is_ascii_digit c ≡ false → is_quote c ≡ false → IsWithinLimits (c ∷ w)
symbol_within c w b d q =
    record {
      name = λ h. apart (begins_name c) (name_first c w h) b;
      number = λ h. apart (is_ascii_digit c) (number_first c w h) d;
      text = λ x cs e s. apart (is_quote c) (ap is_quote (same_head c 34 w (x ++ 34 ∷ []) e)) q;
    }

pub sound_symbol : (p : Place) (c : ℕ) (cs : List ℕ) → (c == 9) ≡ false → is_white c cs ≡ false → begins_comment (c ∷ cs) ≡ false
    → begins_name c ≡ false → is_ascii_digit c ≡ false → is_quote c ≡ false → Stands p (c ∷ cs) (symbol_piece p (c ∷ cs))
sound_symbol p c cs t wh m b d q = by (symbol_len c cs) refl (eqb (symbol_len c cs) 0) refl
  where
    found : (n : ℕ) → symbol_len c cs ≡ suc n → (w rest : List ℕ) → c ∷ cs ≡ w ++ rest → length w ≡ suc n → is_symbol w ≡ true
        → Front (c ∷ cs) (Some (symbol_kind (take (suc n) (c ∷ cs)))) (suc n)
    found n e [] rest f l s = absurd (omega arith)
    found n e (a ∷ w) rest f l s =
        let same : c ≡ a = same_head c a cs (w ++ rest) f in (
          a ∷ w,
          rest,
          f,
          l,
          record {
            longest =
                record {
                  spelled = says.symbol s;
                  longest = λ x y g k. let h : (0 < length x) × (length x ≤ symbol_len c cs) = symbol_most c cs b d q x y (g ∙ sym f) k in omega (arith, h.1);
                };
            no_comment = ap begins_comment (sym f) ∙ m;
            within = symbol_within a w (ap begins_name (sym same) ∙ b) (ap is_ascii_digit (sym same) ∙ d) (ap is_quote (sym same) ∙ q);
          },
          ap symbol_kind (ap (take (suc n)) f ∙ take_at (a ∷ w) rest (suc n) l)
              ∙ sym (kind_symbol a w (ap begins_name (sym same) ∙ b) (ap is_ascii_digit (sym same) ∙ d) (ap is_quote (sym same) ∙ q)),
        )

    by : (n : ℕ) → symbol_len c cs ≡ n → (z : Bool) → eqb n 0 ≡ z → Stands p (c ∷ cs) (cond z (Err (BadCharacter p)) (Ok (record { kind = Some (symbol_kind (take n (c ∷ cs))); length = n })))
    by n e true z =
        says.bad_character c cs t q wh m
        (λ x y f s. let h : (0 < length x) × (length x ≤ symbol_len c cs) = symbol_most c cs b d q x y f s in
        let k : n ≡ 0 = grind (arith, nat_tests) in
        absurd (omega (arith, h.0, h.1)))
    by zero e false z = absurd (let f : ⊥ = cc in f)
    by (suc n) e false z = let h = symbol_found c cs n e in found n e h.0 h.1 h.2 h.3 h.4
