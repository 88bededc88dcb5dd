-- What the relation says of the front of a text is what the function says.
use Rattle.std.proofs.Common.{◌≡◌, ℕ, zero, suc, ◌+◌, ◌≤◌, Bool, true, false, cond, not, ◌&&◌, eqb, nat_lt, nat_le, List, [], ◌∷◌, ◌++◌, length, take}
use Rattle.std.proofs.Common.{drop, Some, Ok, Err, refl, sym, ap, ◌∙◌, subst, arith, append_assoc}
use Rattle.std.specs.List.{prefix_len, list_all}
use Rattle.std.specs.Char.{is_ascii_digit}
use Rattle.std.proofs.lemmas.Bool.Decides.{nat_tests}
use Rattle.std.proofs.lemmas.List.{take-append-drop, take_at, length-take-le}
use Rattle.std.proofs.lemmas.List.Sums.{prefix_len-le-length}
use Rattle.campl_tree.specs.declared.place.Place.{Place}
use Rattle.campl_lex.specs.Limits.{longest_name, longest_text, greatest_number}
use Rattle.campl_lex.specs.declared.token.TokenKind.TheVariants as kind
use Rattle.campl_lex.specs.declared.literal.Stop.TheVariants as stop
use Rattle.campl_lex.specs.declared.fault.LexFault.{LexFault}
use Rattle.campl_lex.specs.declared.fault.LexFault.TheVariants.{BadCharacter, OpenString, BadEscape, NumberTooLarge, NameTooLong, Tab, TextTooLong}
use Rattle.campl_lex.specs.Spelling.{begins_name, goes_on, number_of, name_kind, symbol_kind, kind_of}
use Rattle.campl_lex.specs.Literal.{Spells}
use Rattle.campl_lex.specs.Tokens.{is_white, begins_comment, begins_with, ends_line, is_quote, IsBlank, IsSpelling, IsLongest, IsWithinLimits}
use Rattle.campl_lex.specs.Tokens.{IsToken, Offends}
use Rattle.campl_lex.specs.Tokens as says
use Rattle.campl_lex.specs.Reading.{piece, blank, name_piece, number_piece, literal, closed_literal, symbol_len, escape_len}
use Rattle.campl_lex.proofs.Runs.{run_passes, run_longest, run_before, run_whole}
use Rattle.campl_lex.proofs.Classes.{no_name, digit_no_name}
use Rattle.campl_lex.proofs.Families.{name_first, number_first, quote_no_name, some_spelled, spelled_name, spelled_number, spelled_symbol}
use Rattle.campl_lex.proofs.Families.{spelled_literal, spelled_no_blank}
use Rattle.campl_lex.proofs.Symbols.{symbol_longest, symbol_found}
use Rattle.campl_lex.proofs.Pieces.{piece_tab, piece_white, piece_comment, piece_name, piece_number, piece_literal, piece_symbol}
use Rattle.campl_lex.proofs.Escapes.{escape_found}
use Rattle.std.proofs.Common.{inl, inr, ◌⊎◌}
use Rattle.std.proofs.Common.{append-nil, lit<}
use Rattle.campl_lex.proofs.Families.{differs}
use Rattle.campl_lex.proofs.Stands.{both}
use Rattle.campl_lex.proofs.StandsLiteral.{quote_cases, line_stops, quote_stops, backslash_stops, literal_is}
use Rattle.campl_lex.proofs.Stands.{kind_name, kind_number, kind_symbol}
use Rattle.campl_lex.proofs.SoundLiteral.{spells_right, closed_size, stays}

second : (a b : Bool) → (a && b) ≡ true → b ≡ true
second true b h = h
second false b h = cc

line_run : (w rest : List ℕ) → list_all stays w ≡ true → ends_line rest ≡ true → prefix_len stays (w ++ rest) ≡ length w
line_run w [] a e = ap (prefix_len stays) (append-nil w) ∙ run_whole stays w a
line_run w (y ∷ ys) a e = run_before stays w y ys a (ap not e)

pub blank_only : (p : Place) (w rest : List ℕ) → IsBlank w rest → piece p (w ++ rest) ≡ Ok (blank (length w))
blank_only p w rest (says.white c r h) = piece_white p c r (differs (λ x. is_white x r) c 9 h refl) h
blank_only p w rest (says.comment x r a e) =
    piece_comment p 45 (45 ∷ (x ++ r)) refl refl refl
    ∙ ap (λ n. Ok (blank n)) (let run : prefix_len stays (x ++ r) ≡ length x = line_run x r a e in let whole : prefix_len stays (45 ∷ (x ++ r)) ≡ 1 + prefix_len stays (x ++ r) = refl in omega arith)

-- a word that is the longest of its kind is the run
run_exact : (p : ℕ → Bool) (w rest : List ℕ) → list_all p w ≡ true → suc (length (take (prefix_len p (w ++ rest)) (w ++ rest))) ≤ suc (length w) → take (prefix_len p (w ++ rest)) (w ++ rest) ≡ w
run_exact p w rest a l =
    let n = prefix_len p (w ++ rest) in
    let low : length w ≤ n = run_longest p w rest a in
    let size : length (take n (w ++ rest)) ≡ n = length-take-le n (w ++ rest) (prefix_len-le-length p (w ++ rest)) in
    let same : n ≡ length w = omega arith in
    ap (λ k. take k (w ++ rest)) same ∙ take_at w rest (length w) refl

module _ (p : Place) (c : ℕ) (w rest : List ℕ) (long : IsLongest (c ∷ w) rest) where
  name_run : begins_name c ≡ true → take (prefix_len goes_on (w ++ rest)) (w ++ rest) ≡ w
  name_run b =
      let n = prefix_len goes_on (w ++ rest) in
      run_exact goes_on w rest (second (begins_name c) (list_all goes_on w) (spelled_name c w b long.spelled))
      (long.longest (c ∷ take n (w ++ rest)) (drop n (w ++ rest)) (ap (λ t. c ∷ t) (take-append-drop n (w ++ rest)))
      (says.name (both (begins_name c) (list_all goes_on (take n (w ++ rest))) b (run_passes goes_on (w ++ rest)))))

  number_run : is_ascii_digit c ≡ true → take (prefix_len is_ascii_digit (w ++ rest)) (w ++ rest) ≡ w
  number_run b =
      let n = prefix_len is_ascii_digit (w ++ rest) in
      run_exact is_ascii_digit w rest (second (is_ascii_digit c) (list_all is_ascii_digit w) (spelled_number c w b long.spelled))
      (long.longest (c ∷ take n (w ++ rest)) (drop n (w ++ rest)) (ap (λ t. c ∷ t) (take-append-drop n (w ++ rest)))
      (says.number (both (is_ascii_digit c) (list_all is_ascii_digit (take n (w ++ rest))) b (run_passes is_ascii_digit (w ++ rest)))))

  pub named_piece : begins_comment (c ∷ (w ++ rest)) ≡ false → begins_name c ≡ true → piece p (c ∷ (w ++ rest)) ≡ name_piece p (c ∷ w)
  named_piece m b =
      let nb = spelled_no_blank c w long.spelled in
      piece_name p c (w ++ rest) nb.0 (nb.1 (w ++ rest)) m b ∙ ap (λ t. name_piece p (c ∷ t)) (name_run b)

  pub numbered_piece : begins_comment (c ∷ (w ++ rest)) ≡ false → begins_name c ≡ false → is_ascii_digit c ≡ true → piece p (c ∷ (w ++ rest)) ≡ number_piece p (c ∷ w)
  numbered_piece m b d =
      let nb = spelled_no_blank c w long.spelled in
      piece_number p c (w ++ rest) nb.0 (nb.1 (w ++ rest)) m b d ∙ ap (λ t. number_piece p (c ∷ t)) (number_run d)

  -- a symbol that is longest has the length that is read
  symbol_run : begins_name c ≡ false → is_ascii_digit c ≡ false → is_quote c ≡ false → symbol_len c (w ++ rest) ≡ suc (length w)
  symbol_run b d q = by (symbol_len c (w ++ rest)) refl (symbol_longest c w rest (spelled_symbol c w b d q long.spelled))
    where
      by : (n : ℕ) → symbol_len c (w ++ rest) ≡ n → suc (length w) ≤ n → n ≡ suc (length w)
      by zero e l = absurd (omega arith)
      by (suc n) e l =
          let h = symbol_found c (w ++ rest) n e in
          let k : length h.0 ≤ suc (length w) = long.longest h.0 h.1 (sym h.2) (says.symbol h.4) in
          omega (arith, h.3)

-- a literal's piece
pub quoted_piece : (p : Place) (q : ℕ) (x : List ℕ) → is_quote q ≡ true → piece p (q ∷ x) ≡ literal p q x
quoted_piece p q x h = by (quote_cases q h)
  where
    by : (q ≡ 34) ⊎ (q ≡ 39) → piece p (q ∷ x) ≡ literal p q x
    by (inl e) = subst (λ z. piece p (z ∷ x) ≡ literal p z x) (sym e) (piece_literal p 34 x refl refl refl (quote_no_name 34 refl) refl refl)
    by (inr e) = subst (λ z. piece p (z ∷ x) ≡ literal p z x) (sym e) (piece_literal p 39 x refl refl refl (quote_no_name 39 refl) refl refl)

closed_piece : (p : Place) (q : ℕ) {b cs : List ℕ} (rest : List ℕ) → is_quote q ≡ true → Spells q b cs
    → piece p (q ∷ (b ++ q ∷ rest)) ≡ closed_literal p q (record { stop = stop.Quote; length = length b; count = length cs })
closed_piece p q {b} {cs} rest h s = quoted_piece p q (b ++ q ∷ rest) h ∙ literal_is p q (q ∷ rest) stop.Quote h s (quote_stops q rest h)

not_more : (a b : ℕ) → a ≤ b → nat_lt b a ≡ false
not_more a b h = grind (arith, nat_tests)

is_within : (a b : ℕ) → a ≤ b → nat_le a b ≡ true
is_within a b h = grind (arith, nat_tests)

-- a token is read with its kind and its length
pub token_only : (p : Place) (w rest : List ℕ) → IsToken w rest → piece p (w ++ rest) ≡ Ok (record { kind = Some (kind_of w); length = length w })
token_only p [] rest t = absurd (some_spelled t.longest.spelled)
token_only p (c ∷ w) rest t = by (begins_name c) refl (is_ascii_digit c) refl (is_quote c) refl
  where
    literally : is_quote c ≡ true → (b cs : List ℕ) → w ≡ b ++ c ∷ [] → Spells c b cs → (c ≡ 39 → length cs ≡ 1) → piece p (c ∷ (w ++ rest)) ≡ Ok (record { kind = Some (kind_of (c ∷ w)); length = length (c ∷ w) })
    literally h b cs e s one = cases (quote_cases c h)
      where
        size : length (c ∷ w) ≡ length b + 2
        size = ap (λ x. length (c ∷ x)) e ∙ closed_size c b

        front : piece p (c ∷ (w ++ rest)) ≡ closed_literal p c (record { stop = stop.Quote; length = length b; count = length cs })
        front = ap (λ x. piece p (c ∷ x)) (ap (λ x. x ++ rest) e ∙ append_assoc b (c ∷ []) rest) ∙ closed_piece p c rest h s

        cases : (c ≡ 34) ⊎ (c ≡ 39) → piece p (c ∷ (w ++ rest)) ≡ Ok (record { kind = Some (kind_of (c ∷ w)); length = length (c ∷ w) })
        cases (inl g) =
            let within : length cs ≤ longest_text = t.within.text b cs (ap (λ x. c ∷ x) e ∙ ap (λ x. x ∷ (b ++ x ∷ [])) g) (subst (λ x. Spells x b cs) g s) in
            front
            ∙ ap (λ x. closed_literal p x (record { stop = stop.Quote; length = length b; count = length cs })) g
            ∙ ap (λ x. cond x (Err (TextTooLong p)) (Ok (record { kind = Some kind.Text; length = length b + 2 }))) (not_more (length cs) longest_text within)
            ∙ ap (λ n. Ok (record { kind = Some kind.Text; length = n })) (sym size)
            ∙ ap (λ x. Ok (record { kind = Some (kind_of (x ∷ w)); length = length (c ∷ w) })) (sym g)
        cases (inr g) =
            front
            ∙ ap (λ x. closed_literal p x (record { stop = stop.Quote; length = length b; count = length cs })) g
            ∙ ap (λ x. cond (eqb x 1) (Ok (record { kind = Some kind.Character; length = length b + 2 })) (Err (OpenString p))) (one g)
            ∙ ap (λ n. Ok (record { kind = Some kind.Character; length = n })) (sym size)
            ∙ ap (λ x. Ok (record { kind = Some (kind_of (x ∷ w)); length = length (c ∷ w) })) (sym g)

    by : (n : Bool) → begins_name c ≡ n → (d : Bool) → is_ascii_digit c ≡ d → (q : Bool) → is_quote c ≡ q
        → piece p (c ∷ (w ++ rest)) ≡ Ok (record { kind = Some (kind_of (c ∷ w)); length = length (c ∷ w) })
    by true n d e q f =
        named_piece p c w rest t.longest t.no_comment n
        ∙ ap (λ x. cond x (Err (NameTooLong p)) (Ok (record { kind = Some (name_kind (c ∷ w)); length = length (c ∷ w) })))
        (not_more (length (c ∷ w)) longest_name (t.within.name (spelled_name c w n t.longest.spelled)))
        ∙ ap (λ k. Ok (record { kind = Some k; length = length (c ∷ w) })) (sym (kind_name c w n))
    by false n true e q f =
        numbered_piece p c w rest t.longest t.no_comment n e
        ∙ ap (λ x. cond x (Ok (record { kind = Some kind.Number; length = length (c ∷ w) })) (Err (NumberTooLarge p)))
        (is_within (number_of (c ∷ w)) greatest_number (t.within.number (spelled_number c w e t.longest.spelled)))
        ∙ ap (λ k. Ok (record { kind = Some k; length = length (c ∷ w) })) (sym (kind_number c w e))
    by false n false e true f = let h = spelled_literal c w f t.longest.spelled in literally f h.0 h.1 h.2 h.3 h.4
    by false n false e false f =
        let nb = spelled_no_blank c w t.longest.spelled in
        piece_symbol p c (w ++ rest) nb.0 (nb.1 (w ++ rest)) t.no_comment n e f
        ∙ ap (λ m. cond (eqb m 0) (Err (BadCharacter p)) (Ok (record { kind = Some (symbol_kind (take m (c ∷ (w ++ rest)))); length = m }))) (symbol_run p c w rest t.longest n e f)
        ∙ ap (λ x. cond x (Err (BadCharacter p)) (Ok (record { kind = Some (symbol_kind (take (length (c ∷ w)) (c ∷ (w ++ rest)))); length = length (c ∷ w) })))
        (let z : eqb (suc (length w)) 0 ≡ false = grind (arith, nat_tests) in z)
        ∙ ap (λ x. Ok (record { kind = Some (symbol_kind x); length = length (c ∷ w) })) (take_at (c ∷ w) rest (length (c ∷ w)) refl)
        ∙ ap (λ k. Ok (record { kind = Some k; length = length (c ∷ w) })) (sym (kind_symbol c w n e f))

no_comment_at : (p : ℕ → Bool) (c : ℕ) (x : List ℕ) → p c ≡ true → p 45 ≡ false → begins_comment (c ∷ x) ≡ false
no_comment_at p c x h k = ap (λ b. b && begins_with 45 x) (differs p c 45 h k)

none_found : (c : ℕ) (rest : List ℕ) → ((x y : List ℕ) → x ++ y ≡ c ∷ rest → IsSpelling x → ⊥) → symbol_len c rest ≡ 0
none_found c rest none = by (symbol_len c rest) refl
  where
    by : (n : ℕ) → symbol_len c rest ≡ n → n ≡ 0
    by zero e = refl
    by (suc n) e = let h = symbol_found c rest n e in absurd (none h.0 h.1 (sym h.2) (says.symbol h.4))

is_false : (b : Bool) → (b ≡ true → ⊥) → b ≡ false
is_false true h = absurd (h refl)
is_false false h = refl

-- a fault is read
pub offends_only : (p : Place) (text : List ℕ) (fault : LexFault) → Offends p text fault → piece p text ≡ Err fault
offends_only p text fault (says.bad_character c rest t q w m none) =
    let b : begins_name c ≡ false = is_false (begins_name c) (λ h. none (c ∷ []) rest refl (says.name (both (begins_name c) true h refl))) in
    let d : is_ascii_digit c ≡ false = is_false (is_ascii_digit c) (λ h. none (c ∷ []) rest refl (says.number (both (is_ascii_digit c) true h refl))) in
    piece_symbol p c rest t w m b d q
    ∙ ap (λ n. cond (eqb n 0) (Err (BadCharacter p)) (Ok (record { kind = Some (symbol_kind (take n (c ∷ rest))); length = n }))) (none_found c rest none)
offends_only p text fault (says.tab rest) = piece_tab p 9 rest refl
offends_only p text fault (says.tab_within q w cs rest h s) =
    quoted_piece p q (w ++ 9 ∷ rest) h ∙ literal_is p q (9 ∷ rest) stop.Tab h s refl ∙ ap (λ z. Err (Tab z)) (sym (spells_right p q h s))
offends_only p text fault (says.bad_escape q w cs rest h s none) =
    quoted_piece p q (w ++ 92 ∷ rest) h ∙ literal_is p q (92 ∷ rest) stop.Backslash h s (backslash_stops q rest h (by (escape_len rest) refl)) ∙ ap (λ z. Err (BadEscape z)) (sym (spells_right p q h s))
  where
    by : (n : ℕ) → escape_len rest ≡ n → n ≡ 0
    by zero e = refl
    by (suc n) e = let k = escape_found rest n e in absurd (none k.0 k.1 k.2 (sym k.3) k.4)
offends_only p text fault (says.open_literal q w cs rest h s e) = quoted_piece p q (w ++ rest) h ∙ literal_is p q rest stop.LineEnd h s (line_stops q rest e)
offends_only p text fault (says.not_one_character w cs rest s h) =
    closed_piece p 39 rest refl s
    ∙ ap (λ x. cond x (Ok (record { kind = Some kind.Character; length = length w + 2 })) (Err (OpenString p))) (let z : eqb (length cs) 1 ≡ false = grind (arith, nat_tests) in z)
offends_only p text fault (says.long_text w cs rest s h) =
    closed_piece p 34 rest refl s
    ∙ ap (λ x. cond x (Err (TextTooLong p)) (Ok (record { kind = Some kind.Text; length = length w + 2 }))) (let z : nat_lt longest_text (length cs) ≡ true = grind (arith, nat_tests) in z)
offends_only p text fault (says.large_number [] rest a long h) = cc
offends_only p text fault (says.large_number (c ∷ w) rest a long h) =
    let d : is_ascii_digit c ≡ true = number_first c w a in
    numbered_piece p c w rest long (no_comment_at is_ascii_digit c (w ++ rest) d refl) (digit_no_name c d) d
    ∙ ap (λ x. cond x (Ok (record { kind = Some kind.Number; length = length (c ∷ w) })) (Err (NumberTooLarge p))) (let z : nat_le (number_of (c ∷ w)) greatest_number ≡ false = grind (arith, nat_tests) in z)
offends_only p text fault (says.long_name [] rest a long h) = cc
offends_only p text fault (says.long_name (c ∷ w) rest a long h) =
    let b : begins_name c ≡ true = name_first c w a in
    named_piece p c w rest long (no_comment_at begins_name c (w ++ rest) b (no_name 45 (lit< tt) refl)) b
    ∙ ap (λ x. cond x (Err (NameTooLong p)) (Ok (record { kind = Some (name_kind (c ∷ w)); length = length (c ∷ w) }))) (let z : nat_lt longest_name (length (c ∷ w)) ≡ true = grind (arith, nat_tests) in z)
