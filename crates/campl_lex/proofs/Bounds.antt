-- A piece has some characters, and no more than the text.
use Rattle.std.proofs.Common.{◌≡◌, ℕ, zero, suc, ◌+◌, ◌<◌, ◌≤◌, Bool, true, false, cond, eqb, nat_lt, nat_le, not, ◌==◌, List, [], ◌∷◌, length, take}
use Rattle.std.proofs.Common.{Result, Ok, Err, IfOk, Some, refl, sym, subst, ap, ◌∙◌, arith, length-take, length-append}
use Rattle.std.specs.List.{prefix_len}
use Rattle.std.specs.Char.{is_ascii_digit}
use Rattle.std.proofs.lemmas.Bool.Decides.{nat_tests}
use Rattle.std.proofs.lemmas.List.Sums.{prefix_len-le-length}
use Rattle.campl_tree.specs.declared.place.Place.{Place}
use Rattle.campl_lex.specs.Limits.{longest_name, longest_text, greatest_number}
use Rattle.campl_lex.specs.declared.token.TokenKind.TheVariants.{Number, Text, Character}
use Rattle.campl_lex.specs.declared.literal.Stop.{Stop}
use Rattle.campl_lex.specs.declared.literal.Stop.TheVariants as stop
use Rattle.campl_lex.specs.declared.literal.Body.{Body}
use Rattle.campl_lex.specs.declared.piece.Piece.{Piece}
use Rattle.campl_lex.specs.declared.fault.LexFault.{LexFault}
use Rattle.campl_lex.specs.declared.fault.LexFault.TheVariants.{BadCharacter, OpenString, NumberTooLarge, NameTooLong, Tab, TextTooLong}
use Rattle.campl_lex.specs.Spelling.{begins_name, goes_on, number_of, name_kind, symbol_kind}
use Rattle.campl_lex.specs.Tokens.{is_white, begins_comment, is_quote}
use Rattle.campl_lex.specs.Reading.{piece, blank, name_piece, number_piece, literal, literal_by, closed_literal, symbol_piece, symbol_len, scan}
use Rattle.campl_lex.proofs.Scanning.{scan_closed}
use Rattle.campl_lex.proofs.Symbols.{symbol_found}

-- the bounds of what is answered
abbrev pub Bounded : ℕ → Result Piece LexFault → Type 0
Bounded n r = IfOk r (λ q. (0 < q.length) × (q.length ≤ n))

blank_bounded : (n m : ℕ) → 0 < m → m ≤ n → Bounded n (Ok (blank m))
blank_bounded n m h k = (h, k)

name_bounded : (p : Place) (c : ℕ) (w : List ℕ) (n : ℕ) → length (c ∷ w) ≤ n → Bounded n (name_piece p (c ∷ w))
name_bounded p c w n h = by (nat_lt longest_name (length (c ∷ w)))
  where
    by : (b : Bool) → Bounded n (cond b (Err (NameTooLong p)) (Ok (record { kind = Some (name_kind (c ∷ w)); length = length (c ∷ w) })))
    by true = tt
    by false = (omega arith, h)

number_bounded : (p : Place) (c : ℕ) (w : List ℕ) (n : ℕ) → length (c ∷ w) ≤ n → Bounded n (number_piece p (c ∷ w))
number_bounded p c w n h = by (nat_le (number_of (c ∷ w)) greatest_number)
  where
    by : (b : Bool) → Bounded n (cond b (Ok (record { kind = Some Number; length = length (c ∷ w) })) (Err (NumberTooLarge p)))
    by true = (omega arith, h)
    by false = tt

closed_bounded : (p : Place) (q n : ℕ) (body : Body) → body.length + 2 ≤ n → Bounded n (closed_literal p q body)
closed_bounded p q n body h = by (eqb q 39) (eqb body.count 1) (nat_lt longest_text body.count)
  where
    by : (a b d : Bool)
        → Bounded n (cond a (cond b (Ok (record { kind = Some Character; length = body.length + 2 })) (Err (OpenString p))) (cond d (Err (TextTooLong p)) (Ok (record { kind = Some Text; length = body.length + 2 }))))
    by true true d = (omega arith, h)
    by true false d = tt
    by false b true = tt
    by false b false = (omega arith, h)

literal_bounded : (p : Place) (q : ℕ) (cs : List ℕ) → Bounded (suc (length cs)) (literal p q cs)
literal_bounded p q cs = by (scan q 0 cs).stop (scan_closed q 0 cs)
  where
    by : (why : Stop) → (why ≡ stop.Quote → (scan q 0 cs).length < length cs) → Bounded (suc (length cs)) (literal_by why p q (scan q 0 cs))
    by stop.Tab h = tt
    by stop.Backslash h = tt
    by stop.LineEnd h = tt
    by stop.Quote h = closed_bounded p q (suc (length cs)) (scan q 0 cs) (let k : (scan q 0 cs).length < length cs = h refl in omega arith)

pub symbol_within : (c : ℕ) (cs : List ℕ) → symbol_len c cs ≤ suc (length cs)
symbol_within c cs = by (symbol_len c cs) refl
  where
    by : (n : ℕ) → symbol_len c cs ≡ n → n ≤ suc (length cs)
    by zero e = omega arith
    by (suc n) e =
        let f = symbol_found c cs n e in
        let l : suc (length cs) ≡ length f.0 + length f.1 = ap length f.2 ∙ length-append f.0 f.1 in
        omega (arith, f.3)

symbol_bounded : (p : Place) (c : ℕ) (cs : List ℕ) → Bounded (suc (length cs)) (symbol_piece p (c ∷ cs))
symbol_bounded p c cs = by (symbol_len c cs) (symbol_within c cs) (eqb (symbol_len c cs) 0) refl
  where
    by : (n : ℕ) → n ≤ suc (length cs) → (b : Bool) → eqb n 0 ≡ b → Bounded (suc (length cs)) (cond b (Err (BadCharacter p)) (Ok (record { kind = Some (symbol_kind (take n (c ∷ cs))); length = n })))
    by n h true e = tt
    by n h false e = (let k : 0 < n = grind (arith, nat_tests) in k, h)

run_within : (p : ℕ → Bool) (c : ℕ) (cs : List ℕ) → length (c ∷ take (prefix_len p cs) cs) ≤ suc (length cs)
run_within p c cs = omega (arith, length-take (prefix_len p cs) cs)

pub piece_bounded : (p : Place) (text : List ℕ) → Bounded (length text) (piece p text)
unfolding piece
piece_bounded p [] = tt
piece_bounded p (c ∷ cs) = by (eqb c 9) (is_white c cs) (begins_comment (c ∷ cs)) (begins_name c) (is_ascii_digit c) (is_quote c)
  where
    by : (t w m n d q : Bool)
        → Bounded (suc (length cs))
        (cond t (Err (Tab p)) (cond w (Ok (blank 1)) (cond m (Ok (blank (prefix_len (λ x. not (x == 10)) cs + 1)))
        (cond n (name_piece p (c ∷ take (prefix_len goes_on cs) cs)) (cond d (number_piece p (c ∷ take (prefix_len is_ascii_digit cs) cs))
        (cond q (literal p c cs) (symbol_piece p (c ∷ cs))))))))
    by true w m n d q = tt
    by false true m n d q = (omega arith, omega arith)
    by false false true n d q = (omega arith, omega (arith, prefix_len-le-length (λ x. not (x == 10)) cs))
    by false false false true d q = name_bounded p c (take (prefix_len goes_on cs) cs) (suc (length cs)) (run_within goes_on c cs)
    by false false false false true q = number_bounded p c (take (prefix_len is_ascii_digit cs) cs) (suc (length cs)) (run_within is_ascii_digit c cs)
    by false false false false false true = literal_bounded p c cs
    by false false false false false false = symbol_bounded p c cs

moved : (n : ℕ) (r : Result Piece LexFault) → Bounded n r → IfOk r (λ q. 0 < q.length)
moved n (Ok q) h = h.0
moved n (Err fault) h = tt

kept : (n : ℕ) (r : Result Piece LexFault) → Bounded n r → IfOk r (λ q. q.length ≤ n)
kept n (Ok q) h = h.1
kept n (Err fault) h = tt

pub piece_moves : (p : Place) (text : List ℕ) (r : Result Piece LexFault) → r ≡ piece p text → IfOk r (λ q. 0 < q.length)
piece_moves p text r e = moved (length text) r (subst (λ r. Bounded (length text) r) (sym e) (piece_bounded p text))

pub piece_within : (p : Place) (text : List ℕ) (r : Result Piece LexFault) → r ≡ piece p text → IfOk r (λ q. q.length ≤ length text)
piece_within p text r e = kept (length text) r (subst (λ r. Bounded (length text) r) (sym e) (piece_bounded p text))
