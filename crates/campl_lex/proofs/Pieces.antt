-- What the first character tells of a piece.
use Rattle.std.proofs.Common.{◌≡◌, ℕ, ◌+◌, ◌<◌, true, false, not, ◌==◌, List, [], ◌∷◌, length, take, drop, get_or, Ok, Err, refl, sym, ap, ◌∙◌, arith}
use Rattle.std.proofs.Common.{add-one}
use Rattle.std.specs.List.{prefix_len}
use Rattle.std.specs.Char.{is_ascii_digit}
use Rattle.campl_tree.specs.declared.place.Place.{Place}
use Rattle.campl_lex.specs.declared.fault.LexFault.TheVariants.{Tab}
use Rattle.campl_lex.specs.Spelling.{begins_name, goes_on}
use Rattle.campl_lex.specs.Tokens.{is_white, begins_comment, is_quote}
use Rattle.campl_lex.specs.Reading.{piece, blank, name_piece, number_piece, literal, symbol_piece}

pub word_front : (x : ℕ) (n : ℕ) (text : List ℕ) → 0 < length text → x ≡ get_or text 0 x → (text ≡ x ∷ drop 1 text) × (take (n + 1) text ≡ x ∷ take n (drop 1 text))
word_front x n [] h e = absurd (omega arith)
word_front x n (c ∷ cs) h e = (ap (λ y. y ∷ cs) (sym e), rw add-one (ap (λ y. y ∷ take n cs) (sym e)))

module _ (p : Place) (c : ℕ) (cs : List ℕ) where
  pub piece_tab : (c == 9) ≡ true → piece p (c ∷ cs) ≡ Err (Tab p)
  unfolding piece
  piece_tab t = rw t refl

  pub piece_white : (c == 9) ≡ false → is_white c cs ≡ true → piece p (c ∷ cs) ≡ Ok (blank 1)
  unfolding piece
  piece_white t w = rw (t, w) refl

  pub piece_comment : (c == 9) ≡ false → is_white c cs ≡ false → begins_comment (c ∷ cs) ≡ true → piece p (c ∷ cs) ≡ Ok (blank (prefix_len (λ x. not (x == 10)) cs + 1))
  unfolding piece
  piece_comment t w m = rw (t, w, m) refl

  pub piece_name : (c == 9) ≡ false → is_white c cs ≡ false → begins_comment (c ∷ cs) ≡ false → begins_name c ≡ true
      → piece p (c ∷ cs) ≡ name_piece p (c ∷ take (prefix_len goes_on cs) cs)
  unfolding piece
  piece_name t w m n = rw (t, w, m, n) refl

  pub piece_number : (c == 9) ≡ false → is_white c cs ≡ false → begins_comment (c ∷ cs) ≡ false → begins_name c ≡ false → is_ascii_digit c ≡ true
      → piece p (c ∷ cs) ≡ number_piece p (c ∷ take (prefix_len is_ascii_digit cs) cs)
  unfolding piece
  piece_number t w m n d = rw (t, w, m, n, d) refl

  pub piece_literal : (c == 9) ≡ false → is_white c cs ≡ false → begins_comment (c ∷ cs) ≡ false → begins_name c ≡ false → is_ascii_digit c ≡ false → is_quote c ≡ true
      → piece p (c ∷ cs) ≡ literal p c cs
  unfolding piece
  piece_literal t w m n d q = rw (t, w, m, n, d, q) refl

  pub piece_symbol : (c == 9) ≡ false → is_white c cs ≡ false → begins_comment (c ∷ cs) ≡ false → begins_name c ≡ false → is_ascii_digit c ≡ false → is_quote c ≡ false
      → piece p (c ∷ cs) ≡ symbol_piece p (c ∷ cs)
  unfolding piece
  piece_symbol t w m n d q = rw (t, w, m, n, d, q) refl

-- the word at the front, as the code reads it
module _ (p : Place) (text rest : List ℕ) (x n : ℕ) (some : 0 < length text) (is : x ≡ get_or text 0 x) (rests : rest ≡ drop 1 text)
    (t : (x == 9) ≡ false) (w : is_white x rest ≡ false) (m : begins_comment text ≡ false) where
  pub front_name : begins_name x ≡ true → n ≡ prefix_len goes_on rest → name_piece p (take (n + 1) text) ≡ piece p text
  front_name b k = by text some is rests m
    where
      by : (text : List ℕ) → 0 < length text → x ≡ get_or text 0 x → rest ≡ drop 1 text → begins_comment text ≡ false → name_piece p (take (n + 1) text) ≡ piece p text
      by [] some is rests m = absurd (omega arith)
      by (c ∷ cs) some is rests m =
          ap (λ l. name_piece p (take l (c ∷ cs))) (add-one n)
          ∙ ap (λ l. name_piece p (c ∷ take l cs)) (k ∙ ap (prefix_len goes_on) rests)
          ∙ sym (piece_name p c cs (ap (λ y. y == 9) (sym is) ∙ t) (ap (λ y. is_white y cs) (sym is) ∙ ap (is_white x) (sym rests) ∙ w) m (ap begins_name (sym is) ∙ b))

  pub front_number : begins_name x ≡ false → is_ascii_digit x ≡ true → n ≡ prefix_len is_ascii_digit rest → number_piece p (take (n + 1) text) ≡ piece p text
  front_number b d k = by text some is rests m
    where
      by : (text : List ℕ) → 0 < length text → x ≡ get_or text 0 x → rest ≡ drop 1 text → begins_comment text ≡ false → number_piece p (take (n + 1) text) ≡ piece p text
      by [] some is rests m = absurd (omega arith)
      by (c ∷ cs) some is rests m =
          ap (λ l. number_piece p (take l (c ∷ cs))) (add-one n)
          ∙ ap (λ l. number_piece p (c ∷ take l cs)) (k ∙ ap (prefix_len is_ascii_digit) rests)
          ∙ sym (piece_number p c cs (ap (λ y. y == 9) (sym is) ∙ t) (ap (λ y. is_white y cs) (sym is) ∙ ap (is_white x) (sym rests) ∙ w) m
          (ap begins_name (sym is) ∙ b) (ap is_ascii_digit (sym is) ∙ d))
