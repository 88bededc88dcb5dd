-- What an escape is, told from what stands behind its first characters.
use Rattle.std.proofs.Common.{◌≡◌, ℕ, suc, ◌+◌, List, ◌∷◌, drop, Option, Some, None, sym, ap, ◌∙◌, arith}
use Rattle.std.specs.List.{prefix_len}
use Rattle.campl_lex.specs.Literal.{is_hex_digit}
use Rattle.campl_lex.specs.Meaning.{braced, unicode, escape, Finds}

module _ {F : Type 0} (letters : F → List ℕ) where
  -- an escape that stands one character further on
  moved : (front c : ℕ) (here there : Option (ℕ × ℕ)) (cs tail : List ℕ) (r : Option (ℕ × ℕ × F)) → here ≡ there → cs ≡ c ∷ tail → Finds letters (suc front) there tail r
      → Finds letters front here cs r
  moved front c here there cs tail None same e f = same ∙ f
  moved front c here there cs tail (Some p) same e (n, size, is, rest) =
      let k : n + suc front ≡ suc n + front = omega arith in (
        suc n,
        size ∙ k,
        same ∙ is ∙ ap (λ m. Some (p.0, m)) k,
        rest ∙ ap (drop (suc n)) (sym e),
      )

  pub unicode_of : (cs tail : List ℕ) (r : Option (ℕ × ℕ × F)) → cs ≡ 123 ∷ tail → Finds letters 2 (braced (prefix_len is_hex_digit tail) tail) tail r
      → Finds letters 1 (unicode cs) cs r
  unicode_of cs tail r e f = moved 1 123 (unicode cs) (braced (prefix_len is_hex_digit tail) tail) cs tail r (ap unicode e) e f

  pub escape_of : (cs tail : List ℕ) (r : Option (ℕ × ℕ × F)) → cs ≡ 117 ∷ tail → Finds letters 1 (unicode tail) tail r → Finds letters 0 (escape cs) cs r
  escape_of cs tail r e f = moved 0 117 (escape cs) (unicode tail) cs tail r (ap escape e) e f
