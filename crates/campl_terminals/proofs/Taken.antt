-- A backslash and an escape stand for its character.
use Rattle.std.proofs.Common.{◌≡◌, ℕ, zero, suc, ◌+◌, ◌<◌, List, [], ◌∷◌, length, drop, Some, refl, sym, ap, ◌∙◌, arith, add-zero, length-drop}
use Rattle.campl_lex.specs.Meaning.{escape, stands_for, unescaped}

-- characters that are skipped
pub skipped : (n : ℕ) (cs : List ℕ) → unescaped n cs ≡ unescaped 0 (drop n cs)
skipped zero [] = refl
skipped (suc n) [] = refl
skipped zero (c ∷ cs) = refl
skipped (suc n) (c ∷ cs) = skipped n cs

-- a backslash and an escape stand for its character
pub unescaped_escape : (cs tail : List ℕ) (c n : ℕ) (rest : List ℕ) → cs ≡ 92 ∷ tail → escape tail ≡ Some (c, n + 0) → rest ≡ drop n tail
    → (unescaped 0 cs ≡ c ∷ unescaped 0 rest) × (length rest < length cs)
unescaped_escape cs tail c n rest e is left = (
  ap (unescaped 0) e
      ∙ ap (λ o. stands_for 92 o (λ k. unescaped k tail)) is
      ∙ ap (λ k. c ∷ unescaped k tail) (add-zero n)
      ∙ ap (λ t. c ∷ t) (skipped n tail ∙ ap (unescaped 0) (sym left)),
  (let a : length rest ≡ length (drop n tail) = ap length left in
      let b : length cs ≡ suc (length tail) = ap length e in
      omega (arith, length-drop n tail)),
)
