-- What the lexer calls the characters that a literal spells is what its terminal's text says.
use Rattle.std.proofs.Common.{◌≡◌, ℕ, ◌+◌, ◌*◌, ◌-◌, ◌≤◌, Bool, true, false, cond, not, ◌||◌, eqb, List, [], ◌∷◌, ◌++◌, length, None}
use Rattle.std.proofs.Common.{chars, min, refl, ap, ◌∙◌, arith}
use Rattle.std.specs.List.{fold}
use Rattle.std.proofs.lemmas.List.{drop_at}
use Rattle.campl_lex.specs.Literal.{Spells, is_plain}
use Rattle.campl_lex.specs.Literal as spells
use Rattle.campl_lex.specs.Spelling as spelling
use Rattle.campl_lex.proofs.Numbers.{grown}
use Rattle.campl_lex.specs.Limits.{greatest_number}
use Rattle.campl_lex.specs.Meaning.{escape, stands_for, unescaped, between}
use Rattle.campl_lex.proofs.Escapes.{escape_reads}
use Rattle.campl_grammar.specs.Terminal.{Terminal, digits, content_of}
use Rattle.campl_terminals.proofs.Inside.{one_inside}
use Rattle.campl_terminals.proofs.Taken.{skipped}

no_backslash : (q c : ℕ) (w : List ℕ) → is_plain q c ≡ true → cond (eqb c 92) (escape w) None ≡ None
no_backslash q c w h = by (eqb c 9) (eqb c 10) (eqb c q) (eqb c 92) h
  where
    by : (t l k b : Bool) → not (((t || l) || k) || b) ≡ true → cond b (escape w) None ≡ None
    by t l k false h = refl
    by true l k true h = cc
    by false true k true h = cc
    by false false true true h = cc
    by false false false true h = cc

-- The characters that a literal spells are those that stand behind its escapes.
pub spelled_is : (q : ℕ) {w cs : List ℕ} → Spells q w cs → unescaped 0 w ≡ cs
spelled_is q spells.nothing = refl
spelled_is q (spells.plain c {w} {cs} k s) =
    ap (λ o. stands_for c o (λ n. unescaped n w)) (no_backslash q c w k) ∙ ap (λ t. c ∷ t) (spelled_is q s)
spelled_is q (spells.escape e c {w} {cs} k s) =
    ap (λ o. stands_for 92 o (λ n. unescaped n (e ++ w))) (escape_reads k w)
    ∙ ap (λ t. c ∷ t) (skipped (length e) (e ++ w) ∙ ap (unescaped 0) (drop_at e w (length e) refl) ∙ spelled_is q s)

-- A terminal that is a literal has the text that the literal spells.
pub literal_text : (q : ℕ) (letters cs : List ℕ) (w : Terminal) → Spells q letters cs → chars w.text ≡ q ∷ (letters ++ q ∷ []) → content_of w ≡ cs
unfolding content_of
literal_text q letters cs w s e = ap (λ t. unescaped 0 (between t)) e ∙ ap (unescaped 0) (one_inside q q letters) ∙ spelled_is q s

-- A number within the limit is the one that the lexer reads.
same_from : (n : ℕ) (w : List ℕ) → fold (λ m d. m * 10 + (d - 48)) n w ≤ greatest_number
    → fold (λ m d. min (m * 10 + (d - 48)) greatest_number) n w ≡ fold (λ m d. m * 10 + (d - 48)) n w
same_from n [] h = refl
same_from n (d ∷ w) h =
    let low : n * 10 + (d - 48) ≤ fold (λ m d. m * 10 + (d - 48)) (n * 10 + (d - 48)) w = grown 10 (λ d. d - 48) (n * 10 + (d - 48)) w (omega arith) in
    let one : min (n * 10 + (d - 48)) greatest_number ≡ n * 10 + (d - 48) = omega arith in
    ap (λ m. fold (λ m d. min (m * 10 + (d - 48)) greatest_number) m w) one ∙ same_from (n * 10 + (d - 48)) w h

pub number_is : (w : List ℕ) → spelling.number_of w ≤ greatest_number → digits w ≡ spelling.number_of w
unfolding digits
number_is w h = same_from 0 w h
