-- Lines with `;` between them, and the calls that read one.
use Rattle.std.specs.Prelude.{◌≡◌, ℕ, suc, ◌≤◌, List, [], ◌∷◌, length, Result, Ok, if◌then◌else◌}
use Rattle.std.specs.Borrow.{MutBor}
use Rattle.std.specs.Fn.{Shared}
use Rattle.campl_gram.specs.Reading.{Outcome, and_then, next_in, expect}
use Rattle.campl_lex.specs.declared.token.TokenKind.{TokenKind}
use Rattle.campl_lex.specs.declared.token.TokenKind.TheVariants as k
use Rattle.campl_grammar.specs.Terminal.{Terminal, terminals}
use Rattle.campl_grammar.specs.Rules.{limit}
use Rattle.campl_parse_terms.specs.declared.error.ParseError.{ParseError}
use Rattle.campl_parse_terms.specs.Reads.{Reads}

-- what stands behind a line: ";" and more lines, or nothing
abbrev pub behind_line : {A : Type 0} → (List Terminal → Outcome Terminal (List A)) → ℕ → List Terminal → Outcome Terminal (List A)
behind_line lines depth ts = if next_in terminals (k.Semicolon ∷ []) ts then and_then (expect terminals limit k.Semicolon depth ts) (λ _ us. and_then (lines us) (λ xs vs. (Ok xs, vs))) else (Ok [], ts)

-- `lines` reads what `line` reads, and again behind each ";"
pub record AreLines {A : Type 0} (depth : ℕ) (line : List Terminal → Outcome Terminal A) (lines : List Terminal → Outcome Terminal (List A)) : Type 0 where
  pub step : (ts : List Terminal) → lines ts ≡ and_then (line ts) (λ x us. and_then (behind_line lines depth us) (λ xs vs. (Ok (x ∷ xs), vs)))

-- "{" lines "}"
abbrev pub in_block : {A : Type 0} → (List Terminal → Outcome Terminal (List A)) → ℕ → List Terminal → Outcome Terminal (List A)
in_block lines depth ts =
    and_then (expect terminals limit k.LeftBrace depth ts) (λ _ us.
    and_then (and_then (lines us) (λ xs vs. and_then (expect terminals limit k.RightBrace (suc depth) vs) (λ _ ws. (Ok xs, ws)))) (λ xs vs. (Ok xs, vs)))

-- a word of the kind, and what stands behind it at the same nesting
abbrev pub behind_word : {A : Type 0} → TokenKind → (ℕ → List Terminal → Outcome Terminal A) → ℕ → List Terminal → Outcome Terminal A
behind_word kind next depth ts = and_then (expect terminals limit kind depth ts) (λ _ us. and_then (next depth us) (λ x vs. (Ok x, vs)))

-- a call of f at the words ts may answer r and leave us
pub record Gives {F A : Type 0} (g : Shared F (MutBor (List Terminal) × Unit {0}) (Result A ParseError × (MutBor (List Terminal) × Unit {0}))) (f : F) (ts : List Terminal) (r : Result A ParseError) (us : List Terminal) : Type 0 where
  pub shown : MutBor (List Terminal)
  pub shows : shown.now ≡ ts
  pub left : MutBor (List Terminal)
  pub met : g.post f (shown, tt) (r, (left, tt))
  pub leaves : left.now ≡ us

-- no call of f that reads something leaves more words than there were
abbrev pub Shortens : {F A : Type 0} → Shared F (MutBor (List Terminal) × Unit {0}) (Result A ParseError × (MutBor (List Terminal) × Unit {0})) → F → Type 0
Shortens {F} {A} g f = (ts us : List Terminal) (x : A) → Gives g f ts (Ok x) us → length us ≤ length ts

-- each call of f reads as the line
abbrev pub ReadsLine : {F A : Type 0} → Shared F (MutBor (List Terminal) × Unit {0}) (Result A ParseError × (MutBor (List Terminal) × Unit {0})) → F → (List Terminal → Outcome Terminal A) → Type 0
ReadsLine {F} {A} g f line = (ts us : List Terminal) (r : Result A ParseError) → Gives g f ts r us → Reads (line ts) r us
