-- What a function that reads ensures.
use Rattle.std.specs.Prelude.{◌≡◌, ℕ, true, false, List, [], ◌∷◌, Option, Some, None, Result, Ok, Err}
use Rattle.std.specs.Borrow.{Bor}
use Rattle.campl_gram.specs.Reading.{Outcome, next_in, expect}
use Rattle.campl_lex.specs.declared.token.TokenKind.{TokenKind}
use Rattle.campl_grammar.specs.Rules.{limit}
use Rattle.campl_grammar.specs.Terminal.{Terminal, terminals}
use Rattle.campl_parse_terms.specs.declared.error.ParseError.{ParseError}
use Rattle.campl_parse_terms.specs.declared.error.ParseError.TheVariants.{OutOfMemory, Refused}

-- it stopped at the fault of the outcome, unless memory ran out
abbrev pub Fails : {A : Type 0} → Outcome Terminal A → ParseError → List Terminal → Type 0
Fails outcome OutOfMemory left = Unit {0}
Fails outcome (Refused fault) left = outcome ≡ (Err fault, left)

-- it answered the outcome, and left its words, unless memory ran out
abbrev pub Reads : {A : Type 0} → Outcome Terminal A → Result A ParseError → List Terminal → Type 0
Reads outcome (Ok x) left = outcome ≡ (Ok x, left)
Reads outcome (Err e) left = Fails outcome e left

-- where the next word is of the kind it was taken as `expect` takes it, and elsewhere nothing was
abbrev pub Takes : TokenKind → ℕ → List Terminal → Result (Option (Bor Terminal)) ParseError → List Terminal → Type 0
Takes kind depth ts (Ok None) left = (next_in terminals (kind ∷ []) ts ≡ false) × (left ≡ ts)
Takes kind depth ts (Ok (Some word)) left = (next_in terminals (kind ∷ []) ts ≡ true) × (expect terminals limit kind depth ts ≡ (Ok word.now, left))
Takes kind depth ts (Err e) left = (next_in terminals (kind ∷ []) ts ≡ true) × Fails (expect terminals limit kind depth ts) e left
