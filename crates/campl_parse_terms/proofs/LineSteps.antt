-- One line more of those that are read.
use Rattle.std.proofs.Common.{◌≡◌, ℕ, suc, ◌+◌, ◌≤◌, true, false, List, [], ◌∷◌, ◌++◌, length, Result, Ok, Err, refl, sym, ◌∙◌, arith}
use Rattle.campl_gram.specs.Reading.{Outcome, and_then, adds, next_in, expect}
use Rattle.campl_gram.proofs.Fuel.{need}
use Rattle.campl_gram.proofs.Lists.{adds_one}
use Rattle.campl_lex.specs.declared.token.TokenKind.{TokenKind}
use Rattle.campl_lex.specs.declared.token.TokenKind.TheVariants as k
use Rattle.campl_grammar.specs.Terminal.{Terminal, terminals}
use Rattle.campl_grammar.specs.Names.{Name}
use Rattle.campl_grammar.specs.Tables.{tables}
use Rattle.campl_grammar.specs.Rules.{Value, limit, read}
use Rattle.campl_grammar.proofs.Exactness.{leaves}
use Rattle.campl_parse_terms.specs.declared.error.ParseError.{ParseError}
use Rattle.campl_parse_terms.specs.declared.error.ParseError.TheVariants.{OutOfMemory, Refused}
use Rattle.campl_parse_terms.specs.Reads.{Reads, Fails}
use Rattle.campl_parse_terms.specs.Lines.{AreLines, behind_word, in_block}

module _ {A : Type 0} (d : ℕ) (line : List Terminal → Outcome Terminal A) (lines : List Terminal → Outcome Terminal (List A)) (are : AreLines d line lines) (found : List A) (ts us : List Terminal) (old : Outcome Terminal (List A)) (so_far : adds found (lines ts) ≡ old) where
  -- where a line is refused, all are
  pub line_fails : (e : ParseError) → Fails (line ts) e us → Fails old e us
  line_fails OutOfMemory h = tt
  line_fails (Refused f) h = sym so_far ∙ rw (are.step ts, h) refl

  module _ (x : A) (h : line ts ≡ (Ok x, us)) where
    -- without `;` behind it a line is the last
    pub line_ends : next_in terminals (k.Semicolon ∷ []) us ≡ false → old ≡ (Ok (found ++ x ∷ []), us)
    line_ends none = sym so_far ∙ rw (are.step ts, h, none) refl

    -- where the `;` is refused, all are
    pub mark_fails : next_in terminals (k.Semicolon ∷ []) us ≡ true → (e : ParseError) (vs : List Terminal) → Fails (expect terminals limit k.Semicolon d us) e vs → Fails old e vs
    mark_fails some OutOfMemory vs g = tt
    mark_fails some (Refused f) vs g = sym so_far ∙ rw (are.step ts, h, some, g) refl

    -- behind a `;` the lines go on
    pub line_added : next_in terminals (k.Semicolon ∷ []) us ≡ true → (w : Terminal) (vs : List Terminal) → expect terminals limit k.Semicolon d us ≡ (Ok w, vs) → adds (found ++ x ∷ []) (lines vs) ≡ old
    line_added some w vs g = adds_one found x (lines vs) ∙ again (lines vs) ∙ (rw (are.step ts, h, some, g) at so_far)
      where
        again : (o : Outcome Terminal (List A)) → adds found (and_then o (λ xs r. (Ok (x ∷ xs), r))) ≡ adds found (and_then (and_then o (λ xs r. (Ok xs, r))) (λ xs r. (Ok (x ∷ xs), r)))
        again (Ok xs, r) = refl
        again (Err f, r) = refl

module _ {A : Type 0} (d : ℕ) (lines : List Terminal → Outcome Terminal (List A)) (ts us : List Terminal) (w : Terminal) (opened : expect terminals limit k.LeftBrace d ts ≡ (Ok w, us)) where
  -- where the lines in braces are refused, all is
  pub block_fails : (e : ParseError) (vs : List Terminal) → Fails (lines us) e vs → Fails (in_block lines d ts) e vs
  block_fails OutOfMemory vs h = tt
  block_fails (Refused f) vs h = rw (opened, h) refl

  -- where the brace behind them is refused, all is
  pub block_open : (xs : List A) (vs : List Terminal) → lines us ≡ (Ok xs, vs) → (e : ParseError) (left : List Terminal) → Fails (expect terminals limit k.RightBrace (suc d) vs) e left → Fails (in_block lines d ts) e left
  block_open xs vs h OutOfMemory left g = tt
  block_open xs vs h (Refused f) left g = rw (opened, h, g) refl

-- a call that reads a name doesn't leave more words than there were
pub shortens : (m : Name) (d : ℕ) (ts us : List Terminal) (x : Value m) → Reads (read m d ts) (Ok x) us → length us ≤ length ts
shortens m d ts us x h = let a : length us + need (tables.nul m) ≤ length ts = leaves m d ts us x h in omega arith

-- a word in front of something leaves its answer as it is
pub word_passed : {A : Type 0} (kind : TokenKind) (next : ℕ → List Terminal → Outcome Terminal A) (d : ℕ) (ts us : List Terminal) (w : Terminal) → expect terminals limit kind d ts ≡ (Ok w, us)
    → (r : Result A ParseError) (left : List Terminal) → Reads (next d us) r left → Reads (behind_word kind next d ts) r left
word_passed kind next d ts us w e r left h = rw e (same_answer (next d us) r left h)
  where
    same_answer : {A : Type 0} (o : Outcome Terminal A) (r : Result A ParseError) (left : List Terminal) → Reads o r left → Reads (and_then o (λ x vs. (Ok x, vs))) r left
    same_answer (Ok x, us) r left h = h
    same_answer (Err f, us) r left h = h
