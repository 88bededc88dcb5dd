-- The terminals of a source's tokens.
use Rattle.std.specs.Prelude.{ℕ, ◌≤◌, List, map, IsCharBoundary}
use Rattle.campl_lex.specs.declared.token.Token.{Token}
use Rattle.campl_lex.specs.Layout.{lexeme_of}
use Rattle.campl_grammar.specs.Terminal.{Terminal}

-- the terminal of a token
abbrev pub terminal_of : List ℕ → Token → Terminal
terminal_of text t = record { kind = t.kind; text = lexeme_of text t; place = t.place }

-- those of tokens
abbrev pub terminals_of : List ℕ → List Token → List Terminal
terminals_of text tokens = map (terminal_of text) tokens

-- a token's lexeme is cut out of its source between characters
pub record IsCut (text : List ℕ) (t : Token) : Type 0 where
  pub ordered : t.start ≤ t.stop
  pub starts : IsCharBoundary text t.start
  pub stops : IsCharBoundary text t.stop
