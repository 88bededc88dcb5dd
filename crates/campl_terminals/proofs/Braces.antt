-- The terminals of a layout are balanced in braces.
use Rattle.std.proofs.Common.{◌≡◌, ℕ, zero, suc, Bool, true, false, cond, List, [], ◌∷◌, Option, Some, refl, sym, ap, ◌∙◌, subst}
use Rattle.campl_tree.specs.declared.place.Place.{Place}
use Rattle.campl_gram.specs.Brackets.{then_from, open_after, one_more, Balanced}
use Rattle.campl_lex.specs.declared.token.Token.{Token}
use Rattle.campl_lex.specs.declared.token.TokenKind.{TokenKind}
use Rattle.campl_lex.specs.declared.token.TokenKind.TheVariants as k
use Rattle.campl_lex.specs.Layout.{lexeme_of, level, is_opening, is_closing, is_enclosed, IsWhole}
use Rattle.campl_grammar.specs.Terminal.{Terminal, terminals}
use Rattle.campl_terminals.specs.Terminals.{terminal_of, terminals_of}

-- a terminal of a kind
abbrev terminal : TokenKind → List ℕ → Place → Terminal
terminal kind w p = record { kind = kind; text = w; place = p }

abbrev more : ℕ → Terminal → Option ℕ
more = one_more terminals k.LeftBrace k.RightBrace

-- a terminal leaves as many braces open as its token
step : (kind : TokenKind) (w : List ℕ) (p : Place) (n : ℕ) → more (suc n) (terminal kind w p) ≡ Some (level kind n)
unfolding terminals
step kind w p n = by (is_opening kind) (is_closing kind)
  where
    by : (a b : Bool) → cond a (Some (suc (suc n))) (cond b (Some n) (Some (suc n))) ≡ Some (cond a (suc (suc n)) (cond b n (suc n)))
    by true b = refl
    by false true = refl
    by false false = refl

first : (kind : TokenKind) (w : List ℕ) (p : Place) → is_opening kind ≡ true → more 0 (terminal kind w p) ≡ Some 1
unfolding terminals
first kind w p h = rw h refl

abbrev after : ℕ → List Terminal → Option ℕ
after = open_after terminals k.LeftBrace k.RightBrace

enclosed : (text : List ℕ) (n : ℕ) (ts : List Token) → is_enclosed n ts ≡ true → after n (terminals_of text ts) ≡ Some 0
enclosed text zero [] h = refl
enclosed text zero (t ∷ ts) h = cc
enclosed text (suc n) [] h = cc
enclosed text (suc n) (t ∷ ts) h =
    ap (λ o. then_from o (λ m. after m (terminals_of text ts))) (step t.kind (lexeme_of text t) t.place n) ∙ enclosed text (level t.kind n) ts h

-- The terminals of tokens with whole braces are some, and are balanced in braces.
pub whole_terminals : (text : List ℕ) (tokens : List Token) → IsWhole tokens
    → (w : Terminal) × (ws : List Terminal) × (terminals_of text tokens ≡ w ∷ ws) × Balanced terminals k.LeftBrace k.RightBrace (w ∷ ws)
whole_terminals text [] h = absurd h
whole_terminals text (t ∷ ts) (opened, closed) = (
  terminal_of text t,
  terminals_of text ts,
  refl,
  ap (λ o. then_from o (λ m. after m (terminals_of text ts))) (first t.kind (lexeme_of text t) t.place opened) ∙ enclosed text 1 ts closed,
)

pub balanced_terminals : (text : List ℕ) (tokens : List Token) → IsWhole tokens → Balanced terminals k.LeftBrace k.RightBrace (terminals_of text tokens)
balanced_terminals text tokens h = let found = whole_terminals text tokens h in subst (Balanced terminals k.LeftBrace k.RightBrace) (sym found.2) found.3
