-- The grammar on a few lists of terminals.
use Rattle.std.proofs.Common.{◌≡◌, refl, ℕ, List, [], ◌∷◌, Ok, Err, codes}
use Rattle.std.specs.Prelude.{pos}
use Rattle.campl_tree.specs.declared.expr.Arithmetic.TheVariants as calculating
use Rattle.campl_tree.specs.declared.expr.Expr.TheVariants as e
use Rattle.campl_tree.specs.declared.place.Place.{Place}
use Rattle.campl_gram.specs.declared.fault.Fault.TheVariants.{Unexpected, TooDeep}
use Rattle.campl_gram.specs.Reading.{Outcome, read_below}
use Rattle.campl_gram.specs.Reading as reading
use Rattle.campl_gram.specs.Verdicts.{finish}
use Rattle.campl_lex.specs.declared.token.TokenKind.{TokenKind}
use Rattle.campl_lex.specs.declared.token.TokenKind.TheVariants as k
use Rattle.campl_lex.specs.Kinds.{same}
use Rattle.campl_grammar.specs.Terminal.{Terminal, terminals, digits}
use Rattle.campl_grammar.specs.Names.{Name, expr}
use Rattle.campl_grammar.specs.Tables.{tables}
use Rattle.campl_grammar.specs.Rules.{Value, rule}

-- a terminal of a kind and a text in a column of the first line
abbrev word : TokenKind → List ℕ → ℕ → Terminal
word kind text column = record { kind = kind; text = text; place = record { line = 1; column = column } }

-- one whose text says nothing
abbrev mark : TokenKind → ℕ → Terminal
mark kind column = word kind [] column

-- what is answered for an expression under a limit
abbrev answer : ℕ → List Terminal → Outcome Terminal (Value expr)
answer limit words = finish (reading.read terminals Name Value tables limit rule expr 0 words)

-- (1 + 2) * True
abbrev product : List Terminal
product = mark k.LeftParen 1 ∷ word k.Number (codes "1") 2 ∷ mark k.Plus 4 ∷ word k.Number (codes "2") 6 ∷ mark k.RightParen 7 ∷ mark k.Star 9 ∷ mark k.True 11 ∷ []

abbrev at_column : ℕ → Place
at_column c = record { line = 1; column = c }

-- its tree: the product stands at the parenthesis, and the sum within it
product_tree : answer 2 product
    ≡ (Ok (e.Calculate (at_column 1) (e.Calculate (at_column 2) (e.Number (at_column 2) (pos 1)) calculating.Add (e.Number (at_column 6) (pos 2))) calculating.Multiply (e.True (at_column 11))), [])
unfolding reading.read same terminals digits
product_tree = refl

-- the right operand of the sum is nested two deep
product_deep : answer 1 product ≡ (Err TooDeep, word k.Number (codes "2") 6 ∷ mark k.RightParen 7 ∷ mark k.Star 9 ∷ mark k.True 11 ∷ [])
unfolding reading.read same terminals digits
product_deep = refl

-- 1 < 2 < is refused at its second comparison
compared_twice : answer 9 (word k.Number (codes "1") 1 ∷ mark k.Less 3 ∷ word k.Number (codes "2") 5 ∷ mark k.Less 7 ∷ []) ≡ (Err Unexpected, mark k.Less 7 ∷ [])
unfolding reading.read same terminals digits
compared_twice = refl
