-- The small grammar read on a few texts, and its trees against the number of their tokens.
use Rattle.std.proofs.Common.{◌≡◌, ℕ, ◌+◌, ◌≤◌, List, [], ◌∷◌, length, Ok, Err, refl, arith}
use Rattle.campl_gram.specs.declared.fault.Fault.TheVariants.{Unexpected, TooDeep}
use Rattle.campl_gram.specs.Grammar.{Piece, Nested, IsProgram, tok, seq, alt, nt, ◌▸◌, ◌<$>◌}
use Rattle.campl_gram.specs.Reading.{Outcome, read}
use Rattle.campl_gram.specs.Verdicts.{finish}
use Rattle.campl_gram.specs.Tests.{wrongs, Undecided, Rank, Tall}
use Rattle.campl_gram.specs.Example.{Kind, Number, Plus, Comma, LParen, RParen, LBrace, RBrace, same, Token, terminals, Tree, Leaf, Sum, size, Name, program, sums, more, sum, atom, Value, rule, tables}
use Rattle.campl_gram.proofs.Induction.{Measured, measured-tok, measured-pure, measured-seq, measured-alt, measured-deeper, measured-at, measured-name, by_tokens}

-- a token that is no number
abbrev mark : Kind → ℕ → Token
mark k p = record { kind = k; value = 0; place = p }

-- a number
abbrev number : ℕ → ℕ → Token
number n p = record { kind = Number; value = n; place = p }

-- what is answered for a text under a limit
abbrev answer : ℕ → List Token → Outcome Token (List Tree)
answer limit tokens = finish (read terminals Name Value tables limit rule program 0 tokens)

-- { 1 + (2 + 3), 4 }
abbrev text : List Token
text = mark LBrace 0 ∷ number 1 1 ∷ mark Plus 2 ∷ mark LParen 3 ∷ number 2 4 ∷ mark Plus 5 ∷ number 3 6 ∷ mark RParen 7 ∷ mark Comma 8 ∷ number 4 9 ∷ mark RBrace 10 ∷ []

-- its trees, with the places of the sums
accepted : answer 4 text ≡ (Ok (Sum 1 (Leaf 1) (Sum 4 (Leaf 2) (Leaf 3)) ∷ Leaf 4 ∷ []), [])
unfolding read
accepted = refl

-- {} is too deep at its closing brace where nothing may be nested
empty : answer 0 (mark LBrace 0 ∷ mark RBrace 1 ∷ []) ≡ (Err TooDeep, mark RBrace 1 ∷ [])
unfolding read
empty = refl

-- with a lower limit the number 3 is too deep: within a brace, behind a +, in a parenthesis, behind a +
too_deep : answer 3 text ≡ (Err TooDeep, number 3 6 ∷ mark RParen 7 ∷ mark Comma 8 ∷ number 4 9 ∷ mark RBrace 10 ∷ [])
unfolding read
too_deep = refl

-- { 1 + } is refused at its last token
refused : answer 4 (mark LBrace 0 ∷ number 1 1 ∷ mark Plus 2 ∷ mark RBrace 3 ∷ []) ≡ (Err Unexpected, mark RBrace 3 ∷ [])
unfolding read
refused = refl

-- { 1 , is refused at the end
refused_at_end : answer 4 (mark LBrace 0 ∷ number 1 1 ∷ mark Comma 2 ∷ []) ≡ (Err Unexpected, [])
unfolding read
refused_at_end = refl

-- {} } is refused behind the program
refused_behind : answer 4 (mark LBrace 0 ∷ mark RBrace 1 ∷ mark RBrace 2 ∷ []) ≡ (Err Unexpected, mark RBrace 2 ∷ [])
unfolding read
refused_behind = refl

-- { 1 + + is refused at the second +, which would be too deep as well
unexpected_first : answer 1 (mark LBrace 0 ∷ number 1 1 ∷ mark Plus 2 ∷ mark Plus 3 ∷ []) ≡ (Err Unexpected, mark Plus 3 ∷ [])
unfolding read
unexpected_first = refl

-- { 1 + 2 + + is too deep at the 2, before it is refused
too_deep_first : answer 1 (mark LBrace 0 ∷ number 1 1 ∷ mark Plus 2 ∷ number 2 3 ∷ mark Plus 4 ∷ mark Plus 5 ∷ []) ≡ (Err TooDeep, number 2 3 ∷ mark Plus 4 ∷ mark Plus 5 ∷ [])
unfolding read
too_deep_first = refl

-- ---- the trees and the tokens

-- how many nodes all the trees have
abbrev sizes : List Tree → ℕ
sizes [] = 0
sizes (x ∷ xs) = size x + sizes xs

-- what is shown of each name: no more nodes than tokens
abbrev Small : (m : Name) → Value m → ℕ → Type 0
Small program xs n = sizes xs + 2 ≤ n
Small sums xs n = sizes xs ≤ n
Small more xs n = sizes xs ≤ n
Small sum x n = size x ≤ n
Small atom x n = size x ≤ n

-- a token is one token
abbrev One : Token → ℕ → Type 0
One t n = 1 ≤ n

-- what has a name
abbrev has_name : (m : Name) → Measured terminals Small (nt m) (Small m)
has_name m = measured-name Small m

-- each rule adds no more nodes than tokens
each : (m : Name) → Measured terminals Small (rule m) (Small m)
each program =
    measured-seq One (λ xs n. sizes xs + 1 ≤ n) (measured-tok (λ t. omega arith))
    (measured-deeper (measured-seq (Small sums) One (has_name sums) (measured-tok (λ t. omega arith)) (λ x y i j h k. omega arith)))
    (λ x y i j h k. omega arith)
each sums = measured-alt (measured-seq (Small sum) (Small more) (has_name sum) (has_name more) (λ x y i j h k. omega arith)) (measured-pure (omega arith))
each more =
    measured-alt
    (measured-seq One (Small sums) (measured-tok (λ t. omega arith))
    (measured-deeper (measured-seq (Small sum) (Small more) (has_name sum) (has_name more) (λ x y i j h k. omega arith))) (λ x y i j h k. omega arith))
    (measured-pure (omega arith))
each sum =
    measured-at
    (measured-seq (Small atom) (λ f n. (x : Tree) (p : ℕ) → size (f x p) ≤ size x + n) (has_name atom)
    (measured-alt
    (measured-seq (λ y n. size y + 1 ≤ n) (λ u n. Unit {0})
    (measured-seq One (Small sum) (measured-tok (λ t. omega arith)) (measured-deeper (has_name sum)) (λ x y i j h k. omega arith))
    (measured-pure tt) (λ y u i j h k x p. omega arith))
    (measured-pure (λ x p. omega arith)))
    (λ x f i j h k p. let e : size (f x p) ≤ size x + j = k x p in omega arith))
each atom =
    measured-alt
    (measured-seq One (λ u n. Unit {0}) (measured-tok (λ t. omega arith)) (measured-pure tt) (λ x y i j h k. omega arith))
    (measured-seq One (Small sum) (measured-tok (λ t. omega arith))
    (measured-deeper (measured-seq (Small sum) One (has_name sum) (measured-tok (λ t. omega arith)) (λ x y i j h k. omega arith))) (λ x y i j h k. omega arith))

-- A program's trees have at least two nodes less than it has tokens.
program_is_small : (w : List (Nested Token)) (xs : List Tree) → IsProgram terminals Name Value rule program w xs → sizes xs + 2 ≤ length w
program_is_small w xs p = by_tokens each program 0 w xs p

-- ---- a grammar that doesn't pass

-- a sum that begins with itself
abbrev leftward : (m : Name) → Piece Token Kind ℕ Name Value (Value m)
leftward program = rule program
leftward sums = rule sums
leftward more = rule more
leftward sum = seq (λ x y. Sum 0 x y) (nt sum) (Plus ▸ nt atom)
leftward atom = rule atom

-- It may begin with a name of no lower rank, the next token doesn't tell which way to go, and it has no least derivation.
leftward_wrong : wrongs same tables leftward sum ≡ Rank ∷ Undecided ∷ Tall ∷ []
leftward_wrong = refl

-- a sum that may be a number in two ways
abbrev twofold : (m : Name) → Piece Token Kind ℕ Name Value (Value m)
twofold program = rule program
twofold sums = rule sums
twofold more = rule more
twofold sum = alt (nt atom) ((λ t. Leaf t.value) <$> tok Number)
twofold atom = rule atom

-- The next token doesn't tell which.
twofold_wrong : wrongs same tables twofold sum ≡ Undecided ∷ []
twofold_wrong = refl
