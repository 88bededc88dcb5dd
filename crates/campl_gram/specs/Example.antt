-- A small grammar: programs of sums of numbers in braces, as `{ 1 + (2 + 3), 4 }`.
--
--   program = "{" [ sum { "," sum } ] "}"
--   sum     = atom [ "+" sum ]
--   atom    = number | "(" sum ")"
use Rattle.std.specs.Prelude.{◌≡◌, ℕ, zero, suc, ◌+◌, Bool, true, false, ◌==◌, List, [], ◌∷◌}
use Rattle.std.proofs.Common.{refl, sym, ◌∙◌, ap, rules}
use Rattle.campl_gram.specs.Grammar.{Terminals, Piece, tok, pure, alt, deeper, at, nt, ◌▸◌, ◌◂◌, ◌<$>◌, into, list}
use Rattle.campl_gram.specs.Reading.{Tables}
use Rattle.campl_gram.specs.Tests.{Distinct, Passes}
use Rattle.campl_gram.specs.OneKind.{by_kind, distinct}
use Rattle.campl_gram.specs.Brackets.{RulesBalanced, Encloses}

-- ---- tokens

pub data Kind : Type 0 where
  Number : Kind
  Plus : Kind
  Comma : Kind
  LParen : Kind
  RParen : Kind
  LBrace : Kind
  RBrace : Kind

-- each kind's number
abbrev pub number : Kind → ℕ
number Number = 0
number Plus = 1
number Comma = 2
number LParen = 3
number RParen = 4
number LBrace = 5
number RBrace = 6

-- the kind with a number
abbrev pub numbered : ℕ → Kind
numbered zero = Number
numbered (suc zero) = Plus
numbered (suc (suc zero)) = Comma
numbered (suc (suc (suc zero))) = LParen
numbered (suc (suc (suc (suc zero)))) = RParen
numbered (suc (suc (suc (suc (suc zero))))) = LBrace
numbered _ = RBrace

-- kinds are the same where their numbers are
abbrev pub same : Kind → Kind → Bool
same j k = number j == number k

-- a token: its kind, its number if it is one, and how many stand before it
pub record Token : Type 0 where
  pub kind : Kind
  pub value : ℕ
  pub place : ℕ

-- which kinds a token is of, and its place
abbrev pub terminals : Terminals Token Kind ℕ
terminals = by_kind same (λ t. t.kind) (λ t. t.place) 0

-- a kind is the same as itself
same_refl : (k : Kind) → same k k ≡ true
same_refl Number = refl
same_refl Plus = refl
same_refl Comma = refl
same_refl LParen = refl
same_refl RParen = refl
same_refl LBrace = refl
same_refl RBrace = refl

-- a kind is the one with its number
numbered_number : (k : Kind) → numbered (number k) ≡ k
numbered_number Number = refl
numbered_number Plus = refl
numbered_number Comma = refl
numbered_number LParen = refl
numbered_number RParen = refl
numbered_number LBrace = refl
numbered_number RBrace = refl

-- numbers that pass the test are equal
same_number : (n k : ℕ) → (n == k) ≡ true → n ≡ k
same_number n k e = search rules

-- kinds that pass the test are equal
same_is : (j k : Kind) → same j k ≡ true → j ≡ k
same_is j k e = sym (numbered_number j) ∙ ap numbered (same_number (number j) (number k) e) ∙ numbered_number k

-- the kinds are distinct
pub distinct_kinds : Distinct terminals same
distinct_kinds = distinct same (λ t. t.kind) (λ t. t.place) 0 same_refl same_is (λ k. record { kind = k; value = 0; place = 0 }) (λ k. refl)

-- ---- trees

pub data Tree : Type 0 where
  Leaf : ℕ → Tree
  -- a sum, with the place of its first token
  Sum : ℕ → Tree → Tree → Tree

-- how many nodes there are
abbrev pub size : Tree → ℕ
size (Leaf n) = 1
size (Sum p x y) = suc (size x + size y)

-- ---- the rules

pub data Name : Type 0 where
  program : Name
  sums : Name
  more : Name
  sum : Name
  atom : Name

-- what a value of each name is
abbrev pub Value : Name → Type 0
Value program = List Tree
Value sums = List Tree
Value more = List Tree
Value sum = Tree
Value atom = Tree

-- pieces of this grammar
abbrev pub Part : Type 0 → Type 1
Part = Piece Token Kind ℕ Name Value

-- each rule as above
abbrev pub rule : (m : Name) → Part (Value m)
rule program = LBrace ▸ deeper (nt sums ◂ RBrace)
rule sums = alt (list (nt sum) (nt more)) (pure [])
rule more = alt (Comma ▸ deeper (list (nt sum) (nt more))) (pure [])
rule sum = at (into (nt atom) (alt ((λ y x p. Sum p x y) <$> Plus ▸ deeper (nt sum)) (pure (λ x p. x))))
rule atom = alt ((λ t. Leaf t.value) <$> tok Number) (LParen ▸ deeper (nt sum ◂ RParen))

-- ---- the tables

-- which may have no token
abbrev pub nul : Name → Bool
nul program = false
nul sums = true
nul more = true
nul sum = false
nul atom = false

-- with which kinds each may begin
abbrev pub starts : Name → List Kind
starts program = LBrace ∷ []
starts sums = Number ∷ LParen ∷ []
starts more = Comma ∷ []
starts sum = Number ∷ LParen ∷ []
starts atom = Number ∷ LParen ∷ []

-- with which kinds each could go on when it is over
abbrev pub conts : Name → List Kind
conts program = []
conts sums = Number ∷ LParen ∷ Comma ∷ Plus ∷ []
conts more = Comma ∷ Plus ∷ []
conts sum = Plus ∷ []
conts atom = []

-- above that of each name with which it may begin
abbrev pub rank : Name → ℕ
rank program = 0
rank sums = 2
rank more = 0
rank sum = 1
rank atom = 0

-- how high the least derivation of each is
abbrev pub tall : Name → ℕ
tall program = 1
tall sums = 0
tall more = 0
tall sum = 1
tall atom = 0

-- all of them
abbrev pub tables : Tables Kind Name
tables = record { nul = nul; starts = starts; conts = conts; rank = rank; ranks = 3; tall = tall; talls = 2 }

-- ---- the tests

-- the grammar passes
pub passes : Passes same tables rule
passes program = refl
passes sums = refl
passes more = refl
passes sum = refl
passes atom = refl

-- its rules are balanced in braces
pub balanced : RulesBalanced same LBrace RBrace rule
balanced program = refl
balanced sums = refl
balanced more = refl
balanced sum = refl
balanced atom = refl

-- a program stands in braces
pub encloses : Encloses same LBrace RBrace (rule program)
encloses = refl
