-- What contracts see of a value: a plain tree.
use Rattle.std.specs.Prelude.{◌≡◌, refl, ℕ, zero, suc, ◌+◌, max, ℤ, pos, negsuc, Bool, true, false, List, [], ◌∷◌}
use Rattle.std.proofs.Common.{◌∙◌, ap}
use Rattle.std.specs.Coded.{Coded, code_by, coded×, coded_ℕ, coded_ℤ, coded_list}

mutual
  pub data Tree : Type 0 where
    Int : ℤ → Tree
    Char : ℕ → Tree
    Truth : Bool → Tree
    Nil : Tree
    Cell : (head tail : Tree) → Tree
    Pair : (a b : Tree) → Tree
    Built : (constructor : ℕ) (parts : Trees) → Tree

  -- the parts of a constructor's value
  pub data Trees : Type 0 where
    none : Trees
    more : (part : Tree) (parts : Trees) → Trees

abbrev pub trees_of : List Tree → Trees
trees_of [] = none
trees_of (t ∷ ts) = more t (trees_of ts)

abbrev pub list_of : Trees → List Tree
list_of none = []
list_of (more t ts) = t ∷ list_of ts

-- a value of a constructor with these parts
abbrev pub built : ℕ → List Tree → Tree
built c parts = Built c (trees_of parts)

-- The depth of a value: 1 for what has no parts, and else 1 more than that of its deepest part.
abbrev mutual
  pub depth_of : Tree → ℕ
  depth_of (Int n) = 1
  depth_of (Char c) = 1
  depth_of (Truth b) = 1
  depth_of Nil = 1
  depth_of (Cell head tail) = 1 + max (depth_of head) (depth_of tail)
  depth_of (Pair a b) = 1 + max (depth_of a) (depth_of b)
  depth_of (Built c parts) = 1 + deepest_of parts

  pub deepest_of : Trees → ℕ
  deepest_of none = 0
  deepest_of (more part parts) = max (depth_of part) (deepest_of parts)

-- A value as a list of tokens, each behind its parts, by which a proof tells values apart.
abbrev pub Token : Type 0
Token = ℕ × ℤ

abbrev truth_code : Bool → ℤ
truth_code false = pos 0
truth_code true = pos 1

abbrev mutual
  tokens : Tree → List Token → List Token
  tokens (Int n) rest = (0, n) ∷ rest
  tokens (Char c) rest = (1, pos c) ∷ rest
  tokens (Truth b) rest = (2, truth_code b) ∷ rest
  tokens Nil rest = (3, pos 0) ∷ rest
  tokens (Cell head tail) rest = tokens head (tokens tail ((4, pos 0) ∷ rest))
  tokens (Pair a b) rest = tokens a (tokens b ((5, pos 0) ∷ rest))
  tokens (Built c parts) rest = row_tokens parts ((6, pos c) ∷ rest)

  row_tokens : Trees → List Token → List Token
  row_tokens none rest = (7, pos 0) ∷ rest
  row_tokens (more part parts) rest = tokens part (row_tokens parts ((8, pos 0) ∷ rest))

abbrev number_of : ℤ → ℕ
number_of (pos n) = n
number_of (negsuc n) = 0

abbrev truth_of : ℕ → Bool
truth_of zero = false
truth_of (suc n) = true

-- the stacks of values and of rows after one token
abbrev State : Type 0
State = List Tree × List Trees

abbrev on_two : (Tree → Tree → Tree) → List Tree → List Tree
on_two f [] = []
on_two f (b ∷ []) = []
on_two f (b ∷ a ∷ rest) = f a b ∷ rest

abbrev close_row : ℕ → List Tree → List Trees → State
close_row c ts [] = (ts, [])
close_row c ts (row ∷ rows) = (Built c row ∷ ts, rows)

abbrev grow_row : List Tree → List Trees → State
grow_row [] rows = ([], rows)
grow_row (t ∷ ts) [] = (ts, [])
grow_row (t ∷ ts) (row ∷ rows) = (ts, more t row ∷ rows)

abbrev read : ℕ → ℤ → List Tree → List Trees → State
read zero n ts rows = (Int n ∷ ts, rows)
read (suc zero) n ts rows = (Char (number_of n) ∷ ts, rows)
read (suc (suc zero)) n ts rows = (Truth (truth_of (number_of n)) ∷ ts, rows)
read (suc (suc (suc zero))) n ts rows = (Nil ∷ ts, rows)
read (suc (suc (suc (suc zero)))) n ts rows = (on_two Cell ts, rows)
read (suc (suc (suc (suc (suc zero))))) n ts rows = (on_two Pair ts, rows)
read (suc (suc (suc (suc (suc (suc zero)))))) n ts rows = close_row (number_of n) ts rows
read (suc (suc (suc (suc (suc (suc (suc zero))))))) n ts rows = (ts, none ∷ rows)
read (suc (suc (suc (suc (suc (suc (suc (suc k)))))))) n ts rows = grow_row ts rows

abbrev read_all : List Token → List Tree → List Trees → State
read_all [] ts rows = (ts, rows)
read_all (t ∷ rest) ts rows = let s = read t.0 t.1 ts rows in read_all rest s.0 s.1

abbrev first_of_values : List Tree → Tree
first_of_values [] = Nil
first_of_values (t ∷ ts) = t

abbrev back : List Token → Tree
back code = first_of_values (read_all code [] []).0

mutual
  reads : (t : Tree) (rest : List Token) (ts : List Tree) (rows : List Trees) → read_all (tokens t rest) ts rows ≡ read_all rest (t ∷ ts) rows
  reads (Int n) rest ts rows = refl
  reads (Char c) rest ts rows = refl
  reads (Truth false) rest ts rows = refl
  reads (Truth true) rest ts rows = refl
  reads Nil rest ts rows = refl
  reads (Cell head tail) rest ts rows = reads head _ ts rows ∙ reads tail _ (head ∷ ts) rows
  reads (Pair a b) rest ts rows = reads a _ ts rows ∙ reads b _ (a ∷ ts) rows
  reads (Built c parts) rest ts rows = row_reads parts _ ts rows

  row_reads : (parts : Trees) (rest : List Token) (ts : List Tree) (rows : List Trees) → read_all (row_tokens parts rest) ts rows ≡ read_all rest ts (parts ∷ rows)
  row_reads none rest ts rows = refl
  row_reads (more part parts) rest ts rows = reads part _ ts rows ∙ row_reads parts _ (part ∷ ts) rows

pub tree_back : (t : Tree) → back (tokens t []) ≡ t
tree_back t = ap (λ (s : State). first_of_values s.0) (reads t [] [] [])

abbrev pub tree_code : Coded Tree
tree_code = code_by (List Token) (coded_list (coded× coded_ℕ coded_ℤ)) (λ t. tokens t []) back tree_back
