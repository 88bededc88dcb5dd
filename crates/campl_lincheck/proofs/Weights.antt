-- How much there is to judge: each step goes on with less.
use Rattle.std.proofs.Common.{◌≡◌, refl, ap, ℕ, zero, suc, ◌+◌, ◌<◌, ◌≤◌, List, [], ◌∷◌, map, length, get_or, arith}
use Rattle.campl_tree.specs.declared.place.Ident.{Ident}
use Rattle.campl_tree.specs.Plain.Pattern.{Pattern}
use Rattle.campl_tree.specs.Plain.Process as b
use Rattle.campl_tree.specs.View.{hcase_rows, branches, case_rows, parts}

abbrev mutual
  pub weigh : b.Body → ℕ
  weigh (b.Then a rest) = weigh rest
  weigh (b.Halt at x) = 1
  weigh (b.Hcase at x rows) = 1 + weigh_rows rows
  weigh (b.Fork at x y left z right) = 1 + (weigh left + weigh right)
  weigh (b.Plug at links parts) = 1 + weigh_parts parts
  weigh (b.Race at rows) = 1 + weigh_branches rows
  weigh (b.Case at a rows) = 1 + weigh_cases rows
  weigh (b.Identity at x negated y) = 1
  weigh (b.Call at x args inputs outputs) = 1

  weigh_rows : b.HcaseRows → ℕ
  weigh_rows b.no_hcase_rows = 0
  weigh_rows (b.hcase_row_then k body rows) = weigh body + weigh_rows rows

  weigh_branches : b.Branches → ℕ
  weigh_branches b.no_branches = 0
  weigh_branches (b.branch_then x body rows) = weigh body + weigh_branches rows

  weigh_cases : b.CaseRows → ℕ
  weigh_cases b.no_case_rows = 0
  weigh_cases (b.case_row_then p body rows) = weigh body + weigh_cases rows

  weigh_parts : b.Parts → ℕ
  weigh_parts b.no_parts = 0
  weigh_parts (b.part_then header body rows) = weigh body + weigh_parts rows

unfoldable pub weight : b.Body → ℕ
weight = weigh

-- of rows, branches or parts with their bodies
abbrev sum_of : {R : Type 0} → List (R × b.Body) → ℕ
sum_of [] = 0
sum_of (r ∷ rows) = weigh r.1 + sum_of rows

unfoldable pub weights : {R : Type 0} → List (R × b.Body) → ℕ
weights = sum_of

pub rows-weigh : (rows : List (Ident × b.Body)) → weigh_rows (hcase_rows rows) ≡ sum_of rows
rows-weigh [] = refl
rows-weigh (r ∷ rows) = ap (λ n. weigh r.1 + n) (rows-weigh rows)

pub branches-weigh : (rows : List (Ident × b.Body)) → weigh_branches (branches rows) ≡ sum_of rows
branches-weigh [] = refl
branches-weigh (r ∷ rows) = ap (λ n. weigh r.1 + n) (branches-weigh rows)

pub cases-weigh : (rows : List (Pattern × b.Body)) → weigh_cases (case_rows rows) ≡ sum_of rows
cases-weigh [] = refl
cases-weigh (r ∷ rows) = ap (λ n. weigh r.1 + n) (cases-weigh rows)

pub parts-weigh : (rows : List (b.Header × b.Body)) → weigh_parts (parts rows) ≡ sum_of rows
parts-weigh [] = refl
parts-weigh (r ∷ rows) = ap (λ n. weigh r.1 + n) (parts-weigh rows)

-- one is no more than all
pub within : {Q R : Type 0} (f : Q → R × b.Body) (rows : List Q) (i : ℕ) (r : Q) → i < length rows → r ≡ get_or rows i r → weight (f r).1 ≤ weights (map f rows)
unfolding weight weights
within f [] i r l is = absurd (let none : ⊥ = omega (arith, l) in none)
within f (y ∷ rows) zero r l is = let h : weigh (f r).1 ≡ weigh (f y).1 = ap (λ q. weigh (f q).1) is in omega (arith, h)
within f (y ∷ rows) (suc i) r l is = let h : weigh (f r).1 ≤ sum_of (map f rows) = within f rows i r (omega (arith, l)) is in omega (arith, h)
