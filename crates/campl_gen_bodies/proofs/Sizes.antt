-- Each call goes on with less.
use Rattle.std.proofs.Common.{◌≡◌, ◌∙◌, sym, ap, ℕ, zero, suc, ◌+◌, ◌*◌, ◌<◌, ◌≤◌, List, [], ◌∷◌, map, length, get_or, arith}
use Rattle.campl_tree.specs.declared.place.Place.{Place}
use Rattle.campl_tree.specs.declared.place.Ident.{Ident}
use Rattle.campl_tree.specs.declared.process.Body as body
use Rattle.campl_tree.specs.declared.process.Last.{Last}
use Rattle.campl_tree.specs.declared.process.Last.TheVariants as last
use Rattle.campl_tree.specs.declared.process.Link.{Link}
use Rattle.campl_tree.specs.declared.process.HcaseRow.{HcaseRow}
use Rattle.campl_tree.specs.declared.process.Branch.{Branch}
use Rattle.campl_tree.specs.declared.process.CaseRow.{CaseRow}
use Rattle.campl_tree.specs.declared.process.Part.{Part}
use Rattle.campl_tree.specs.declared.expr.Expr.{Expr}
use Rattle.campl_tree.specs.Plain.Process as b
use Rattle.campl_tree.specs.View.{view_action, view_last, view_body, view_hcase_row, hcase_rows, view_branch, branches, view_case_row, case_rows, view_part, parts as part_list, actions_then}
use Rattle.campl_tree.proofs.Views.{view_last-Hcase, view_last-Fork, view_last-Plug, view_last-Race, view_last-Case, view_body-out}
use Rattle.campl_code_bodies.specs.BodySizes.{body_size, hcase_size, race_size, cases_size, parts_size}

size-last : (actions : List b.Action) (end : b.Body) → body_size end ≤ body_size (actions_then actions end)
size-last [] end = omega arith
size-last (a ∷ more) end = let h : body_size end ≤ body_size (actions_then more end) = size-last more end in omega (arith, h)

pub size-body : (q : body.Body) → body_size (view_last (body.out-Body q).last) ≤ body_size (view_body q)
size-body q =
    let h : body_size (view_body q) ≡ body_size (actions_then (map view_action (body.out-Body q).actions) (view_last (body.out-Body q).last)) = ap body_size (view_body-out q) in
    omega (arith, h, size-last (map view_action (body.out-Body q).actions) (view_last (body.out-Body q).last))

module _ (at : Place) where
  pub size-Hcase : (x : Ident) (rows : List HcaseRow) → body_size (view_last (last.Hcase at x rows)) ≡ suc (hcase_size (hcase_rows (map view_hcase_row rows)))
  size-Hcase x rows = ap body_size (view_last-Hcase at x rows)

  pub size-Fork : (x : Ident) (left right : Branch) → body_size (view_last (last.Fork at x left right)) ≡ suc (body_size (view_branch left).1 + body_size (view_branch right).1)
  size-Fork x left right = ap body_size (view_last-Fork at x left right)

  pub size-Plug : (links : List Link) (rows : List Part) → body_size (view_last (last.Plug at links rows)) ≡ suc (parts_size (part_list (map view_part rows)))
  size-Plug links rows = ap body_size (view_last-Plug at links rows)

  pub size-Race : (rows : List Branch) → body_size (view_last (last.Race at rows)) ≡ suc (race_size (branches (map view_branch rows)))
  size-Race rows = ap body_size (view_last-Race at rows)

  pub size-Case : (a : Expr) (rows : List CaseRow) → body_size (view_last (last.Case at a rows)) ≡ suc (cases_size (case_rows (map view_case_row rows)))
  size-Case a rows = ap body_size (view_last-Case at a rows)

-- a command's rows are less than the command
pub rows-fall : {Q : Type 0} (size : List Q → ℕ) (x whole : Last) (rows all : List Q) (t : ℕ) → x ≡ whole → body_size (view_last whole) ≡ suc (size all) → rows ≡ all → 8 * body_size (view_last x) + 1 ≡ t → 8 * size rows + 7 < t
rows-fall size x whole rows all t is n same m =
    let h : body_size (view_last x) ≡ suc (size rows) = ap (λ y. body_size (view_last y)) is ∙ n ∙ ap (λ l. suc (size l)) (sym same) in omega (arith, h, m)

pub bodies-fall : (x : Last) (at : Place) (c : Ident) (left right p q : Branch) (t : ℕ)
    → x ≡ last.Fork at c p q → left ≡ p → right ≡ q → 8 * body_size (view_last x) + 1 ≡ t → 8 * (body_size (view_branch left).1 + body_size (view_branch right).1) + 7 < t
bodies-fall x at c left right p q t is i j m =
    let h : body_size (view_last x) ≡ suc (body_size (view_branch left).1 + body_size (view_branch right).1) =
    ap (λ y. body_size (view_last y)) is ∙ size-Fork at c p q ∙ ap (λ y. suc (body_size (view_branch y).1 + body_size (view_branch q).1)) (sym i) ∙ ap (λ y. suc (body_size (view_branch left).1 + body_size (view_branch y).1)) (sym j) in
    omega (arith, h, m)

-- one row is no more than all

abbrev pub hcase-sizes : List HcaseRow → ℕ
hcase-sizes rows = hcase_size (hcase_rows (map view_hcase_row rows))

abbrev pub race-sizes : List Branch → ℕ
race-sizes rows = race_size (branches (map view_branch rows))

abbrev pub case-sizes : List CaseRow → ℕ
case-sizes rows = cases_size (case_rows (map view_case_row rows))

abbrev pub part-sizes : List Part → ℕ
part-sizes rows = parts_size (part_list (map view_part rows))

pub hcase-within : (rows : List HcaseRow) (n : ℕ) (r : HcaseRow) → n < length rows → r ≡ get_or rows n r → body_size (view_hcase_row r).1 ≤ hcase-sizes rows
hcase-within [] n r l is = absurd (let none : ⊥ = omega (arith, l) in none)
hcase-within (y ∷ rows) zero r l is = let h : body_size (view_hcase_row r).1 ≡ body_size (view_hcase_row y).1 = ap (λ q. body_size (view_hcase_row q).1) is in omega (arith, h)
hcase-within (y ∷ rows) (suc n) r l is = let h : body_size (view_hcase_row r).1 ≤ hcase-sizes rows = hcase-within rows n r (omega (arith, l)) is in omega (arith, h)

pub race-within : (rows : List Branch) (n : ℕ) (r : Branch) → n < length rows → r ≡ get_or rows n r → body_size (view_branch r).1 ≤ race-sizes rows
race-within [] n r l is = absurd (let none : ⊥ = omega (arith, l) in none)
race-within (y ∷ rows) zero r l is = let h : body_size (view_branch r).1 ≡ body_size (view_branch y).1 = ap (λ q. body_size (view_branch q).1) is in omega (arith, h)
race-within (y ∷ rows) (suc n) r l is = let h : body_size (view_branch r).1 ≤ race-sizes rows = race-within rows n r (omega (arith, l)) is in omega (arith, h)

pub case-within : (rows : List CaseRow) (n : ℕ) (r : CaseRow) → n < length rows → r ≡ get_or rows n r → body_size (view_case_row r).1 ≤ case-sizes rows
case-within [] n r l is = absurd (let none : ⊥ = omega (arith, l) in none)
case-within (y ∷ rows) zero r l is = let h : body_size (view_case_row r).1 ≡ body_size (view_case_row y).1 = ap (λ q. body_size (view_case_row q).1) is in omega (arith, h)
case-within (y ∷ rows) (suc n) r l is = let h : body_size (view_case_row r).1 ≤ case-sizes rows = case-within rows n r (omega (arith, l)) is in omega (arith, h)
