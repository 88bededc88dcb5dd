-- Each call goes on with less.
use Rattle.std.proofs.Common.{◌≡◌, ◌∙◌, refl, ap, ℕ, ◌+◌, ◌*◌, ◌<◌, List, [], ◌∷◌, map, arith}
use Rattle.campl_tree.specs.declared.place.Place.{Place}
use Rattle.campl_tree.specs.declared.place.Ident.{Ident}
use Rattle.campl_tree.specs.declared.process.Body as body
use Rattle.campl_tree.specs.declared.process.Last.{Last}
use Rattle.campl_tree.specs.declared.process.Last.TheVariants as last
use Rattle.campl_tree.specs.declared.process.Link.{Link}
use Rattle.campl_tree.specs.declared.process.HcaseRow.{HcaseRow}
use Rattle.campl_tree.specs.declared.process.Branch.{Branch}
use Rattle.campl_tree.specs.declared.process.CaseRow.{CaseRow}
use Rattle.campl_tree.specs.declared.process.Part.{Part}
use Rattle.campl_tree.specs.declared.expr.Expr.{Expr}
use Rattle.campl_tree.specs.Plain.Process as b
use Rattle.campl_tree.specs.View.{view_action, view_last, view_body, view_hcase_row, view_branch, view_case_row, view_part, actions_then}
use Rattle.campl_tree.proofs.Views.{view_last-Hcase, view_last-Fork, view_last-Plug, view_last-Race, view_last-Case, view_body-out}
use Rattle.campl_lincheck.proofs.Weights.{weigh, weight, weights, rows-weigh, branches-weigh, cases-weigh, parts-weigh}

weigh-last : (actions : List b.Action) (end : b.Body) → weigh (actions_then actions end) ≡ weigh end
weigh-last [] end = refl
weigh-last (a ∷ more) end = weigh-last more end

pub weight-body : (q : body.Body) → weight (view_body q) ≡ weight (view_last (body.out-Body q).last)
unfolding weight
weight-body q = ap weigh (view_body-out q) ∙ weigh-last (map view_action (body.out-Body q).actions) (view_last (body.out-Body q).last)

module _ (at : Place) where
  pub weight-Hcase : (x : Ident) (rows : List HcaseRow) → weight (view_last (last.Hcase at x rows)) ≡ 1 + weights (map view_hcase_row rows)
  unfolding weight weights
  weight-Hcase x rows = ap weigh (view_last-Hcase at x rows) ∙ ap (λ n. 1 + n) (rows-weigh (map view_hcase_row rows))

  pub weight-Fork : (x : Ident) (left right : Branch) → weight (view_last (last.Fork at x left right)) ≡ 1 + (weight (view_branch left).1 + weight (view_branch right).1)
  unfolding weight
  weight-Fork x left right = ap weigh (view_last-Fork at x left right)

  pub weight-Plug : (links : List Link) (rows : List Part) → weight (view_last (last.Plug at links rows)) ≡ 1 + weights (map view_part rows)
  unfolding weight weights
  weight-Plug links rows = ap weigh (view_last-Plug at links rows) ∙ ap (λ n. 1 + n) (parts-weigh (map view_part rows))

  pub weight-Race : (rows : List Branch) → weight (view_last (last.Race at rows)) ≡ 1 + weights (map view_branch rows)
  unfolding weight weights
  weight-Race rows = ap weigh (view_last-Race at rows) ∙ ap (λ n. 1 + n) (branches-weigh (map view_branch rows))

  pub weight-Case : (a : Expr) (rows : List CaseRow) → weight (view_last (last.Case at a rows)) ≡ 1 + weights (map view_case_row rows)
  unfolding weight weights
  weight-Case a rows = ap weigh (view_last-Case at a rows) ∙ ap (λ n. 1 + n) (cases-weigh (map view_case_row rows))

-- a command's rows are less than the command
pub rows-fall : {Q R : Type 0} (f : Q → R × b.Body) (x whole : Last) (rows all : List Q) (t : ℕ)
    → x ≡ whole → weight (view_last whole) ≡ 1 + weights (map f all) → rows ≡ all → 8 * weight (view_last x) + 1 ≡ t → 8 * weights (map f rows) + 7 < t
rows-fall f x whole rows all t is n i m =
    let h : weight (view_last x) ≡ 1 + weights (map f rows) = ap (λ y. weight (view_last y)) is ∙ n ∙ rw (← i) refl in omega (arith, h, m)

pub bodies-fall : (x : Last) (at : Place) (c : Ident) (left right p q : Branch) (t : ℕ)
    → x ≡ last.Fork at c p q → left ≡ p → right ≡ q → 8 * weight (view_last x) + 1 ≡ t → 8 * (weight (view_branch left).1 + weight (view_branch right).1) + 7 < t
bodies-fall x at c left right p q t is i j m =
    let h : weight (view_last x) ≡ 1 + (weight (view_branch left).1 + weight (view_branch right).1) = ap (λ y. weight (view_last y)) is ∙ weight-Fork at c p q ∙ rw (← i, ← j) refl in
    omega (arith, h, m)
