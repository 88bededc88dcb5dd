-- What is made of each last command of the tree.
use Rattle.std.proofs.Common.{◌≡◌, ◌∙◌, ap, ℕ, Bool, List, ◌∷◌, [], map, Option}
use Rattle.campl_tree.specs.declared.place.Place.{Place}
use Rattle.campl_tree.specs.declared.place.Ident.{Ident}
use Rattle.campl_tree.specs.declared.name.Name.{Name}
use Rattle.campl_tree.specs.declared.process.Last.TheVariants as last
use Rattle.campl_tree.specs.declared.process.Link.{Link}
use Rattle.campl_tree.specs.declared.process.HcaseRow.{HcaseRow}
use Rattle.campl_tree.specs.declared.process.Branch.{Branch}
use Rattle.campl_tree.specs.declared.process.CaseRow.{CaseRow}
use Rattle.campl_tree.specs.declared.process.Part.{Part}
use Rattle.campl_tree.specs.declared.expr.Expr.{Expr}
use Rattle.campl_tree.specs.View.{view_last, view_hcase_row, view_branch, view_case_row, case_rows, view_link, view_part, parts as part_list, view_expr, exprs}
use Rattle.campl_tree.proofs.Views.{view_last-Halt, view_last-Hcase, view_last-Fork, view_last-Plug, view_last-Race, view_last-Case, view_last-Identity, view_last-Call}
use Rattle.campl_types.specs.World.{World}
use Rattle.campl_peel.specs.Numbered.{last_first}
use Rattle.campl_code_bodies.specs.Bodies.{Channels}
use Rattle.campl_code_bodies.specs.BodyCode.{number, link_code}
use Rattle.campl_gen_bodies.specs.Making.{Making, pushed, built}
use Rattle.campl_gen_bodies.specs.Commands.{halted, called, hcase_built, race_built, case_built, fork_built}
use Rattle.campl_gen_bodies.specs.Peels.{peels_built}
use Rattle.campl_gen_bodies.proofs.Commands.{halt-so, identity-so, call-so, hcase-so, race-so, case-so, fork-so, plug-so}

module _ (w : World) (at : Place) (next : ℕ) (cs : Channels) (s : Making) where
  pub built-Halt : (x : Option Ident) → built w (view_last (last.Halt at x)) next cs s ≡ halted x cs s
  built-Halt x = ap (λ b. built w b next cs s) (view_last-Halt at x) ∙ halt-so w at next cs s x

  pub built-Hcase : (x : Ident) (rows : List HcaseRow) → built w (view_last (last.Hcase at x rows)) next cs s ≡ hcase_built w x (map view_hcase_row rows) next cs s
  built-Hcase x rows = ap (λ b. built w b next cs s) (view_last-Hcase at x rows) ∙ hcase-so w at next cs s x (map view_hcase_row rows)

  pub built-Fork : (x : Ident) (left right : Branch) → built w (view_last (last.Fork at x left right)) next cs s ≡ fork_built w x (view_branch left) (view_branch right) next cs s
  built-Fork x left right = ap (λ b. built w b next cs s) (view_last-Fork at x left right) ∙ fork-so w at next cs s x (view_branch left) (view_branch right)

  pub built-Plug : (links : List Link) (rows : List Part)
      → built w (view_last (last.Plug at links rows)) next cs s ≡ peels_built w (map view_link links) (last_first (map view_link links) (part_list (map view_part rows))) next cs s
  built-Plug links rows = ap (λ b. built w b next cs s) (view_last-Plug at links rows) ∙ plug-so w at next cs s (map view_link links) (part_list (map view_part rows))

  pub built-Race : (rows : List Branch) → built w (view_last (last.Race at rows)) next cs s ≡ race_built w (map view_branch rows) next cs s
  built-Race rows = ap (λ b. built w b next cs s) (view_last-Race at rows) ∙ race-so w at next cs s (map view_branch rows)

  pub built-Case : (a : Expr) (rows : List CaseRow)
      → built w (view_last (last.Case at a rows)) next cs s ≡ case_built w (view_expr a) (case_rows (map view_case_row rows)) (map view_case_row rows) next cs s
  built-Case a rows = ap (λ b. built w b next cs s) (view_last-Case at a rows) ∙ case-so w at next cs s (view_expr a) (map view_case_row rows)

  pub built-Identity : (x : Name) (negated : Bool) (y : Ident) → built w (view_last (last.Identity at x negated y)) next cs s ≡ pushed (link_code negated (number x cs) (number y.name cs) ∷ []) s
  built-Identity x negated y = ap (λ b. built w b next cs s) (view_last-Identity at x negated y) ∙ identity-so w at next cs s x negated y

  pub built-Call : (x : Name) (args : List Expr) (inputs outputs : List Ident)
      → built w (view_last (last.Call at x args inputs outputs)) next cs s ≡ called w x (exprs (map view_expr args)) inputs outputs cs s
  built-Call x args inputs outputs = ap (λ b. built w b next cs s) (view_last-Call at x args inputs outputs) ∙ call-so w at next cs s x (exprs (map view_expr args)) inputs outputs

pub ruleset lasts = (built-Halt, built-Hcase, built-Fork, built-Plug, built-Race, built-Case, built-Identity, built-Call)
