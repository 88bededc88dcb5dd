-- What judging makes of each command, and what is judged from where a loop stands.
use Rattle.std.proofs.Common.{◌≡◌, ◌∙◌, refl, ap, ℕ, ◌+◌, ◌<◌, ◌≤◌, Bool, Option, Some, None, List, [], ◌∷◌, ◌++◌, map, drop, length, get_or}
use Rattle.std.proofs.Math.Path.{fun_ext}
use Rattle.std.proofs.lemmas.List.{drop_all}
use Rattle.campl_tree.specs.declared.place.Place.{Place}
use Rattle.campl_tree.specs.declared.place.Ident.{Ident}
use Rattle.campl_tree.specs.declared.name.Name.{Name}
use Rattle.campl_tree.specs.declared.process.Body as body
use Rattle.campl_tree.specs.declared.process.Last.TheVariants as last
use Rattle.campl_tree.specs.declared.process.Link.{Link}
use Rattle.campl_tree.specs.declared.process.HcaseRow.{HcaseRow}
use Rattle.campl_tree.specs.declared.process.Branch.{Branch}
use Rattle.campl_tree.specs.declared.process.CaseRow.{CaseRow}
use Rattle.campl_tree.specs.declared.process.Part.{Part}
use Rattle.campl_tree.specs.declared.expr.Expr.{Expr}
use Rattle.campl_tree.specs.Plain.SeqType.{SeqType}
use Rattle.campl_tree.specs.Plain.ChanType.{ChanType}
use Rattle.campl_tree.specs.Plain.Decl as d
use Rattle.campl_tree.specs.Plain.Process as b
use Rattle.campl_tree.specs.View.{view_action, view_last, view_body, view_hcase_row, hcase_rows, view_branch, branches, view_case_row, case_rows, view_link, view_part, parts as part_list, actions_then, view_expr, exprs}
use Rattle.campl_tree.proofs.Views.{view_last-Halt, view_last-Hcase, view_last-Fork, view_last-Plug, view_last-Race, view_last-Case, view_last-Identity, view_last-Call, view_body-out}
use Rattle.campl_types.specs.Fits.{Vars}
use Rattle.campl_types.specs.Held.{On}
use Rattle.campl_types.specs.Linear.{bound}
use Rattle.campl_types.specs.Polarity.{Choices}
use Rattle.campl_types.specs.World.{World, process_named}
use Rattle.campl_seqcheck.specs.Judged.{fine, Fine, Judged, Is, Fails, and_then}
use Rattle.campl_seqcheck.specs.Fitting.{fit}
use Rattle.campl_seqcheck.specs.Judging as values
use Rattle.campl_seqcheck.specs.Judging.{checked}
use Rattle.campl_seqcheck.specs.declared.fault.SeqFault.{SeqFault}
use Rattle.campl_seqcheck.proofs.Answered.{drop-at}
use Rattle.campl_linear.specs.Faults as plain
use Rattle.campl_linear.specs.Judged.{from_seq}
use Rattle.campl_linear.specs.Holding.{Holding, goes_on, given_up, comes}
use Rattle.campl_linear.specs.Channels.{Used, used, to_put, to_get, to_pick, to_split, to_end, two_new}
use Rattle.campl_linear.specs.Calls.{called}
use Rattle.campl_linear.specs.Processes.{judge_process}
use Rattle.campl_linear.specs.Bodies.{judge, judge_rows, judge_branches, judge_cases, judge_parts}
use Rattle.campl_held.specs.Steps.{acted, acted_all}
use Rattle.campl_calls.specs.Halting.{halted}
use Rattle.campl_calls.specs.Identities.{identified}
use Rattle.campl_calls.specs.Headings.{headed}
use Rattle.campl_calls.proofs.Headed.{judged-headed}
use Rattle.campl_rows.specs.Steps.{row_holding}
use Rattle.campl_rows.proofs.Arms.{hcase-arm, fork-arm, race-arm, case-arm, row-arm}
use Rattle.campl_lincheck.specs.Steps.{judged, judged_rows, judged_row, judged_hcase, judged_fork, judged_branches, judged_race, judged_case, judged_cases, judged_case_row, judged_plug, judged_parts, judged_part}

abbrev F : Type 0
F = plain.LinFault

in-three : {A B C : Type 0} (j : Judged F A) (f : A → Judged F B) (g : B → Judged F C) → and_then j (λ x. and_then (f x) g) ≡ and_then (and_then j f) g
in-three (Is x) f g = refl
in-three (Fails fault) f g = refl

-- Commands in turn

abbrev State : Type 0
State = Vars × Holding

module _ (w : World) (vs : Vars) (held : Holding) (rest : b.Body) where
  then-acted : (a : b.Action) → judge w vs held (b.Then a rest) ≡ and_then (acted w vs held a) (λ (s : State). judge w s.0 s.1 rest)
  then-acted (b.Put at a x) = go (used w at x to_put held)
    where
      inner : (u : Used (SeqType × ChanType)) (j : Judged SeqFault SeqType)
          → and_then (from_seq j) (λ _. judge w vs (goes_on x.name (On u.side u.may.1) held) rest)
          ≡ and_then (and_then (from_seq (and_then j (λ _. Is fine))) (λ _. Is (vs, goes_on x.name (On u.side u.may.1) held))) (λ (s : State). judge w s.0 s.1 rest)
      inner u (Is t) = refl
      inner u (Fails fault) = refl

      go : (k : Judged F (Used (SeqType × ChanType)))
          → and_then k (λ u. and_then (from_seq (values.judge w vs a (Some u.may.0))) (λ _. judge w vs (goes_on x.name (On u.side u.may.1) held) rest))
          ≡ and_then (and_then k (λ u. and_then (from_seq (checked w vs a u.may.0)) (λ _. Is (vs, goes_on x.name (On u.side u.may.1) held)))) (λ (s : State). judge w s.0 s.1 rest)
      go (Is u) = inner u (values.judge w vs a (Some u.may.0))
      go (Fails fault) = refl
  then-acted (b.Get at v x) = in-three (used w at x to_get held) (λ u. Is (bound v u.may.0 vs, goes_on x.name (On u.side u.may.1) held)) (λ (s : State). judge w s.0 s.1 rest)
  then-acted (b.Hput at k x) = in-three (used w at x (to_pick k.name) held) (λ u. Is (vs, goes_on x.name (On u.side u.may) held)) (λ (s : State). judge w s.0 s.1 rest)
  then-acted (b.Split at x y z) = go (used w at x to_split held)
    where
      inner : (u : Used (ChanType × ChanType)) (j : Judged F Fine)
          → and_then j (λ _. judge w vs (comes z.name (On u.side u.may.1) (comes y.name (On u.side u.may.0) (given_up x.name held))) rest)
          ≡ and_then (and_then j (λ _. Is (vs, comes z.name (On u.side u.may.1) (comes y.name (On u.side u.may.0) (given_up x.name held))))) (λ (s : State). judge w s.0 s.1 rest)
      inner u (Is f) = refl
      inner u (Fails fault) = refl

      go : (k : Judged F (Used (ChanType × ChanType)))
          → and_then k (λ u. and_then (two_new y z (given_up x.name held)) (λ _. judge w vs (comes z.name (On u.side u.may.1) (comes y.name (On u.side u.may.0) (given_up x.name held))) rest))
          ≡ and_then (and_then k (λ u. and_then (two_new y z (given_up x.name held)) (λ _. Is (vs, comes z.name (On u.side u.may.1) (comes y.name (On u.side u.may.0) (given_up x.name held)))))) (λ (s : State). judge w s.0 s.1 rest)
      go (Is u) = inner u (two_new y z (given_up x.name held))
      go (Fails fault) = refl
  then-acted (b.Close at x) = in-three (used w at x to_end held) (λ _. Is (vs, given_up x.name held)) (λ (s : State). judge w s.0 s.1 rest)

all-acted : (w : World) (vs : Vars) (held : Holding) (actions : List b.Action) (end : b.Body)
    → judge w vs held (actions_then actions end) ≡ and_then (acted_all w vs held actions) (λ (s : State). judge w s.0 s.1 end)
all-acted w vs held [] end = refl
all-acted w vs held (a ∷ more) end =
    then-acted w vs held (actions_then more end) a
    ∙ ap (λ next. and_then (acted w vs held a) next) (fun_ext (λ s. all-acted w s.0 s.1 more end))
    ∙ in-three (acted w vs held a) (λ s. acted_all w s.0 s.1 more) (λ s. judge w s.0 s.1 end)

pub judged-body : (w : World) (vs : Vars) (held : Holding) (q : body.Body)
    → judged w vs held (view_body q) ≡ and_then (acted_all w vs held (map view_action (body.out-Body q).actions)) (λ (s : State). judged w s.0 s.1 (view_last (body.out-Body q).last))
unfolding judged
judged-body w vs held q = ap (judge w vs held) (view_body-out q) ∙ all-acted w vs held (map view_action (body.out-Body q).actions) (view_last (body.out-Body q).last)

-- Last commands

module _ (w : World) (vs : Vars) (held : Holding) (at : Place) where
  halt-so : (x : Option Ident) → judge w vs held (b.Halt at x) ≡ halted at w held x
  halt-so None = refl
  halt-so (Some x) = refl

  pub judged-Halt : (x : Option Ident) → judged w vs held (view_last (last.Halt at x)) ≡ halted at w held x
  unfolding judged
  judged-Halt x = ap (judge w vs held) (view_last-Halt at x) ∙ halt-so x

  pub judged-Hcase : (x : Ident) (rows : List HcaseRow) → judged w vs held (view_last (last.Hcase at x rows)) ≡ judged_hcase at w vs held x (hcase_rows (map view_hcase_row rows))
  unfolding judged judged_rows
  judged-Hcase x rows = ap (judge w vs held) (view_last-Hcase at x rows) ∙ hcase-arm w vs held at x (hcase_rows (map view_hcase_row rows))

  pub judged-Fork : (x : Ident) (left right : Branch) → judged w vs held (view_last (last.Fork at x left right)) ≡ judged_fork at w vs held x (view_branch left) (view_branch right)
  unfolding judged
  judged-Fork x left right =
      ap (judge w vs held) (view_last-Fork at x left right) ∙ fork-arm w vs held at x (view_branch left).0 (view_branch left).1 (view_branch right).0 (view_branch right).1

  pub judged-Plug : (links : List Link) (rows : List Part) → judged w vs held (view_last (last.Plug at links rows)) ≡ judged_plug at w vs held (map view_link links) (part_list (map view_part rows))
  unfolding judged judged_parts
  judged-Plug links rows = ap (judge w vs held) (view_last-Plug at links rows)

  pub judged-Race : (rows : List Branch) → judged w vs held (view_last (last.Race at rows)) ≡ judged_race at w vs held (branches (map view_branch rows))
  unfolding judged judged_branches
  judged-Race rows = ap (judge w vs held) (view_last-Race at rows) ∙ race-arm w vs held at (branches (map view_branch rows))

  pub judged-Case : (a : Expr) (rows : List CaseRow) → judged w vs held (view_last (last.Case at a rows)) ≡ judged_case at w vs held (view_expr a) (case_rows (map view_case_row rows))
  unfolding judged judged_cases
  judged-Case a rows = ap (judge w vs held) (view_last-Case at a rows) ∙ case-arm w vs held at (view_expr a) (case_rows (map view_case_row rows))

  pub judged-Identity : (x : Name) (negated : Bool) (y : Ident) → judged w vs held (view_last (last.Identity at x negated y)) ≡ identified at held x negated y
  unfolding judged
  judged-Identity x negated y = ap (judge w vs held) (view_last-Identity at x negated y)

  pub judged-Call : (x : Name) (args : List Expr) (inputs outputs : List Ident)
      → judged w vs held (view_last (last.Call at x args inputs outputs)) ≡ called w vs held at (process_named w x) (exprs (map view_expr args)) inputs outputs
  unfolding judged
  judged-Call x args inputs outputs = ap (judge w vs held) (view_last-Call at x args inputs outputs)

pub ruleset lasts = (judged-Halt, judged-Hcase, judged-Fork, judged-Plug, judged-Race, judged-Case, judged-Identity, judged-Call)

-- Rows

module _ (w : World) (vs : Vars) (held : Holding) (x : Name) (u : Used Choices) (rows : List HcaseRow) (i : ℕ) where
  pub row-at : (r : HcaseRow) → i < length rows → r ≡ get_or rows i r
      → judged_rows w vs held x u (hcase_rows (map view_hcase_row (drop i rows)))
      ≡ and_then (judged_row w vs held x u (view_hcase_row r)) (λ _. judged_rows w vs held x u (hcase_rows (map view_hcase_row (drop (i + 1) rows))))
  unfolding judged judged_rows
  row-at r l is =
      ap (λ rs. judge_rows w vs held x u (hcase_rows (map view_hcase_row rs))) (drop-at rows i r l is)
      ∙ row-arm w vs held x u (view_hcase_row r).0 (view_hcase_row r).1 (hcase_rows (map view_hcase_row (drop (i + 1) rows)))
      ∙ in-three (row_holding x u (view_hcase_row r).0 held) (λ h. judge w vs h (view_hcase_row r).1) (λ _. judge_rows w vs held x u (hcase_rows (map view_hcase_row (drop (i + 1) rows))))

  pub row-end : length rows ≤ i → judged_rows w vs held x u (hcase_rows (map view_hcase_row (drop i rows))) ≡ Is fine
  unfolding judged_rows
  row-end l = ap (λ rs. judge_rows w vs held x u (hcase_rows (map view_hcase_row rs))) (drop_all i rows l)

module _ (w : World) (vs : Vars) (held : Holding) (rows : List Branch) (i : ℕ) where
  pub branch-at : (r : Branch) → i < length rows → r ≡ get_or rows i r
      → judged_branches w vs held (branches (map view_branch (drop i rows)))
      ≡ and_then (judged w vs held (view_branch r).1) (λ _. judged_branches w vs held (branches (map view_branch (drop (i + 1) rows))))
  unfolding judged judged_branches
  branch-at r l is = ap (λ rs. judge_branches w vs held (branches (map view_branch rs))) (drop-at rows i r l is)

  pub branch-end : length rows ≤ i → judged_branches w vs held (branches (map view_branch (drop i rows))) ≡ Is fine
  unfolding judged_branches
  branch-end l = ap (λ rs. judge_branches w vs held (branches (map view_branch rs))) (drop_all i rows l)

module _ (w : World) (vs : Vars) (held : Holding) (t : SeqType) (rows : List CaseRow) (i : ℕ) where
  pub case-at : (r : CaseRow) → i < length rows → r ≡ get_or rows i r
      → judged_cases w vs held t (case_rows (map view_case_row (drop i rows)))
      ≡ and_then (judged_case_row w vs held t (view_case_row r)) (λ _. judged_cases w vs held t (case_rows (map view_case_row (drop (i + 1) rows))))
  unfolding judged judged_cases
  case-at r l is =
      ap (λ rs. judge_cases w vs held t (case_rows (map view_case_row rs))) (drop-at rows i r l is)
      ∙ in-three (from_seq (fit w [] (view_case_row r).0 t)) (λ xs. judge w (xs ++ vs) held (view_case_row r).1) (λ _. judge_cases w vs held t (case_rows (map view_case_row (drop (i + 1) rows))))

  pub case-end : length rows ≤ i → judged_cases w vs held t (case_rows (map view_case_row (drop i rows))) ≡ Is fine
  unfolding judged_cases
  case-end l = ap (λ rs. judge_cases w vs held t (case_rows (map view_case_row rs))) (drop_all i rows l)

module _ (w : World) (vs : Vars) (links : List b.Link) (held : Holding) (rows : List Part) (i : ℕ) where
  pub part-at : (r : Part) → i < length rows → r ≡ get_or rows i r
      → judged_parts w vs links held (part_list (map view_part (drop i rows)))
      ≡ and_then (judged_part w vs links held (view_part r)) (λ _. judged_parts w vs links held (part_list (map view_part (drop (i + 1) rows))))
  unfolding judged judged_parts
  part-at r l is = ap (λ rs. judge_parts w vs links held (part_list (map view_part rs))) (drop-at rows i r l is)

  pub part-end : length rows ≤ i → judged_parts w vs links held (part_list (map view_part (drop i rows))) ≡ Is fine
  unfolding judged_parts
  part-end l = ap (λ rs. judge_parts w vs links held (part_list (map view_part rs))) (drop_all i rows l)

-- Processes

pub judged-process : (w : World) (p : d.ProcessDecl) → judge_process w p ≡ and_then (headed p) (λ (s : State). judged w s.0 s.1 p.row.body)
unfolding judged
judged-process w p = judged-headed w p
