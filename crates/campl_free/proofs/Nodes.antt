-- What is free in each command and each row.
use Rattle.std.proofs.Common.{◌≡◌, ◌∙◌, refl, sym, ap, subst, take, Bool, true, false, not, ◌&&◌, ◌||◌, List, [], ◌∷◌, Option, Some, None, Result, Ok, Err, OnOk, ℕ, ◌+◌, ◌<◌, length, drop, get_or, map}
use Rattle.std.proofs.Math.Path.{fun_ext}
use Rattle.campl_tree.specs.declared.place.Place.{Place}
use Rattle.campl_tree.specs.declared.place.Ident.{Ident}
use Rattle.campl_tree.specs.declared.name.Name as n
use Rattle.campl_tree.specs.declared.expr.Expr as ex
use Rattle.campl_tree.specs.declared.process.Link.{Link}
use Rattle.campl_tree.specs.declared.process.Body.{Body}
use Rattle.campl_tree.specs.declared.process.Body as code
use Rattle.campl_tree.specs.declared.process.Action as action
use Rattle.campl_tree.specs.declared.process.Last.{Last}
use Rattle.campl_tree.specs.declared.process.Last.TheVariants as last
use Rattle.campl_tree.specs.declared.process.HcaseRow.{HcaseRow}
use Rattle.campl_tree.specs.declared.process.Branch.{Branch}
use Rattle.campl_tree.specs.declared.process.CaseRow.{CaseRow}
use Rattle.campl_tree.specs.declared.process.Part.{Part}
use Rattle.campl_tree.specs.Plain.Process as b
use Rattle.campl_tree.specs.View.{view_action, view_link, view_last, view_body, view_branch, branches, view_case_row, case_rows, view_hcase_row, hcase_rows, view_part, parts, actions_then}
use Rattle.campl_tree.proofs.Views.{view_last-Halt, view_last-Hcase, view_last-Fork, view_last-Plug, view_last-Race, view_last-Case, view_last-Identity, view_last-Call, view_body-out, view_hcase_row-out, view_branch-out, view_case_row-out, view_part-out}
use Rattle.campl_types.specs.Names.{Name, same_name, is_among}
use Rattle.campl_types.specs.World.{names_of}
use Rattle.campl_types.specs.Headers.{link_names}
use Rattle.campl_types.specs.Free.{channel_of, channels_bound, is_free, is_free_in_rows, is_free_in_branches, is_free_in_cases, is_free_in_parts}
use Rattle.campl_types.proofs.Names.{or-assoc}
use Rattle.campl_names.specs.Scope.{with_names}
use Rattle.campl_names.proofs.Scopes.{kept-under}
use Rattle.campl_free.specs.Gathers.{Test, Gathers, GathersBehind, nothing, is_name, is_one_of, either_of, under, named_by, free_in, free_in_rows, free_in_branches, free_in_cases, free_in_parts, behind, inside}
use Rattle.campl_free.proofs.Gathered.{kept-inside, gathers-nothing, gathers-both, gathers-under, drop-at}

-- Last commands

free-of : (x y : b.Body) → x ≡ y → free_in x ≡ (λ n. is_free n y)
unfolding free_in
free-of x y i = ap (λ z. λ n. is_free n z) i

module _ (at : Place) where
  pub free-Halt : (x : Option Ident) → free_in (view_last (last.Halt at x)) ≡ named_by x
  unfolding nothing is_name
  free-Halt None = free-of _ _ (view_last-Halt at None)
  free-Halt (Some x) = free-of _ _ (view_last-Halt at (Some x))

  pub free-Hcase : (x : Ident) (rows : List HcaseRow) → free_in (view_last (last.Hcase at x rows)) ≡ either_of (is_name x.name) (free_in_rows (hcase_rows (map view_hcase_row rows)))
  unfolding either_of is_name free_in_rows
  free-Hcase x rows = free-of _ _ (view_last-Hcase at x rows)

  not-one : (a c : Bool) → (not a && c) ≡ (not (a || false) && c)
  not-one true c = refl
  not-one false c = refl

  pub free-Fork : (x : Ident) (r s : Branch) → free_in (view_last (last.Fork at x r s))
      ≡ either_of (is_name x.name) (either_of (under ((view_branch r).0.name ∷ []) (free_in (view_branch r).1)) (under ((view_branch s).0.name ∷ []) (free_in (view_branch s).1)))
  unfolding either_of is_name under free_in
  free-Fork x r s =
      free-of _ _ (view_last-Fork at x r s)
      ∙ fun_ext (λ n. ap (λ c. same_name n x.name || (c || (not (same_name n (view_branch s).0.name) && is_free n (view_branch s).1))) (not-one (same_name n (view_branch r).0.name) (is_free n (view_branch r).1))
      ∙ ap (λ c. same_name n x.name || ((not (same_name n (view_branch r).0.name || false) && is_free n (view_branch r).1) || c)) (not-one (same_name n (view_branch s).0.name) (is_free n (view_branch s).1)))

  pub free-Plug : (links : List Link) (all : List Part) → free_in (view_last (last.Plug at links all)) ≡ under (link_names (map view_link links)) (free_in_parts (parts (map view_part all)))
  unfolding under free_in_parts
  free-Plug links all = free-of _ _ (view_last-Plug at links all)

  pub free-Race : (rows : List Branch) → free_in (view_last (last.Race at rows)) ≡ free_in_branches (branches (map view_branch rows))
  unfolding free_in_branches
  free-Race rows = free-of _ _ (view_last-Race at rows)

  pub free-Case : (a : ex.Expr) (rows : List CaseRow) → free_in (view_last (last.Case at a rows)) ≡ free_in_cases (case_rows (map view_case_row rows))
  unfolding free_in_cases
  free-Case a rows = free-of _ _ (view_last-Case at a rows)

  pub free-Identity : (x : n.Name) (negated : Bool) (y : Ident) → free_in (view_last (last.Identity at x negated y)) ≡ either_of (is_name x) (is_name y.name)
  unfolding either_of is_name
  free-Identity x negated y = free-of _ _ (view_last-Identity at x negated y)

  pub free-Call : (x : n.Name) (args : List ex.Expr) (inputs outputs : List Ident) → free_in (view_last (last.Call at x args inputs outputs)) ≡ either_of (is_one_of (names_of inputs)) (is_one_of (names_of outputs))
  unfolding either_of is_one_of
  free-Call x args inputs outputs = free-of _ _ (view_last-Call at x args inputs outputs)

-- Bodies

free-step : (a : b.Action) (rest : b.Body) → free_in (b.Then a rest) ≡ either_of (is_name (channel_of a)) (under (channels_bound a) (free_in rest))
unfolding free_in either_of is_name under
free-step a rest = refl

free-then : (actions : List b.Action) (end : b.Body) → free_in (actions_then actions end) ≡ behind actions (free_in end)
free-then [] end = refl
free-then (a ∷ more) end = free-step a (actions_then more end) ∙ ap (λ f. either_of (is_name (channel_of a)) (under (channels_bound a) f)) (free-then more end)

pub free-body : (q : Body) → free_in (view_body q) ≡ behind (map view_action (code.out-Body q).actions) (free_in (view_last (code.out-Body q).last))
free-body q = ap free_in (view_body-out q) ∙ free-then (map view_action (code.out-Body q).actions) (view_last (code.out-Body q).last)

pub body-gathered : (q : Body) (actions : List action.Action) (bound inner old mid new : List Name) → actions ≡ (code.out-Body q).actions → GathersBehind bound (map view_action actions) old mid
    → inner ≡ inside bound (map view_action actions) → Gathers inner (free_in (view_last (code.out-Body q).last)) mid new → Gathers bound (free_in (view_body q)) old new
body-gathered q actions bound inner old mid new i g j a =
    subst (λ f. Gathers bound f old new) (ap (λ xs. behind (map view_action xs) (free_in (view_last (code.out-Body q).last))) i ∙ sym (free-body q))
    (g.told (free_in (view_last (code.out-Body q).last)) new (subst (λ b. Gathers b (free_in (view_last (code.out-Body q).last)) mid new) j a))

-- what was bound round a body stays
pub body-kept : (bound inner last : List Name) (actions : List b.Action) (m : ℕ) → inner ≡ inside bound actions → last ≡ inner → m ≡ length bound → take m last ≡ bound
body-kept bound inner last actions m i j k = rw (k, j, i) (kept-inside bound actions)

-- and behind a plug
pub plug-kept : (bound inner last xs : List Name) (m : ℕ) → inner ≡ with_names bound xs → last ≡ inner → m ≡ length bound → take m last ≡ bound
plug-kept bound inner last xs m i j k = rw (k, j, i) (kept-under bound xs)

-- a last command that names in two places
pub two-gathered : (x : Last) (bound : List Name) (f g : Test) (old mid new : List Name) → free_in (view_last x) ≡ either_of f g → Gathers bound f old mid → Gathers bound g mid new
    → Gathers bound (free_in (view_last x)) old new
two-gathered x bound f g old mid new i a b = subst (λ h. Gathers bound h old new) (sym i) (gathers-both bound f g old mid new a b)

pub ok-then : {A E P Q : Type 0} (r : Result A E) → OnOk r P → (P → Q) → OnOk r Q
ok-then (Ok x) p f = f p
ok-then (Err e) p f = p

-- Rows

pub row-at : (rows : List HcaseRow) (i : ℕ) (r : HcaseRow) → i < length rows → r ≡ get_or rows i r
    → free_in_rows (hcase_rows (map view_hcase_row (drop i rows))) ≡ either_of (free_in (view_hcase_row r).1) (free_in_rows (hcase_rows (map view_hcase_row (drop (i + 1) rows))))
unfolding free_in_rows either_of free_in
row-at rows i r l is = ap (λ rs. λ n. is_free_in_rows n (hcase_rows (map view_hcase_row rs))) (drop-at rows i r l is)

pub case-at : (rows : List CaseRow) (i : ℕ) (r : CaseRow) → i < length rows → r ≡ get_or rows i r
    → free_in_cases (case_rows (map view_case_row (drop i rows))) ≡ either_of (free_in (view_case_row r).1) (free_in_cases (case_rows (map view_case_row (drop (i + 1) rows))))
unfolding free_in_cases either_of free_in
case-at rows i r l is = ap (λ rs. λ n. is_free_in_cases n (case_rows (map view_case_row rs))) (drop-at rows i r l is)

pub branch-at : (rows : List Branch) (i : ℕ) (r : Branch) → i < length rows → r ≡ get_or rows i r
    → free_in_branches (branches (map view_branch (drop i rows))) ≡ either_of (either_of (is_name (view_branch r).0.name) (free_in (view_branch r).1)) (free_in_branches (branches (map view_branch (drop (i + 1) rows))))
unfolding free_in_branches either_of free_in is_name
branch-at rows i r l is =
    ap (λ rs. λ n. is_free_in_branches n (branches (map view_branch rs))) (drop-at rows i r l is)
    ∙ fun_ext (λ n. or-assoc (same_name n (view_branch r).0.name) (is_free n (view_branch r).1) (is_free_in_branches n (branches (map view_branch (drop (i + 1) rows)))))

pub part-at : (rows : List Part) (i : ℕ) (r : Part) → i < length rows → r ≡ get_or rows i r
    → free_in_parts (parts (map view_part (drop i rows)))
    ≡ either_of (either_of (is_one_of (names_of (view_part r).0.inputs)) (either_of (is_one_of (names_of (view_part r).0.outputs)) (free_in (view_part r).1))) (free_in_parts (parts (map view_part (drop (i + 1) rows))))
unfolding free_in_parts either_of free_in is_one_of
part-at rows i r l is =
    ap (λ rs. λ n. is_free_in_parts n (parts (map view_part rs))) (drop-at rows i r l is)
    ∙ fun_ext (λ n. go (is_among n (names_of (view_part r).0.inputs)) (is_among n (names_of (view_part r).0.outputs)) (is_free n (view_part r).1) (is_free_in_parts n (parts (map view_part (drop (i + 1) rows)))))
  where
    go : (x y z v : Bool) → (x || (y || (z || v))) ≡ ((x || (y || z)) || v)
    go true y z v = refl
    go false true z v = refl
    go false false z v = or-assoc false z v

module _ (bound found : List Name) where
  pub no-rows : Gathers bound (free_in_rows b.no_hcase_rows) found found
  unfolding free_in_rows nothing
  no-rows = gathers-nothing bound found

  pub no-cases : Gathers bound (free_in_cases b.no_case_rows) found found
  unfolding free_in_cases nothing
  no-cases = gathers-nothing bound found

  pub no-branches : Gathers bound (free_in_branches b.no_branches) found found
  unfolding free_in_branches nothing
  no-branches = gathers-nothing bound found

  pub no-parts : Gathers bound (free_in_parts b.no_parts) found found
  unfolding free_in_parts nothing
  no-parts = gathers-nothing bound found

pub ruleset lasts = (free-Halt, free-Hcase, free-Fork, free-Plug, free-Race, free-Case, free-Identity, free-Call, gathers-both)

pub ruleset rows = (view_hcase_row-out, view_branch-out, view_case_row-out, view_part-out, gathers-both, gathers-under)
