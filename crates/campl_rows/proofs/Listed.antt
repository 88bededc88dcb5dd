-- Rows in order, with a set of the names that came before.
use Rattle.std.proofs.Common.{◌≡◌, ◌∙◌, refl, sym, ap, ◌||◌, not, ◌&&◌, if◌then◌else◌, List, [], ◌∷◌, Some, None, slice_get, ℕ, suc, ◌+◌, ◌<◌, ◌≤◌, length, drop, get_or, map}
use Rattle.std.proofs.lemmas.List.{drop_all}
use Rattle.campl_tree.specs.declared.place.Place.{Place}
use Rattle.campl_tree.specs.declared.process.HcaseRow.{HcaseRow}
use Rattle.campl_tree.specs.declared.process.Branch.{Branch}
use Rattle.campl_tree.specs.Plain.Process as b
use Rattle.campl_tree.specs.Plain.Process.{HcaseRows, Branches}
use Rattle.campl_tree.specs.View.{view_hcase_row, hcase_rows, view_branch, branches}
use Rattle.campl_tree.proofs.Views.{view_hcase_row-out, view_branch-out}
use Rattle.campl_types.specs.Names.{Name, same_name, is_among}
use Rattle.campl_types.specs.World.{World}
use Rattle.campl_types.specs.Polarity.{Choices}
use Rattle.campl_names.specs.NameSet.{with_name, HaveSame}
use Rattle.campl_free.proofs.Gathered.{among-with, drop-at}
use Rattle.campl_seqcheck.specs.Judged.{Fine, fine, Judged, Is, Fails, and_then}
use Rattle.campl_linear.specs.Faults.{LinFault, WrongAction, CaseTwice, RaceForm}
use Rattle.campl_linear.specs.Holding.{Holding}
use Rattle.campl_linear.specs.Channels.{held_at, Used}
use Rattle.campl_linear.specs.Rows.{row_names, row_type, rows_offered, some_row, branch_names, branches_begin, begins_with, deed_of}
use Rattle.campl_held.specs.declared.fault.LinFault.{LinFault as Code}
use Rattle.campl_held.specs.Answered.{Refused}
use Rattle.campl_held.proofs.Told.{refused}
use Rattle.campl_held.proofs.Turns.{loop-went, loop-stopped}
use Rattle.campl_rows.specs.Steps.{row_offered, branch_begins}
use mathlib.Core.Bool.{or-false, or_assoc, or_comm}

in-turn : {A B C : Type 0} (j : Judged LinFault A) (f : A → Judged LinFault B) (g : B → Judged LinFault C) → and_then j (λ x. and_then (f x) g) ≡ and_then (and_then j f) g
in-turn (Is x) f g = refl
in-turn (Fails fault) f g = refl

-- Names by their members

same-first : (y : Name) (xs ys : List Name) → HaveSame xs ys → HaveSame (y ∷ xs) (y ∷ ys)
same-first y xs ys h n = ap (λ b. same_name n y || b) (h n)

same-with : (y : Name) (xs : List Name) → HaveSame (with_name y xs) (y ∷ xs)
same-with y xs n = among-with n y xs

-- `hcase`

module _ (x : Name) (u : Used Choices) where
  rows-same : (rows : HcaseRows) (before names : List Name) → HaveSame before names → rows_offered x u before rows ≡ rows_offered x u names rows
  rows-same b.no_hcase_rows before names h = refl
  rows-same (b.hcase_row_then k body rows) before names h =
      ap (λ c. and_then (row_type k x u) (λ _. and_then (if c then Fails (CaseTwice k.place k.name) else Is fine) (λ _. rows_offered x u (k.name ∷ before) rows))) (h k.name)
      ∙ ap (λ r. and_then (row_type k x u) (λ _. and_then (if is_among k.name names then Fails (CaseTwice k.place k.name) else Is fine) (λ _. r)))
      (rows-same rows (k.name ∷ before) (k.name ∷ names) (same-first k.name before names h))

  module _ (rows : List HcaseRow) (i : ℕ) (r : HcaseRow) (l : i < length rows) (is : r ≡ get_or rows i r) where
    abbrev rest : HcaseRows
    rest = hcase_rows (map view_hcase_row (drop (i + 1) rows))

    row-at : (before : List Name)
        → rows_offered x u before (hcase_rows (map view_hcase_row (drop i rows))) ≡ and_then (row_offered x u before (view_hcase_row r).0) (λ _. rows_offered x u ((view_hcase_row r).0.name ∷ before) rest)
    row-at before =
        ap (λ rs. rows_offered x u before (hcase_rows (map view_hcase_row rs))) (drop-at rows i r l is)
        ∙ in-turn (row_type (view_hcase_row r).0 x u) (λ _. if is_among (view_hcase_row r).0.name before then Fails (CaseTwice (view_hcase_row r).0.place (view_hcase_row r).0.name) else Is fine) (λ _. rows_offered x u ((view_hcase_row r).0.name ∷ before) rest)

    -- the rows behind one that is offered
    pub row-went : (before new : List Name) (whole : Judged LinFault Fine) → row_offered x u before (view_hcase_row r).0 ≡ Is fine → new ≡ with_name (view_hcase_row r).0.name before
        → rows_offered x u before (hcase_rows (map view_hcase_row (drop i rows))) ≡ whole → rows_offered x u new rest ≡ whole
    row-went before new whole j e inv =
        ap (λ names. rows_offered x u names rest) e
        ∙ rows-same rest (with_name (view_hcase_row r).0.name before) ((view_hcase_row r).0.name ∷ before) (same-with (view_hcase_row r).0.name before)
        ∙ loop-went (rows_offered x u before (hcase_rows (map view_hcase_row (drop i rows)))) whole (row_offered x u before (view_hcase_row r).0) (λ _. rows_offered x u ((view_hcase_row r).0.name ∷ before) rest) fine j (row-at before) inv

    pub row-stopped : (before : List Name) (whole : Judged LinFault Fine) (fault : Code) → Refused (row_offered x u before (view_hcase_row r).0) fault
        → rows_offered x u before (hcase_rows (map view_hcase_row (drop i rows))) ≡ whole → Refused whole fault
    row-stopped before whole fault j inv =
        loop-stopped (rows_offered x u before (hcase_rows (map view_hcase_row (drop i rows)))) whole (row_offered x u before (view_hcase_row r).0) (λ _. rows_offered x u ((view_hcase_row r).0.name ∷ before) rest) fault j (row-at before) inv

  pub rows-end : (rows : List HcaseRow) (i : ℕ) (before : List Name) → length rows ≤ i → rows_offered x u before (hcase_rows (map view_hcase_row (drop i rows))) ≡ Is fine
  rows-end rows i before l = ap (λ rs. rows_offered x u before (hcase_rows (map view_hcase_row rs))) (drop_all i rows l)

-- the names of the rows so far, and of those that come
abbrev pub Together : List Name → HcaseRows → HcaseRows → Type 0
Together before rest rows = (n : Name) → (is_among n before || is_among n (row_names rest)) ≡ is_among n (row_names rows)

pub names-went : (rows : List HcaseRow) (i : ℕ) (r : HcaseRow) (before new : List Name) (whole : HcaseRows) → i < length rows → r ≡ get_or rows i r → new ≡ with_name (view_hcase_row r).0.name before
    → Together before (hcase_rows (map view_hcase_row (drop i rows))) whole → Together new (hcase_rows (map view_hcase_row (drop (i + 1) rows))) whole
names-went rows i r before new whole l is e inv n =
    ap (λ names. is_among n names || is_among n (row_names (hcase_rows (map view_hcase_row (drop (i + 1) rows))))) e
    ∙ ap (λ c. c || is_among n (row_names (hcase_rows (map view_hcase_row (drop (i + 1) rows))))) (among-with n (view_hcase_row r).0.name before)
    ∙ ap (λ c. c || is_among n (row_names (hcase_rows (map view_hcase_row (drop (i + 1) rows))))) (or_comm (same_name n (view_hcase_row r).0.name) (is_among n before))
    ∙ or_assoc (is_among n before) (same_name n (view_hcase_row r).0.name) (is_among n (row_names (hcase_rows (map view_hcase_row (drop (i + 1) rows)))))
    ∙ ap (λ rs. is_among n before || is_among n (row_names (hcase_rows (map view_hcase_row rs)))) (sym (drop-at rows i r l is))
    ∙ inv n

pub names-end : (rows : List HcaseRow) (i : ℕ) (before : List Name) (whole : HcaseRows) → length rows ≤ i → Together before (hcase_rows (map view_hcase_row (drop i rows))) whole → HaveSame before (row_names whole)
names-end rows i before whole l inv n = sym (or-false (is_among n before)) ∙ ap (λ rs. is_among n before || is_among n (row_names (hcase_rows (map view_hcase_row rs)))) (sym (drop_all i rows l)) ∙ inv n

-- `race`

module _ (w : World) (held : Holding) where
  branches-same : (rows : Branches) (before names : List Name) → HaveSame before names → branches_begin w held before rows ≡ branches_begin w held names rows
  branches-same b.no_branches before names h = refl
  branches-same (b.branch_then x body rows) before names h =
      ap (λ a. and_then (held_at x held) (λ c. and_then (if not a && begins_with (deed_of w c) x.name body then Is fine else Fails (RaceForm x.place)) (λ _. branches_begin w held (x.name ∷ before) rows))) (h x.name)
      ∙ ap (λ r. and_then (held_at x held) (λ c. and_then (if not (is_among x.name names) && begins_with (deed_of w c) x.name body then Is fine else Fails (RaceForm x.place)) (λ _. r)))
      (branches-same rows (x.name ∷ before) (x.name ∷ names) (same-first x.name before names h))

  module _ (rows : List Branch) (i : ℕ) (r : Branch) (l : i < length rows) (is : r ≡ get_or rows i r) where
    abbrev others : Branches
    others = branches (map view_branch (drop (i + 1) rows))

    branch-at : (before : List Name)
        → branches_begin w held before (branches (map view_branch (drop i rows))) ≡ and_then (branch_begins w held before (view_branch r)) (λ _. branches_begin w held ((view_branch r).0.name ∷ before) others)
    branch-at before =
        ap (λ rs. branches_begin w held before (branches (map view_branch rs))) (drop-at rows i r l is)
        ∙ in-turn (held_at (view_branch r).0 held) (λ c. if not (is_among (view_branch r).0.name before) && begins_with (deed_of w c) (view_branch r).0.name (view_branch r).1 then Is fine else Fails (RaceForm (view_branch r).0.place)) (λ _. branches_begin w held ((view_branch r).0.name ∷ before) others)

    -- the rows behind one that begins as it may
    pub branch-went : (before new : List Name) (whole : Judged LinFault Fine) → branch_begins w held before (view_branch r) ≡ Is fine → new ≡ with_name (view_branch r).0.name before
        → branches_begin w held before (branches (map view_branch (drop i rows))) ≡ whole → branches_begin w held new others ≡ whole
    branch-went before new whole j e inv =
        ap (λ names. branches_begin w held names others) e
        ∙ branches-same others (with_name (view_branch r).0.name before) ((view_branch r).0.name ∷ before) (same-with (view_branch r).0.name before)
        ∙ loop-went (branches_begin w held before (branches (map view_branch (drop i rows)))) whole (branch_begins w held before (view_branch r)) (λ _. branches_begin w held ((view_branch r).0.name ∷ before) others) fine j (branch-at before) inv

    pub branch-stopped : (before : List Name) (whole : Judged LinFault Fine) (fault : Code) → Refused (branch_begins w held before (view_branch r)) fault
        → branches_begin w held before (branches (map view_branch (drop i rows))) ≡ whole → Refused whole fault
    branch-stopped before whole fault j inv =
        loop-stopped (branches_begin w held before (branches (map view_branch (drop i rows)))) whole (branch_begins w held before (view_branch r)) (λ _. branches_begin w held ((view_branch r).0.name ∷ before) others) fault j (branch-at before) inv

  pub branches-end : (rows : List Branch) (i : ℕ) (before : List Name) → length rows ≤ i → branches_begin w held before (branches (map view_branch (drop i rows))) ≡ Is fine
  branches-end rows i before l = ap (λ rs. branches_begin w held before (branches (map view_branch rs))) (drop_all i rows l)

pub branches-counted : (rows : List Branch) → length (branch_names (branches (map view_branch rows))) ≡ length rows
branches-counted [] = refl
branches-counted (r ∷ rows) = ap suc (branches-counted rows)

-- a row at all
pub no-row : (at : Place) (x : Name) (u : Used Choices) (rows : List HcaseRow) → None ≡ slice_get rows 0 → some_row at x u (hcase_rows (map view_hcase_row rows)) ≡ Fails (WrongAction at x u.held_type u.side)
no-row at x u [] i = refl
no-row at x u (r ∷ rows) i = absurd (let none : ⊥ = cc in none)

pub one-row : (at : Place) (x : Name) (u : Used Choices) (rows : List HcaseRow) (r : HcaseRow) → Some r ≡ slice_get rows 0 → some_row at x u (hcase_rows (map view_hcase_row rows)) ≡ Is fine
one-row at x u [] r i = absurd (let none : ⊥ = cc in none)
one-row at x u (y ∷ rows) r i = refl

pub ruleset hcase_row = (view_hcase_row-out)

pub ruleset branch = (view_branch-out)

pub ruleset first = (refused)

pub ruleset some = (refused, no-row, one-row)

pub ruleset counted = (branches-counted)
