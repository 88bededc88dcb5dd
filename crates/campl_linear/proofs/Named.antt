-- The names of rows and branches: the definitions of what is well formed have words of their own for them.
use Rattle.std.proofs.Common.{◌≡◌, refl, sym, true≢false, Bool, true, false, [], ◌∷◌, length}
use Rattle.campl_tree.specs.declared.place.Place.{Place}
use Rattle.campl_tree.specs.Plain.Process as b
use Rattle.campl_tree.specs.Plain.Process.{Body, HcaseRows, Branches}
use Rattle.campl_types.specs.Names.{Name, is_among, are_distinct}
use Rattle.campl_types.specs.World.{World}
use Rattle.campl_types.specs.Polarity.{Choices}
use Rattle.campl_types.specs.Fits.{Vars}
use Rattle.campl_types.specs.Held.{Held}
use Rattle.campl_types.specs.Linear.{HasEachOnce, has_row, IsWellFormed, BranchesAreWellFormed, between, most_branches}
use Rattle.campl_seqcheck.specs.Judged.{Fine, fine, Is}
use Rattle.campl_linear.specs.Rows.{row_names, branch_names, each_has_row, some_row}
use Rattle.campl_linear.specs.Channels.{Used}
use Rattle.campl_types.proofs.Truth.{and-first, and-second}

pub once-distinct : (rows : HcaseRows) (cs : Choices) → HasEachOnce rows cs → are_distinct (row_names rows) ≡ true
once-distinct rows cs h = h.0

pub each-has-row : (at : Place) (rows : HcaseRows) (cs : Choices) (f : Fine) → are_distinct (row_names rows) ≡ true → each_has_row at cs (row_names rows) ≡ Is f → HasEachOnce rows cs
each-has-row at rows [] f d i = (d, refl)
each-has-row at rows (c ∷ cs) f d i = go (is_among c.0 (row_names rows)) refl (each-has-row at rows cs f d)
  where
    go : (b : Bool) → is_among c.0 (row_names rows) ≡ b → (each_has_row at cs (row_names rows) ≡ Is f → HasEachOnce rows cs) → HasEachOnce rows (c ∷ cs)
    go true e later = let h = later (rw e at i) in (d, rw e h.1)
    go false e later = absurd (cc (rw e at i))

pub has-each-row : (at : Place) (rows : HcaseRows) (cs : Choices) → HasEachOnce rows cs → each_has_row at cs (row_names rows) ≡ Is fine
has-each-row at rows [] h = refl
has-each-row at rows (c ∷ cs) h =
    let e : is_among c.0 (row_names rows) ≡ true = and-first (is_among c.0 (row_names rows)) _ h.1 in
    rw e (has-each-row at rows cs (h.0, and-second (is_among c.0 (row_names rows)) _ h.1))

pub some-row : (at : Place) (x : Name) (u : Used Choices) (rows : HcaseRows) (f : Fine) → some_row at x u rows ≡ Is f → has_row rows ≡ true
some-row at x u b.no_hcase_rows f i = absurd (cc i)
some-row at x u (b.hcase_row_then k body rows) f i = refl

pub row-some : (at : Place) (x : Name) (u : Used Choices) (rows : HcaseRows) → has_row rows ≡ true → some_row at x u rows ≡ Is fine
row-some at x u b.no_hcase_rows i = absurd (true≢false (sym i))
row-some at x u (b.hcase_row_then k body rows) i = refl

pub race-count : (w : World) (vs : Vars) (held : Held) (at : Place) (rows : Branches) → IsWellFormed w vs held (b.Race at rows)
    → between 2 (length (branch_names rows)) most_branches × (are_distinct (branch_names rows) ≡ true) × BranchesAreWellFormed w vs held rows
race-count w vs held at rows d = d

pub count-race : (w : World) (vs : Vars) (held : Held) (at : Place) (rows : Branches)
    → between 2 (length (branch_names rows)) most_branches × (are_distinct (branch_names rows) ≡ true) × BranchesAreWellFormed w vs held rows → IsWellFormed w vs held (b.Race at rows)
count-race w vs held at rows d = d
