-- What commands look up in a body: rows, branches, the ends under names, and the values under binders.
use Rattle.std.specs.Prelude.{ℕ, zero, suc, Bool, true, ◌&&◌, List, [], ◌∷◌, ◌++◌, Option, Some, None, if◌then◌else◌, is_some}
use Rattle.campl_tree.specs.declared.place.Ident.{Ident}
use Rattle.campl_tree.specs.declared.process.Binder.{Binder}
use Rattle.campl_tree.specs.declared.process.Binder.TheVariants as binder
use Rattle.campl_tree.specs.Plain.Process as b
use Rattle.campl_tree.specs.Plain.Process.{Body, HcaseRows, CaseRows, Branches}
use Rattle.campl_value.specs.Tree.{Tree}
use Rattle.campl_types.specs.Names.{Name, same_name, found}
use Rattle.campl_types.specs.Matching.{Bindings}
use Rattle.campl_meaning.specs.States.{Ends}
use Rattle.campl_machine.specs.Names.{End}

-- Rows

-- the row of `case` at this place, from 0
abbrev pub row_at : CaseRows → ℕ → Option Body
row_at b.no_case_rows i = None
row_at (b.case_row_then p body rows) zero = Some body
row_at (b.case_row_then p body rows) (suc i) = row_at rows i

-- the branch of a race at this place, from 0
abbrev pub branch_at : Branches → ℕ → Option (Name × Body)
branch_at b.no_branches i = None
branch_at (b.branch_then x body rows) zero = Some (x.name, body)
branch_at (b.branch_then x body rows) (suc i) = branch_at rows i

-- Ends under names

abbrev pub without_end : Name → Ends → Ends
without_end x [] = []
without_end x (e ∷ es) = if same_name x e.0 then without_end x es else e ∷ without_end x es

-- each branch's channel is held
abbrev pub are_held : Branches → Ends → Bool
are_held b.no_branches es = true
are_held (b.branch_then x body rows) es = is_some (found x.name es) && are_held rows es

abbrev pub one_more : Name → Option End → Option Ends → Option Ends
one_more x (Some e) (Some es) = Some ((x, e) ∷ es)
one_more x (Some e) None = None
one_more x None more = None

-- the ends that are handed to a process, under the names of its row; none where one isn't held, or the numbers differ
abbrev pub handed : List Ident → List Ident → Ends → Option Ends
handed [] [] es = Some []
handed (y ∷ ys) (x ∷ xs) es = one_more y.name (found x.name es) (handed ys xs es)
handed [] (x ∷ xs) es = None
handed (y ∷ ys) [] es = None

abbrev pub both_ends : Option Ends → Option Ends → Option Ends
both_ends (Some es) (Some fs) = Some (es ++ fs)
both_ends (Some es) None = None
both_ends None more = None

-- Values under binders

abbrev pub bind : Binder → Tree → Bindings → Bindings
bind (binder.Variable at x) v vs = (x, v) ∷ vs
bind (binder.Wildcard at) v vs = vs

-- the newest first
abbrev pub bind_all : List Binder → List Tree → Bindings
bind_all [] vs = []
bind_all (x ∷ xs) [] = []
bind_all (x ∷ xs) (v ∷ vs) = bind_all xs vs ++ bind x v []
