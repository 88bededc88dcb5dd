-- Trees that grow in a row of nodes, and what is still to be made of them.
use Rattle.std.specs.Prelude.{ℕ, ◌+◌, ◌*◌, List, [], ◌∷◌, drop, map, reverse}
use Rattle.campl_code.specs.Compiled as c
use Rattle.campl_code.specs.Compiled.{Asked, Flat, tree_of, weight}
use Rattle.campl_code.specs.Decisions.{Choice, Fail, Row, Test, Spot}
use Rattle.campl_instructions.specs.View.{root}
use Rattle.campl_instructions.specs.declared.decision.Node.{Node}
use Rattle.campl_match.specs.declared.grown.Grown.{Grown}
use Rattle.campl_match.specs.declared.task.Next.TheVariants as next
use Rattle.campl_match.specs.declared.task.Next.{Next}
use Rattle.campl_match.specs.declared.task.Task.TheVariants as task
use Rattle.campl_match.specs.declared.task.Task as declared
use Rattle.campl_match.specs.View.{view_asked, view_flat, view_rows}

-- the trees in nodes, newest first, each so many nodes long
abbrev pub trees_in : List Node → List ℕ → List Choice
trees_in nodes [] = []
trees_in nodes (n ∷ sizes) = root nodes ∷ trees_in (drop n nodes) sizes

abbrev pub trees : Grown → List Choice
trees g = trees_in (reverse g.nodes.items) (reverse g.sizes)

-- the newest tree's size, 0 where there is none
abbrev pub newest : List ℕ → ℕ
newest [] = 0
newest (n ∷ sizes) = n

-- the tree of rows
unfoldable pub tree : List Flat → Choice
tree rows = tree_of (weight rows) rows

-- what the first of some rows wants
pub data Asks : Type 0 where
  NoRow : Asks
  ARow : ℕ → List Spot → Asks
  ATest : Asked → Asks

abbrev pub row_asks : Flat → List Asked → Asks
row_asks r [] = ARow r.number r.spots
row_asks r (a ∷ tests) = ATest a

abbrev pub asks : List Flat → Asks
asks [] = NoRow
asks (r ∷ rows) = row_asks r r.tests

pub data Task : Type 0 where
  Rows : List Flat → Task
  Join : Asked → Task

-- the trees that are there when all is made
abbrev pub finish : List Task → List Choice → List Choice
finish [] cs = cs
finish (Rows rows ∷ tasks) cs = finish tasks (tree rows ∷ cs)
finish (Join a ∷ tasks) (fit ∷ other ∷ cs) = finish tasks (Test a.0 a.1 fit other ∷ cs)
finish (Join a ∷ tasks) (fit ∷ []) = []
finish (Join a ∷ tasks) [] = []

abbrev pub nodes_in : Choice → ℕ
nodes_in (Row n spots) = 1
nodes_in (Test s h fit other) = 1 + nodes_in fit + nodes_in other
nodes_in Fail = 1

-- how many tasks are done until all is made, at most
abbrev pub work : List Task → ℕ
work [] = 0
work (Rows rows ∷ tasks) = nodes_in (tree rows) * 2 + work tasks
work (Join a ∷ tasks) = 1 + work tasks

abbrev pub view_task : declared.Task → Task
view_task (task.Rows rows) = Rows (view_rows rows.items)
view_task (task.Join a) = Join (view_asked a.now)

-- the tasks, that which is done first before the others
abbrev pub seen : List declared.Task → List Task
seen tasks = map view_task (reverse tasks)

abbrev pub view_next : Next → Asks
view_next next.Fail = NoRow
view_next (next.Row r) = ARow r.now.number r.now.spots
view_next (next.Test a) = ATest (view_asked a.now)
