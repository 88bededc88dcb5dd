-- In each process that is found by a name the parts of each plug form a tree.
use Rattle.std.proofs.Common.{◌≡◌, List, [], ◌∷◌, Some}
use Rattle.campl_tree.specs.Plain.Decl.{Decl, Data, Protocol, Coprotocol, Function, Process, Program, ProcessDecl}
use Rattle.campl_types.specs.Names.{Name}
use Rattle.campl_types.specs.World.{world_of, LowerEntry, AFunction, AProcess, process_named}
use Rattle.campl_types.proofs.Lowers.{OfEach, of-process}
use Rattle.campl_peel.specs.Trees.{PlugsAreTrees, ProcessesHaveTrees}

abbrev TreesOf : LowerEntry → Type 0
TreesOf (AFunction f) = Unit {0}
TreesOf (AProcess p) = PlugsAreTrees p.row.body

each-trees : (ds : List Decl) → ProcessesHaveTrees ds → OfEach TreesOf ds
each-trees [] h = tt
each-trees (Function f ∷ ds) (h, k) = (tt, each-trees ds k)
each-trees (Process p ∷ ds) (h, k) = (h, each-trees ds k)
each-trees (Data d ∷ ds) (h, k) = (tt, each-trees ds k)
each-trees (Protocol d ∷ ds) (h, k) = (tt, each-trees ds k)
each-trees (Coprotocol d ∷ ds) (h, k) = (tt, each-trees ds k)

pub found-trees : (source : Program) → ProcessesHaveTrees source → (x : Name) (p : ProcessDecl) → process_named (world_of source) x ≡ Some p → PlugsAreTrees p.row.body
found-trees source trees x p i = of-process TreesOf (world_of source) x p (tt, (tt, each-trees source trees)) i
