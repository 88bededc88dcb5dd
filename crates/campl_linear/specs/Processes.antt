-- Processes judged in source order, each by its row: the names differ, there are as many as in the heading,
-- and then the body.
use Rattle.std.specs.Prelude.{List, [], ◌∷◌, ◌++◌, length, if◌then◌else◌}
use Rattle.campl_tree.specs.declared.place.Ident.{Ident}
use Rattle.campl_tree.specs.declared.process.Binder.{Binder}
use Rattle.campl_tree.specs.declared.process.Binder.TheVariants as binder
use Rattle.campl_tree.specs.declared.service.Side.{Side}
use Rattle.campl_tree.specs.declared.service.Side.TheVariants.{Input, Output}
use Rattle.campl_tree.specs.Plain.ChanType.{ChanType}
use Rattle.campl_tree.specs.Plain.Decl.{ProcessDecl, ProcessRow, Decl, Data, Protocol, Coprotocol, Function, Process}
use Rattle.campl_types.specs.Names.{Name, is_among}
use Rattle.campl_types.specs.World.{World}
use Rattle.campl_types.specs.Held.{On}
use Rattle.campl_types.specs.Linear.{row_variables}
use Rattle.campl_seqcheck.specs.declared.fault.SeqFault.TheVariants.{NameTwiceInPattern}
use Rattle.campl_seqcheck.specs.Judged.{Fine, fine, Judged, Is, Fails, and_then}
use Rattle.campl_linear.specs.Faults.{LinFault, Seq}
use Rattle.campl_linear.specs.Judged.{from_seq}
use Rattle.campl_linear.specs.Holding.{Holding}
use Rattle.campl_linear.specs.Calls.{as_many}
use Rattle.campl_linear.specs.Bodies.{judge}
use Rattle.campl_seqcheck.specs.Fitting.{counted}

-- the variables that are bound, with their places
abbrev pub variables_bound : List Binder → List Ident
variables_bound [] = []
variables_bound (binder.Variable at x ∷ bs) = record { place = at; name = x } ∷ variables_bound bs
variables_bound (binder.Wildcard at ∷ bs) = variables_bound bs

-- the names of a row
abbrev pub idents_of : ProcessRow → List Ident
idents_of row = variables_bound row.variables ++ row.inputs ++ row.outputs

-- no name stands a second time (E34)
abbrev pub names_differ : (before : List Name) → List Ident → Judged LinFault Fine
names_differ before [] = Is fine
names_differ before (x ∷ xs) =
    if is_among x.name before then Fails (Seq (NameTwiceInPattern x.place x.name)) else names_differ (x.name ∷ before) xs

abbrev pub entering : Side → List Ident → List ChanType → Holding
entering s [] ts = []
entering s (x ∷ xs) [] = []
entering s (x ∷ xs) (t ∷ ts) = (x.name, On s t) ∷ entering s xs ts

-- what a process holds at first: its inputs, then its outputs
abbrev pub row_holding : ProcessDecl → Holding
row_holding p = entering Input p.row.inputs p.inputs ++ entering Output p.row.outputs p.outputs

abbrev pub judge_process : World → ProcessDecl → Judged LinFault Fine
judge_process w p =
    and_then (names_differ [] (idents_of p.row)) (λ _.
    and_then (from_seq (counted p.row.place (length p.row.variables) (length p.parameters))) (λ _.
    and_then (as_many p.row.place (length p.row.inputs) (length p.inputs)) (λ _.
    and_then (as_many p.row.place (length p.row.outputs) (length p.outputs)) (λ _.
    judge w (row_variables p.row.variables p.parameters) (row_holding p) p.row.body))))

abbrev pub judge_decl : World → Decl → Judged LinFault Fine
judge_decl w (Process p) = judge_process w p
judge_decl w (Data d) = Is fine
judge_decl w (Protocol d) = Is fine
judge_decl w (Coprotocol d) = Is fine
judge_decl w (Function f) = Is fine

-- the processes among declarations
abbrev pub judge_processes : World → List Decl → Judged LinFault Fine
judge_processes w [] = Is fine
judge_processes w (d ∷ ds) = and_then (judge_decl w d) (λ _. judge_processes w ds)
