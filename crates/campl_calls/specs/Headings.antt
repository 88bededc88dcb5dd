-- A process's heading: what its body begins with, where its row stands.
use Rattle.std.specs.Prelude.{List, [], ◌∷◌, length, map, if◌then◌else◌}
use Rattle.campl_tree.specs.declared.place.Ident.{Ident}
use Rattle.campl_tree.specs.declared.process.Binder.{Binder}
use Rattle.campl_tree.specs.declared.process.Binder.TheVariants as binder
use Rattle.campl_tree.specs.Plain.Decl.{ProcessDecl, ProcessRow}
use Rattle.campl_types.specs.Names.{Name, is_among}
use Rattle.campl_types.specs.Fits.{Vars}
use Rattle.campl_types.specs.Linear.{row_variables}
use Rattle.campl_names.specs.NameSet.{with_name}
use Rattle.campl_seqcheck.specs.declared.fault.SeqFault.TheVariants.{NameTwiceInPattern}
use Rattle.campl_seqcheck.specs.Judged.{Fine, Judged, Is, Fails, and_then}
use Rattle.campl_seqcheck.specs.Fitting.{counted}
use Rattle.campl_linear.specs.Faults.{LinFault, Seq}
use Rattle.campl_linear.specs.Judged.{from_seq}
use Rattle.campl_linear.specs.Holding.{Holding}
use Rattle.campl_linear.specs.Calls.{as_many}
use Rattle.campl_linear.specs.Processes.{variables_bound, idents_of, names_differ, row_holding}

-- the names differ (E34), and there are as many as are declared: variables (E33), inputs and outputs (E50)
abbrev pub row_stands : ProcessDecl → Judged LinFault Fine
row_stands p =
    and_then (names_differ [] (idents_of p.row)) (λ _.
    and_then (from_seq (counted p.row.place (length p.row.variables) (length p.parameters))) (λ _.
    and_then (as_many p.row.place (length p.row.inputs) (length p.inputs)) (λ _.
    as_many p.row.place (length p.row.outputs) (length p.outputs))))

-- the variables and the channels with which the body begins
abbrev pub headed : ProcessDecl → Judged LinFault (Vars × Holding)
headed p = and_then (row_stands p) (λ _. Is (row_variables p.row.variables p.parameters, row_holding p))

-- Names noted in turn

-- one more, where it isn't noted yet
abbrev pub noted_one : List Name → Ident → Judged LinFault (List Name)
noted_one names x = if is_among x.name names then Fails (Seq (NameTwiceInPattern x.place x.name)) else Is (with_name x.name names)

abbrev pub noted : List Name → List Ident → Judged LinFault (List Name)
noted names [] = Is names
noted names (x ∷ xs) = and_then (noted_one names x) (λ more. noted more xs)

-- a variable that is bound, and nothing at `_`
abbrev pub noted_binder : List Name → Binder → Judged LinFault (List Name)
noted_binder names (binder.Variable at x) = noted_one names (record { place = at; name = x })
noted_binder names (binder.Wildcard at) = Is names

-- those of a row, with the names that were noted before
abbrev pub noted_row : List Name → ProcessRow → Judged LinFault (List Name)
noted_row names row =
    and_then (noted names (variables_bound row.variables)) (λ more. and_then (noted more row.inputs) (λ others. noted others row.outputs))

-- the names of channels
abbrev pub held_names : Holding → List Name
held_names = map (λ e. e.0)
