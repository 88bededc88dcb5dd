-- A process is judged as its heading and then its body.
use Rattle.std.proofs.Common.{◌≡◌, refl, length, []}
use Rattle.campl_tree.specs.Plain.Decl.{ProcessDecl}
use Rattle.campl_types.specs.Fits.{Vars}
use Rattle.campl_types.specs.Linear.{row_variables}
use Rattle.campl_types.specs.World.{World}
use Rattle.campl_seqcheck.specs.Judged.{Fine, fine, Judged, Is, Fails, and_then}
use Rattle.campl_seqcheck.specs.Fitting.{counted}
use Rattle.campl_linear.specs.Faults.{LinFault}
use Rattle.campl_linear.specs.Judged.{from_seq}
use Rattle.campl_linear.specs.Holding.{Holding}
use Rattle.campl_linear.specs.Calls.{as_many}
use Rattle.campl_linear.specs.Bodies.{judge}
use Rattle.campl_linear.specs.Processes.{idents_of, names_differ, row_holding, judge_process}
use Rattle.campl_calls.specs.Headings.{row_stands, headed}

four-steps : {A B : Type 0} (j k l m : Judged LinFault Fine) (s : A) (next : A → Judged LinFault B)
    → and_then j (λ _. and_then k (λ _. and_then l (λ _. and_then m (λ _. next s))))
    ≡ and_then (and_then (and_then j (λ _. and_then k (λ _. and_then l (λ _. m)))) (λ _. Is s)) next
four-steps (Fails fault) k l m s next = refl
four-steps (Is f) (Fails fault) l m s next = refl
four-steps (Is f) (Is g) (Fails fault) m s next = refl
four-steps (Is f) (Is g) (Is h) (Fails fault) s next = refl
four-steps (Is f) (Is g) (Is h) (Is e) s next = refl

-- a process's heading and its body
pub judged-headed : (w : World) (p : ProcessDecl) → judge_process w p ≡ and_then (headed p) (λ s. judge w s.0 s.1 p.row.body)
judged-headed w p =
    four-steps (names_differ [] (idents_of p.row)) (from_seq (counted p.row.place (length p.row.variables) (length p.parameters)))
    (as_many p.row.place (length p.row.inputs) (length p.inputs)) (as_many p.row.place (length p.row.outputs) (length p.outputs))
    (row_variables p.row.variables p.parameters, row_holding p) (λ (s : Vars × Holding). judge w s.0 s.1 p.row.body)

-- the names of a row that stands differ
pub stands-differ : (p : ProcessDecl) → row_stands p ≡ Is fine → names_differ [] (idents_of p.row) ≡ Is fine
stands-differ p i = go (names_differ [] (idents_of p.row)) refl i
  where
    go : (j : Judged LinFault Fine) → names_differ [] (idents_of p.row) ≡ j
        → and_then j (λ _. and_then (from_seq (counted p.row.place (length p.row.variables) (length p.parameters))) (λ _.
        and_then (as_many p.row.place (length p.row.inputs) (length p.inputs)) (λ _. as_many p.row.place (length p.row.outputs) (length p.outputs)))) ≡ Is fine
        → names_differ [] (idents_of p.row) ≡ Is fine
    go (Is fine) e k = e
    go (Fails fault) e k = absurd (let none : ⊥ = cc in none)
