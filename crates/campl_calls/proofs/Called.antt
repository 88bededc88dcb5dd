-- A call in turn: the number of its values, the values, and the channels.
use Rattle.std.proofs.Common.{◌≡◌, ◌∙◌, sym, ap, subst, List, length, map, Some, Result}
use Rattle.std.proofs.lemmas.List.{length-map}
use Rattle.campl_tree.specs.declared.place.Place.{Place}
use Rattle.campl_tree.specs.declared.place.Ident.{Ident}
use Rattle.campl_tree.specs.declared.decl.ProcessDecl as code
use Rattle.campl_tree.specs.declared.expr.Expr.{Expr}
use Rattle.campl_tree.specs.View.{view_seq, view_expr, exprs, view_process}
use Rattle.campl_types.specs.Fits.{Vars}
use Rattle.campl_types.specs.World.{World}
use Rattle.campl_seqcheck.specs.Answered.{StopsAt}
use Rattle.campl_seqcheck.specs.declared.fault.SeqFault.{SeqFault}
use Rattle.campl_seqcheck.specs.Fitting.{counted}
use Rattle.campl_seqcheck.specs.Judged.{Fine, fine, Judged, Is, and_then}
use Rattle.campl_seqcheck.proofs.Turns.{count-args}
use Rattle.campl_linear.specs.Faults as plain
use Rattle.campl_linear.specs.Judged.{from_seq}
use Rattle.campl_linear.specs.Holding.{Holding}
use Rattle.campl_linear.specs.Calls.{values_fit, called}
use Rattle.campl_held.specs.declared.fault.LinFault.{LinFault}
use Rattle.campl_held.specs.Answered.{Refused, Answers, from_fault}
use Rattle.campl_held.proofs.Told.{stopped, follows, from-seq}
use Rattle.campl_calls.specs.Handing.{all_handed}

passed : {A : Type 0} (first : Judged plain.LinFault Fine) (f : Fine) (next : Judged plain.LinFault A) → first ≡ Is f → and_then first (λ _. next) ≡ next
passed first f next i = ap (λ j. and_then j (λ _. next)) i

module _ (w : World) (vs : Vars) (held : Holding) (at : Place) (p : code.ProcessDecl) (values : List Expr) (inputs outputs : List Ident) where
  -- the judging of the call
  abbrev whole : Judged plain.LinFault Fine
  whole = called w vs held at (Some (view_process p)) (exprs (map view_expr values)) inputs outputs

  abbrev Counts : Judged plain.LinFault Fine
  Counts = from_seq (counted at (length values) (length p.parameters))

  abbrev Fit : Judged SeqFault Fine
  Fit = values_fit w vs (map view_seq p.parameters) (exprs (map view_expr values))

  abbrev Hands : Judged plain.LinFault Fine
  Hands = all_handed at (view_process p) inputs outputs held

  in-turn : whole ≡ and_then Counts (λ _. and_then (from_seq Fit) (λ _. Hands))
  in-turn =
      ap (λ n. and_then (from_seq (counted at n (length (map view_seq p.parameters)))) (λ _. and_then (from_seq Fit) (λ _. Hands))) (count-args values)
      ∙ ap (λ n. and_then (from_seq (counted at (length values) n)) (λ _. and_then (from_seq Fit) (λ _. Hands))) (length-map p.parameters view_seq)

  pub count-stops : (fault : LinFault) → Refused Counts fault → Refused whole fault
  count-stops fault a = subst (λ j. Refused j fault) (sym in-turn) (stopped Counts (λ _. and_then (from_seq Fit) (λ _. Hands)) fault a)

  pub values-stop : (f : Fine) (fault : SeqFault) (told : LinFault) → Counts ≡ Is f → StopsAt Fit fault → told ≡ from_fault fault → Refused whole told
  values-stop f fault told i a e =
      subst (λ j. Refused j told) (sym (in-turn ∙ passed Counts f (and_then (from_seq Fit) (λ _. Hands)) i))
      (subst (Refused (and_then (from_seq Fit) (λ _. Hands))) (sym e) (stopped (from_seq Fit) (λ _. Hands) (from_fault fault) (from-seq Fit fault a)))

  pub hands-on : (f g : Fine) (r : Result (Unit {0}) LinFault) → Counts ≡ Is f → Fit ≡ Is g → Answers (λ _. fine) Hands r → Answers (λ _. fine) whole r
  hands-on f g r i j a =
      follows (λ _. fine) whole Hands r (in-turn ∙ passed Counts f (and_then (from_seq Fit) (λ _. Hands)) i ∙ passed (from_seq Fit) g Hands (ap from_seq j)) a
