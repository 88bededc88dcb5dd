-- A text is accepted or has a first fault, and never both; and it has no other first fault.
use Rattle.std.proofs.Common.{◌≡◌, inl, inr, ℕ, List, ◌∷◌, Option, Some, sym, ◌∙◌, ap, ap₂, subst}
use Rattle.campl_tree.specs.declared.decl.Program.{Program}
use Rattle.campl_tree.specs.declared.place.Place.{Place}
use Rattle.campl_tree.specs.Plain.Decl as d
use Rattle.campl_tree.specs.View.{view_program}
use Rattle.campl_types.specs.declared.fault.NameFault.{NameFault}
use Rattle.campl_types.specs.Sequential.{FunctionsAreTyped}
use Rattle.campl_types.specs.WellDeclared.{name_faults, IsWellDeclared}
use Rattle.campl_types.specs.World.{world_of}
use Rattle.campl_seqcheck.specs.declared.fault.SeqFault.{SeqFault}
use Rattle.campl_seqcheck.specs.Functions.{judge_functions}
use Rattle.campl_seqcheck.specs.Judged.{Fine, fine, Judged, Is, Fails}
use Rattle.campl_seqcheck.proofs.AgreesFunctions.{functions-agree}
use Rattle.campl_linear.specs.Faults.{LinFault}
use Rattle.campl_linear.specs.Processes.{judge_processes}
use Rattle.campl_linear.proofs.Processed.{processes-agree}
use Rattle.campl_meaning.specs.Lawful.{IsAccepted}
use Rattle.campl_cli.specs.declared.fault.SourceFault.{SourceFault}
use Rattle.campl_cli.specs.declared.fault.FaultKind.TheVariants.{Text}
use Rattle.campl_cli.specs.declared.fault.Detail.TheVariants.{Nothing}
use Rattle.campl_cli.specs.declared.kind.TextKind.{TextKind}
use Rattle.campl_cli.specs.Source.{IsAcceptedText, IsSourceFault, IsToldOfFunctions, IsToldOfNames, IsToldOfProcesses, IsToldOfTree, told_of_names, told_of_functions, told_of_processes}
use Rattle.campl_cli.proofs.OneAnswer.{same_tree, tree_without_fault}
use Rattle.campl_cli.proofs.OneFault.{one_fault}

-- ---- phases that have a fault, and phases that have none

module _ (program : d.Program) where
  names_fail : (fault : NameFault) (more : List NameFault) → name_faults program ≡ fault ∷ more → IsWellDeclared program → ⊥
  names_fail fault more e names = let no : ⊥ = cc in no

  functions_fail : (fault : SeqFault) → judge_functions (world_of program) program ≡ Fails fault → IsWellDeclared program → FunctionsAreTyped (world_of program) program → ⊥
  functions_fail fault e names typed =
      let fits : judge_functions (world_of program) program ≡ Is fine = (functions-agree program names).1 typed in
      let no : ⊥ = cc in no

  no_fault_told : (f : SourceFault) → IsAccepted program → IsToldOfTree program f → ⊥
  no_fault_told f accepted (inl (fault, (more, e), told)) = names_fail fault more e accepted.typed.declared
  no_fault_told f accepted (inr (inl (names, (fault, e, told)))) = functions_fail fault e names accepted.typed.functions
  no_fault_told f accepted (inr (inr (names, typed, (fault, e, told)))) =
      let fits : judge_processes (world_of program) program ≡ Is fine = (processes-agree program names).1 (accepted.typed.processes, accepted.trees) in
      let no : ⊥ = cc in no

  -- ---- one fault

  same_names : (f g : SourceFault) → IsToldOfNames program f → IsToldOfNames program g → f ≡ g
  same_names f g (fault, (more, e), told) (other, (others, h), again) =
      let same : fault ≡ other = cc in
      let both : ◌≡◌ {A = Option SourceFault} (Some f) (Some g) = sym told ∙ ap told_of_names same ∙ again in
      cc

  same_functions : (f g : SourceFault) → IsToldOfFunctions program f → IsToldOfFunctions program g → f ≡ g
  same_functions f g (names, (fault, e, told)) (named, (other, h, again)) =
      let fails : ◌≡◌ {A = Judged SeqFault Fine} (Fails fault) (Fails other) = sym e ∙ h in
      let same : fault ≡ other = cc in
      let both : ◌≡◌ {A = Option SourceFault} (Some f) (Some g) = sym told ∙ ap told_of_functions same ∙ again in
      cc

  same_processes : (f g : SourceFault) → IsToldOfProcesses program f → IsToldOfProcesses program g → f ≡ g
  same_processes f g (names, typed, (fault, e, told)) (named, fit, (other, h, again)) =
      let fails : ◌≡◌ {A = Judged LinFault Fine} (Fails fault) (Fails other) = sym e ∙ h in
      let same : fault ≡ other = cc in
      let both : ◌≡◌ {A = Option SourceFault} (Some f) (Some g) = sym told ∙ ap told_of_processes same ∙ again in
      cc

  same_told : (f g : SourceFault) → IsToldOfTree program f → IsToldOfTree program g → f ≡ g
  same_told f g (inl h) (inl k) = same_names f g h k
  same_told f g (inl (fault, (more, e), told)) (inr (inl (names, k))) = absurd (names_fail fault more e names)
  same_told f g (inl (fault, (more, e), told)) (inr (inr (names, typed, k))) = absurd (names_fail fault more e names)
  same_told f g (inr (inl (names, h))) (inl (fault, (more, e), told)) = absurd (names_fail fault more e names)
  same_told f g (inr (inr (names, typed, h))) (inl (fault, (more, e), told)) = absurd (names_fail fault more e names)
  same_told f g (inr (inl h)) (inr (inl k)) = same_functions f g h k
  same_told f g (inr (inl (names, (fault, e, told)))) (inr (inr (named, typed, k))) = absurd (functions_fail fault e names typed)
  same_told f g (inr (inr (named, typed, k))) (inr (inl (names, (fault, e, told)))) = absurd (functions_fail fault e names typed)
  same_told f g (inr (inr h)) (inr (inr k)) = same_processes f g h k

-- ---- texts

abbrev told_at : TextKind → Place → SourceFault
told_at kind at = record { kind = Text kind; place = at; detail = Nothing }

pub accepted_without_fault : (text : List ℕ) (f : SourceFault) → IsAcceptedText text → IsSourceFault text f → ⊥
accepted_without_fault text f (program, (tree, accepted)) (inl (kind, is, wrong)) = tree_without_fault text program kind f.place tree wrong
accepted_without_fault text f (program, (tree, accepted)) (inr (other, has, told)) =
    let same : program ≡ other = same_tree text program other tree has in
    no_fault_told (view_program program) f accepted (subst (λ (p : Program). IsToldOfTree (view_program p) f) (sym same) told)

pub one_source_fault : (text : List ℕ) (f g : SourceFault) → IsSourceFault text f → IsSourceFault text g → f ≡ g
one_source_fault text f g (inl (kind, is, wrong)) (inl (other, also, wrongs)) =
    let one = one_fault text kind other f.place g.place wrong wrongs in
    is ∙ ap₂ told_at one.0 one.1 ∙ sym also
one_source_fault text f g (inl (kind, is, wrong)) (inr (program, tree, told)) = absurd (tree_without_fault text program kind f.place tree wrong)
one_source_fault text f g (inr (program, tree, told)) (inl (kind, is, wrong)) = absurd (tree_without_fault text program kind g.place tree wrong)
one_source_fault text f g (inr (program, tree, told)) (inr (other, has, again)) =
    let same : program ≡ other = same_tree text program other tree has in
    same_told (view_program program) f g told (subst (λ (p : Program). IsToldOfTree (view_program p) g) (sym same) again)
