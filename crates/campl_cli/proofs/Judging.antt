-- A program that is refused for its names, functions or processes has that fault.
use Rattle.std.proofs.Common.{◌≡◌, ◌⊎◌, inl, inr, refl, subst, ℕ, List, Option, Some, None, Result, Ok, Err, MatchResult}
use Rattle.campl_tree.specs.declared.decl.Program.{Program}
use Rattle.campl_tree.specs.Plain.Decl as d
use Rattle.campl_tree.specs.View.{view_program}
use Rattle.campl_types.specs.Sequential.{FunctionsAreTyped}
use Rattle.campl_types.specs.WellDeclared.{IsWellDeclared}
use Rattle.campl_types.specs.World.{world_of}
use Rattle.campl_types.specs.Linear.{ProcessesAreTyped}
use Rattle.campl_peel.specs.Trees.{ProcessesHaveTrees}
use Rattle.campl_meaning.specs.Lawful.{IsAccepted}
use Rattle.campl_seqcheck.specs.declared.fault.SeqFault.{SeqFault}
use Rattle.campl_seqcheck.specs.declared.fault.SeqFault.TheVariants as typing
use Rattle.campl_seqcheck.specs.Functions.{judge_functions}
use Rattle.campl_seqcheck.specs.Judged.{Fails}
use Rattle.campl_linear.specs.Faults.{LinFault}
use Rattle.campl_linear.specs.Faults as linear
use Rattle.campl_linear.specs.Processes.{judge_processes}
use Rattle.campl_held.specs.declared.fault.LinFault as held
use Rattle.campl_held.specs.declared.fault.LinFault.TheVariants as lin
use Rattle.campl_held.specs.Answered.{view_fault}
use Rattle.campl_cli.specs.declared.fault.SourceFault.{SourceFault}
use Rattle.campl_cli.specs.declared.refusal.Refusal.{Refusal}
use Rattle.campl_cli.specs.declared.refusal.Refusal.TheVariants.{BadCommandLine, ReadFault, TooLong, NotUtf8, Source, Script, OutOfMemory}
use Rattle.campl_cli.specs.declared.source.TreeFault.{TreeFault}
use Rattle.campl_cli.specs.declared.source.TreeFault.TheVariants as tree
use Rattle.campl_cli.specs.Source.{HasTree, IsOrStarves, IsRefusedFor, IsSourceFault, IsToldOfFunctions, IsToldOfNames, IsToldOfProcesses, IsToldOfTree, IsTreeRefusal, refusal_of_processes, refusal_of_text, refusal_of_typing, told_of_processes}

-- what is told of functions is their first fault
pub typing_refuses : (program : d.Program) (fault : SeqFault) → IsWellDeclared program → (judge_functions (world_of program) program ≡ Fails fault) ⊎ (fault ≡ typing.OutOfMemory)
    → IsRefusedFor (IsToldOfFunctions program) (refusal_of_typing fault)
typing_refuses program (typing.TypeDiffers at found wanted) names (inl e) = (names, (typing.TypeDiffers at found wanted, e, refl))
typing_refuses program (typing.NeedsType at) names (inl e) = (names, (typing.NeedsType at, e, refl))
typing_refuses program (typing.NotExhaustive at missing) names (inl e) = (names, (typing.NotExhaustive at missing, e, refl))
typing_refuses program (typing.ArgumentCount at found wanted) names (inl e) = (names, (typing.ArgumentCount at found wanted, e, refl))
typing_refuses program (typing.NameTwiceInPattern at x) names (inl e) = (names, (typing.NameTwiceInPattern at x, e, refl))
typing_refuses program typing.OutOfMemory names told = tt
typing_refuses program (typing.TypeDiffers at found wanted) names (inr e) = absurd (cc e)
typing_refuses program (typing.NeedsType at) names (inr e) = absurd (cc e)
typing_refuses program (typing.NotExhaustive at missing) names (inr e) = absurd (cc e)
typing_refuses program (typing.ArgumentCount at found wanted) names (inr e) = absurd (cc e)
typing_refuses program (typing.NameTwiceInPattern at x) names (inr e) = absurd (cc e)

-- names that have a fault
pub names_refuse : (program : d.Program) (refusal : Refusal) → IsRefusedFor (IsToldOfNames program) refusal → IsRefusedFor (IsToldOfTree program) refusal
names_refuse program (Source f) h = inl h
names_refuse program OutOfMemory h = tt
names_refuse program BadCommandLine h = h
names_refuse program TooLong h = h
names_refuse program (NotUtf8 at) h = h
names_refuse program (Script why) h = h
names_refuse program ReadFault h = h

-- functions that have one
pub functions_refuse : (program : d.Program) (refusal : Refusal) → IsRefusedFor (IsToldOfFunctions program) refusal → IsRefusedFor (IsToldOfTree program) refusal
functions_refuse program (Source f) h = inr (inl h)
functions_refuse program OutOfMemory h = tt
functions_refuse program BadCommandLine h = h
functions_refuse program TooLong h = h
functions_refuse program (NotUtf8 at) h = h
functions_refuse program (Script why) h = h
functions_refuse program ReadFault h = h

processes_refuse : (program : d.Program) (refusal : Refusal) → IsRefusedFor (IsToldOfProcesses program) refusal → IsRefusedFor (IsToldOfTree program) refusal
processes_refuse program (Source f) h = inr (inr h)
processes_refuse program OutOfMemory h = tt
processes_refuse program BadCommandLine h = h
processes_refuse program TooLong h = h
processes_refuse program (NotUtf8 at) h = h
processes_refuse program (Script why) h = h
processes_refuse program ReadFault h = h

-- names and functions that have none, and then processes
pub processes_judged : {A : Type 0} (program : d.Program) (r : Result A Refusal) → IsWellDeclared program → FunctionsAreTyped (world_of program) program
    → MatchResult r (λ _. ProcessesAreTyped (world_of program) program × ProcessesHaveTrees program) (IsRefusedFor (IsToldOfProcesses program))
    → MatchResult r (λ _. IsAccepted program) (IsRefusedFor (IsToldOfTree program))
processes_judged program (Ok x) names typed h = record { typed = record { declared = names; functions = typed; processes = h.0 }; trees = h.1 }
processes_judged program (Err refusal) names typed h = processes_refuse program refusal h

-- what is told of processes is their first fault
fault_refuses : (program : d.Program) (fault : LinFault) (refusal : Refusal) → IsWellDeclared program → FunctionsAreTyped (world_of program) program
    → judge_processes (world_of program) program ≡ Fails fault → IsOrStarves (refusal_of_processes fault) refusal → IsRefusedFor (IsToldOfProcesses program) refusal
fault_refuses program fault refusal names typed fails (inr starves) = rw starves tt
fault_refuses program fault refusal names typed fails (inl told) = go (told_of_processes fault) refl
  where
    go : (o : Option SourceFault) → told_of_processes fault ≡ o → IsRefusedFor (IsToldOfProcesses program) refusal
    go (Some f) e = rw (told, e) (names, typed, (fault, fails, e))
    go None e = rw (told, e) tt

starved : (program : d.Program) (refusal : Refusal) → IsOrStarves (refusal_of_processes linear.OutOfMemory) refusal → IsRefusedFor (IsToldOfProcesses program) refusal
starved program refusal (inl e) = rw e tt
starved program refusal (inr e) = rw e tt

pub linear_refuses : (program : d.Program) (fault : held.LinFault) (refusal : Refusal) → IsWellDeclared program → FunctionsAreTyped (world_of program) program
    → (judge_processes (world_of program) program ≡ Fails (view_fault fault)) ⊎ (fault ≡ lin.OutOfMemory) → IsOrStarves (refusal_of_processes (view_fault fault)) refusal
    → IsRefusedFor (IsToldOfProcesses program) refusal
linear_refuses program fault refusal names typed (inl fails) told = fault_refuses program (view_fault fault) refusal names typed fails told
linear_refuses program fault refusal names typed (inr e) told = starved program refusal (subst (λ x. IsOrStarves (refusal_of_processes (view_fault x)) refusal) e told)

-- a text that has no tree
pub no_tree : (text : List ℕ) (fault : TreeFault) → IsTreeRefusal text fault → IsRefusedFor (IsSourceFault text) (refusal_of_text fault)
no_tree text (tree.Wrong kind at) h = inl (kind, refl, h)
no_tree text tree.OutOfMemory h = tt

-- a text whose tree has a fault
pub text_refused : (text : List ℕ) (program : Program) (refusal : Refusal) → HasTree text program → IsRefusedFor (IsToldOfTree (view_program program)) refusal
    → IsRefusedFor (IsSourceFault text) refusal
text_refused text program (Source f) tree h = inr (program, tree, h)
text_refused text program OutOfMemory tree h = tt
text_refused text program BadCommandLine tree h = h
text_refused text program TooLong tree h = h
text_refused text program (NotUtf8 at) tree h = h
text_refused text program (Script why) tree h = h
text_refused text program ReadFault tree h = h
