-- Ill-typed sources: all is well with their names, there is no derivation of their typing, and this is what
-- judging their functions answers: the first fault, or that they are fine, where the fault is one of processes.
use Rattle.std.specs.Prelude.{◌≡◌}
use Rattle.campl_tree.specs.Plain.Decl.{Program}
use Rattle.campl_types.specs.World.{world_of}
use Rattle.campl_types.specs.WellDeclared.{IsWellDeclared}
use Rattle.campl_types.specs.Typed.{IsTyped}
use Rattle.campl_seqcheck.specs.declared.fault.SeqFault.{SeqFault}
use Rattle.campl_seqcheck.specs.Judged.{Judged, Fine}
use Rattle.campl_seqcheck.specs.Functions.{judge_functions}

abbrev pub IsIllTyped : Program → Judged SeqFault Fine → Type 0
IsIllTyped source judged = IsWellDeclared source × (IsTyped source → ⊥) × (judge_functions (world_of source) source ≡ judged)
