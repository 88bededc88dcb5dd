-- A source that is judged to have no fault is accepted.
use Rattle.std.proofs.Common.{◌≡◌}
use Rattle.campl_tree.specs.Plain.Decl.{Program}
use Rattle.campl_types.specs.World.{world_of}
use Rattle.campl_types.specs.Typed.{IsTyped}
use Rattle.campl_types.specs.WellDeclared.{IsWellDeclared}
use Rattle.campl_seqcheck.specs.Judged.{fine, Is}
use Rattle.campl_seqcheck.specs.Functions.{judge_functions}
use Rattle.campl_peel.specs.Trees.{ProcessesHaveTrees}
use Rattle.campl_linear.specs.Processes.{judge_processes}
use Rattle.campl_linear.proofs.Processed.{sources-agree}
use Rattle.campl_meaning.specs.Lawful.{IsAccepted}

pub passed : (source : Program) → IsWellDeclared source → judge_functions (world_of source) source ≡ Is fine
    → judge_processes (world_of source) source ≡ Is fine → IsAccepted source
passed source declared functions processes =
    let h : IsTyped source × ProcessesHaveTrees source = (sources-agree source).0 (declared, functions, processes) in
    record { typed = h.0; trees = h.1 }

-- and one that is accepted is judged so
pub accepted-passes : (source : Program) → IsAccepted source → IsWellDeclared source × (judge_functions (world_of source) source ≡ Is fine) × (judge_processes (world_of source) source ≡ Is fine)
accepted-passes source a = (sources-agree source).1 (a.typed, a.trees)
