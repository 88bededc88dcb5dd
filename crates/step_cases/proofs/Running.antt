-- A run goes on.
use Rattle.std.proofs.Common.{Bool, true, false, List, Result, Ok, Err}
use Rattle.std.specs.declared.alloc.AllocError.{AllocError}
use Rattle.campl_tree.specs.Plain.Decl.{Program as Source}
use Rattle.campl_meaning.specs.Reductions.{Configuration}
use Rattle.campl_cells.specs.Stands.{Naming, Wired}
use Rattle.campl_eval.specs.View.{code_of}
use Rattle.campl_parts.specs.declared.entry.Entry.{Entry}
use Rattle.campl_program.specs.declared.program.Program.{Program}
use Rattle.campl_solo.specs.declared.solo.Solo.{Solo}
use Rattle.campl_solo.specs.Solos.{Written}
use Rattle.campl_steps.specs.Configs.{parts}
use Rattle.step_cases.specs.Begun.{IsRunning}

-- whatever came of a step, it is somewhere in the run
pub goes-on : (program : Program) (source : Source) (n : Naming) (c : Configuration) (old new : Solo) (before after : List Entry) (result : Result Bool AllocError) →
    Written source (code_of program) n c old new before after result → IsRunning program new
goes-on program source n c old new before after (Ok true) s = (source, s.2.means.naming, s.2.means.next, s.2.run)
goes-on program source n c old new before after (Ok false) s = (source, n, c, s.1.run)
goes-on program source n c old new before after (Err error) s = (source, n, c, s.1.run)

-- the ends of its configuration are wired
pub is-wired : (program : Program) (solo : Solo) → IsRunning program solo → Wired (parts solo.config)
is-wired program solo (source, n, c, run) = run.represents.by_number.wired
