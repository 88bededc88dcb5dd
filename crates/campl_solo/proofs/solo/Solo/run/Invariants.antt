use Rattle.std.proofs.Common.{◌≤◌, ◌-◌}
use Rattle.campl_tree.specs.Plain.Decl.{Program}
use Rattle.campl_meaning.specs.Reductions.{Configuration}
use Rattle.campl_cells.specs.Stands.{Naming}
use Rattle.campl_eval.specs.View.{code_of}
use Rattle.campl_parts.specs.Journal.{weight_of}
use Rattle.campl_solo.specs.Solos.{Grew, IsRun}
use Rattle.campl_solo.proofs.solo.Solo.run.Given as goal

abbrev pub invariant-loop-self : goal.invariant-loop-self
invariant-loop-self l = record {
  grew : (source : Program) (n : Naming) (c : Configuration) → IsRun source (code_of l.fn.program) n c l.fn.self → Grew source (code_of l.fn.program) n c l.fn.self l.self l.fn.journal.entries l.journal.entries;
  within : weight_of l.journal.entries ≤ l.fn.budget;
}

abbrev pub decreases-loop-self : goal.decreases-loop-self
decreases-loop-self l = l.fn.budget - weight_of l.journal.entries
