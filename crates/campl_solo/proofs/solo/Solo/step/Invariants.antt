use Rattle.std.specs.Prelude.{◌≡◌, ◌≤◌}
use Rattle.campl_tree.specs.Plain.Decl.{Program}
use Rattle.campl_meaning.specs.Reductions.{Configuration}
use Rattle.campl_cells.specs.Stands.{Naming}
use Rattle.campl_eval.specs.View.{code_of}
use Rattle.campl_solo.specs.Asking.{flags_up}
use Rattle.campl_solo.specs.Solos.{IsRun, Stays}
use Rattle.campl_solo.proofs.solo.Solo.step.Given as goal

abbrev pub invariant-loop-number : goal.invariant-loop-number
invariant-loop-number l = record {
  stays : (source : Program) (n : Naming) (c : Configuration) → IsRun source (code_of l.fn.program) n c l.fn.self → Stays source (code_of l.fn.program) n c l.fn.self l.self;
  entries : l.journal.entries ≡ l.fn.journal.entries;
  room : (1 ≤ l.journal.spare) × (1 ≤ l.journal.spare_full);
}

abbrev pub decreases-loop-number : goal.decreases-loop-number
decreases-loop-number l = flags_up l.self.schedule.board.flags.items
