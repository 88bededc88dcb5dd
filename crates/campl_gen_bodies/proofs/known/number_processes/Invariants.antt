use Rattle.std.proofs.Common.{◌≡◌, List, ℕ, drop, map}
use Rattle.campl_tree.specs.View.{view_decl}
use Rattle.campl_code_bodies.specs.BodyCode.{process_number}
use Rattle.campl_gen_bodies.specs.Known.{numbered_on}
use Rattle.campl_gen_bodies.proofs.known.number_processes.Given as goal

abbrev pub invariant-loop-i : goal.invariant-loop-i
invariant-loop-i l = (x : List ℕ) → numbered_on l.numbers.entries l.next (map view_decl (drop l.i l.declarations)) x ≡ process_number (map view_decl l.declarations) x
