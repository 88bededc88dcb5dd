use Rattle.std.proofs.Common.{◌≡◌, drop, map}
use Rattle.campl_tree.specs.View.{view_decl}
use Rattle.campl_code_bodies.specs.BodyCode.{process_number}
use Rattle.campl_run.proofs.Counting.{behind_of}
use Rattle.campl_run.proofs.number.number_of.Given as goal

-- what is found behind is found behind so many numbers
abbrev pub invariant-loop-declaration : goal.invariant-loop-declaration
invariant-loop-declaration l =
    process_number (map view_decl l.declarations) l.name ≡ behind_of l.number (process_number (map view_decl (drop l.declaration-index l.declarations)) l.name)
