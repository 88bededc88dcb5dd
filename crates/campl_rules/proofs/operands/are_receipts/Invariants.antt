use Rattle.std.proofs.Common.{◌≡◌, drop, map}
use Rattle.std.specs.Prelude.{slice_get}
use Rattle.campl_code.specs.Operands.{every, is_receipt}
use Rattle.campl_instructions.specs.View.{view_instr}
use Rattle.campl_rules.proofs.operands.are_receipts.Given as goal

abbrev pub invariant-loop-to : goal.invariant-loop-to
invariant-loop-to l =
    every (λ to. is_receipt (slice_get (map view_instr l.block) to)) (drop l.to-index l.places) ≡ every (λ to. is_receipt (slice_get (map view_instr l.block) to)) l.places
