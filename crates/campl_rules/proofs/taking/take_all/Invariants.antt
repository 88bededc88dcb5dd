use Rattle.std.proofs.Common.{◌≡◌, ℕ, drop, map}
use Rattle.campl_instructions.specs.View.{view_instr}
use Rattle.campl_rules.specs.Found.{Covers, takes, ways_in}
use Rattle.campl_rules.proofs.Changing.{changed}
use Rattle.campl_rules.proofs.taking.take_all.Given as goal

abbrev pub invariant-loop-place : goal.invariant-loop-place
invariant-loop-place l =
    ((i : ℕ) → changed l.heights.items (ways_in (map view_instr l.block) (drop l.place-index l.places)) (takes l.given) i ≡ changed l.initial.heights.items (ways_in (map view_instr l.block) l.places) (takes l.given) i)
    × (Covers l.initial.next.items l.initial.heights.items → Covers l.next.items l.heights.items)
