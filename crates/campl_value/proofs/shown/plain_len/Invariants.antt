use Rattle.std.proofs.Common.{◌≡◌, ◌+◌, drop}
use Rattle.std.specs.Prelude.{not}
use Rattle.std.specs.List.{prefix_len}
use Rattle.campl_value.specs.Shown.{has_escape}
use Rattle.campl_value.proofs.shown.plain_len.Given as goal

abbrev pub invariant-loop-i : goal.invariant-loop-i
invariant-loop-i l = l.i + prefix_len (λ b. not (has_escape b)) (drop l.i l.text) ≡ prefix_len (λ b. not (has_escape b)) l.text
