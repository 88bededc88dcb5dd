use Rattle.std.proofs.Common.{◌≡◌, drop}
use Rattle.std.specs.Prelude.{not, ◌&&◌}
use Rattle.std.specs.List.{list_all}
use Rattle.campl_value.specs.Shown.{has_escape}
use Rattle.campl_value.proofs.shown.is_plain.Given as goal

abbrev pub invariant-loop-byte : goal.invariant-loop-byte
invariant-loop-byte l = (l.plain && list_all (λ b. not (has_escape b)) (drop l.byte-index l.text)) ≡ list_all (λ b. not (has_escape b)) l.text
