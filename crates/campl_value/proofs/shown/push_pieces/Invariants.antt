use Rattle.std.proofs.Common.{◌≡◌, ◌++◌, length}
use Rattle.std.specs.Prelude.{flat_map}
use Rattle.campl_value.specs.Shown.{shown_byte}
use Rattle.campl_value.proofs.shown.push_pieces.Given as goal

-- what is shown so far and what is left make the whole
abbrev pub invariant-pieces : goal.invariant-pieces
invariant-pieces l = l.output.items ++ flat_map shown_byte l.rest ≡ l.fn.output.items ++ flat_map shown_byte l.text

abbrev pub decreases-pieces : goal.decreases-pieces
decreases-pieces l = length l.rest
