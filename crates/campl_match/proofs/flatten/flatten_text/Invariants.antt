use Rattle.std.proofs.Common.{◌≡◌, drop}
use Rattle.campl_match.specs.Flattened.{with_text}
use Rattle.campl_match.specs.View.{view_flat}
use Rattle.campl_match.proofs.flatten.flatten_text.Given as goal

abbrev pub invariant-loop-c : goal.invariant-loop-c
invariant-loop-c l = with_text l.rest (drop l.c-index l.text) (view_flat l.row) ≡ with_text l.spot l.text (view_flat l.initial.row)
