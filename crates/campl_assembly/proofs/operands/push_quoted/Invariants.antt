use Rattle.std.proofs.Common.{◌≡◌, ◌++◌, drop}
use Rattle.std.specs.Prelude.{flat_map}
use Rattle.campl_code.specs.Listing.{quoted_character}
use Rattle.campl_assembly.proofs.operands.push_quoted.Given as goal

abbrev pub invariant-loop-c : goal.invariant-loop-c
invariant-loop-c l = l.page ++ flat_map quoted_character (drop l.c-index l.text) ≡ l.initial.page ++ flat_map quoted_character l.text
