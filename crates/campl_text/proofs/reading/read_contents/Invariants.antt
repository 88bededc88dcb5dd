use Rattle.std.proofs.Common.{◌≡◌, ℕ, ◌≤◌, ◌+◌, ◌-◌, List, IfSome, length, take, vec_len}
use Rattle.campl_text.specs.declared.reading.TheConstants.{PIECE_BYTES}
use Rattle.campl_text.proofs.reading.read_contents.Given as goal

-- what was read so far is the front of the contents, and the shelf holds what it held
abbrev pub invariant-loop-shelf : goal.invariant-loop-shelf
invariant-loop-shelf g l = record {
  room : length l.piece ≡ PIECE_BYTES;
  within : vec_len l.contents ≤ l.limit + PIECE_BYTES;
  front : IfSome (g.F.Shelf.holds l.initial.shelf l.name) (λ contents. l.contents.items ≡ take (vec_len l.contents) contents);
  holds_same : (other : List ℕ) → g.F.Shelf.holds l.shelf other ≡ g.F.Shelf.holds l.initial.shelf other;
  counts : (other : List ℕ) → g.F.Shelf.faults l.initial.shelf other ≤ g.F.Shelf.faults l.shelf other;
}

abbrev pub decreases-loop-shelf : goal.decreases-loop-shelf
decreases-loop-shelf g l = l.limit + 1 - vec_len l.contents
