use Rattle.std.proofs.Common.{◌≡◌, ◌≤◌, length}
use Rattle.campl_service.specs.Reading.{judged_lines, lines_of, place_of, with_lines}
use Rattle.campl_service.proofs.reading.read_lines.Given as goal

-- what is there and what is left make all, lines are few, and each channel has its script
abbrev pub invariant-lines : goal.invariant-lines
invariant-lines l =
    (with_lines l.scripts (judged_lines l.version (place_of l.names) l.number (lines_of l.rest)) ≡ with_lines l.fn.scripts (judged_lines l.version (place_of l.names) l.first (lines_of l.characters)))
    × (l.number ≤ 100002) × (length l.scripts ≡ length l.names)

abbrev pub decreases-lines : goal.decreases-lines
decreases-lines l = length l.rest
