use Rattle.std.proofs.Common.{◌≡◌, ◌≤◌, length}
use Rattle.std.specs.Prelude.{string_bytes}
use Rattle.campl_service.specs.Reading.{lines_of}
use Rattle.campl_service.specs.Migration.{migrated_lines}
use Rattle.campl_service.specs.Writing.{put_behind_bytes}
use Rattle.campl_service.proofs.migration.migrate_lines.Given as goal

-- what is written and what is left make all, and lines are few
abbrev pub invariant-lines : goal.invariant-lines
invariant-lines l =
    (put_behind_bytes (string_bytes l.output) (migrated_lines l.version l.number (lines_of l.rest)) ≡ put_behind_bytes (string_bytes l.fn.output) (migrated_lines l.version l.first (lines_of l.characters)))
    × (l.number ≤ 100002)

abbrev pub decreases-lines : goal.decreases-lines
decreases-lines l = length l.rest
