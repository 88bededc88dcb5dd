-- Transcripts: what services write down.
use Rattle.std.specs.Prelude.{ℕ, List}
use Rattle.campl_service.specs.declared.record.Noted.{Noted}
use Rattle.campl_service.specs.declared.record.Noted.TheVariants as n

pub data Record : Type 0 where
  -- a text that was taken, by its characters
  Took : List ℕ → Record
  -- a line of the script that was sent
  Sent : List ℕ → Record
  Closed : Record

-- the oldest first
abbrev pub Records : Type 0
Records = List Record

-- what is noted
abbrev pub record_of : Noted → Record
record_of (n.Took text) = Took text
record_of (n.Sent line) = Sent line
record_of n.Closed = Closed
