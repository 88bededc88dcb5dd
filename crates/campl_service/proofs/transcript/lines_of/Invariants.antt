use Rattle.std.proofs.Common.{◌≡◌, ◌++◌, map}
use Rattle.campl_service.specs.Transcripts.{record_of}
use Rattle.campl_service.specs.Output.{transcript_lines}
use Rattle.campl_service.proofs.transcript.lines_of.Given as goal

-- the lines so far and those of what is left make all lines
abbrev pub invariant-loop-noted : goal.invariant-loop-noted
invariant-loop-noted l = l.lines.items ++ transcript_lines (map record_of l.noted-iterator) ≡ transcript_lines (map record_of l.records)
