use Rattle.std.proofs.Common.{length, ◌-◌, ◌≤◌, take}
use Rattle.std.specs.Io.KnownBytes.{Appends}
use Rattle.campl_text.proofs.writing.write_all_of.Given as goal

-- what went out so far is the front of the bytes
abbrev pub invariant-loop-written : goal.invariant-loop-written
invariant-loop-written g l = record {
  within : l.written ≤ length l.bytes;
  front : Appends (g.O.Sink.written l.initial.sink) (g.O.Sink.written l.sink) (take l.written l.bytes);
  counts : g.O.Sink.faults l.initial.sink ≤ g.O.Sink.faults l.sink;
}

abbrev pub decreases-loop-written : goal.decreases-loop-written
decreases-loop-written g l = length l.bytes - l.written
