use Rattle.std.proofs.Common.{◌≡◌, List, length}
use Rattle.campl_gram.specs.Reading.{Outcome, adds}
use Rattle.campl_grammar.specs.Terminal.{Terminal}
use Rattle.campl_parse_terms.specs.Lines.{AreLines, ReadsLine}
use Rattle.campl_parse_terms.proofs.lines.lines.Given as goal

abbrev pub invariant-lines : goal.invariant-lines
invariant-lines g l = record {
  callable : goal.F-IsAlwaysCallable g l.line;
  kept : (one : List Terminal → Outcome Terminal g.row.T.Denot) (all : List Terminal → Outcome Terminal (List g.row.T.Denot)) → AreLines l.depth one all → ReadsLine g.F.Fn l.line one → adds l.found (all l.cursor) ≡ all l.fn.cursor;
}

abbrev pub decreases-lines : goal.decreases-lines
decreases-lines g l = length l.cursor
