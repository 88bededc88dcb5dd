use Rattle.std.proofs.Common.{◌∙◌, sym}
use Rattle.campl_held.specs.Chosen.{view_lines}
use Rattle.campl_rows.proofs.Covered.{line-went, line-found, lines-end}
use Rattle.campl_rows.proofs.hcase.first_missing.Goals as goal

pub loop-number-preserved : goal.loop-number-preserved
loop-number-preserved c = line-went (view_lines c.args.lines) c.args.names.now c.loop-number.number (rw c.len-number-end.ensures at c.loop-number-test.true) _ c.loop-number.invariant c.in-None.ensures

pub returns-in-Some : goal.returns-in-Some
returns-in-Some c = line-found (view_lines c.args.lines) c.args.names.now c.loop-number.number (rw c.len-number-end.ensures at c.loop-number-test.true) _ c.loop-number.invariant _ c.in-Some.ensures

pub returns : goal.returns
returns c = sym (lines-end (view_lines c.args.lines) c.args.names.now c.loop-number.number (rw c.len-number-end.ensures at c.loop-number-test.false)) ∙ c.loop-number.invariant
