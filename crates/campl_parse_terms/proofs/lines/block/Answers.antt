use Rattle.std.proofs.Common.{add-one}
use Rattle.campl_parse_terms.proofs.LineSteps.{block_fails, block_open}
use Rattle.campl_parse_terms.proofs.lines.block.Goals as goal

pub returns-in-Err-lines : goal.returns-in-Err-lines
returns-in-Err-lines g c one all are calls =
    block_fails c.args.depth all c.args.cursor.now c.expect.new.self _ c.in-Ok.ensures.reads c.in-Err-lines.fault c.lines.new.cursor (c.in-Err-lines.ensures one all (rw add-one are) calls)

pub returns-in-Err-expect : goal.returns-in-Err-expect
returns-in-Err-expect g c one all are calls =
    block_open c.args.depth all c.args.cursor.now c.expect.new.self _ c.in-Ok.ensures.reads c.in-Ok-lines.found c.lines.new.cursor (c.in-Ok-lines.ensures one all (rw add-one are) calls)
    c.in-Err-expect.fault c.expect-2.new.self (rw (← add-one c.args.depth) c.in-Err-expect.ensures.reads)
