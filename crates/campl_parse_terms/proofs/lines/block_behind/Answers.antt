use Rattle.campl_parse_terms.specs.Lines.{in_block}
use Rattle.campl_parse_terms.proofs.LineSteps.{word_passed}
use Rattle.campl_parse_terms.proofs.lines.block_behind.Goals as goal

pub returns-in-Ok : goal.returns-in-Ok
returns-in-Ok g c one all are calls = word_passed c.args.kind (in_block all) c.args.depth c.args.cursor.now c.expect.new.self _ c.in-Ok.ensures.reads c.block.result c.block.new.cursor (c.block.ensures one all are calls)
