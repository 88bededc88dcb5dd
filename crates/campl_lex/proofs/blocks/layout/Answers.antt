use Rattle.campl_lex.proofs.Braces.{is_whole, is_short}
use Rattle.campl_lex.proofs.blocks.layout.Goals as goal

pub returns-clause-whole : goal.returns-clause-whole
returns-clause-whole c = is_whole c.args.text.now c.args.end c.args.tokens.now c.requires c.laid_out.result c.laid_out.ensures

pub returns-clause-short : goal.returns-clause-short
returns-clause-short c = is_short c.args.text.now c.args.end c.args.tokens.now c.requires c.laid_out.result c.laid_out.ensures
