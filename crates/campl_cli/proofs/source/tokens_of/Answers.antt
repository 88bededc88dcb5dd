use Rattle.campl_cli.proofs.Phases.{lexing_refuses}
use Rattle.campl_cli.proofs.source.tokens_of.Goals as goal

pub returns-in-Err-clause-tokens : goal.returns-in-Err-clause-tokens
returns-in-Err-clause-tokens c = rw c.tree_fault.ensures (lexing_refuses c.args.text.now c.in-Err.fault c.in-Err.ensures.tells)
