use Rattle.std.proofs.Common.{◌≡◌, length}
use Rattle.campl_gram.specs.Reading.{adds}
use Rattle.campl_grammar.specs.Rules.{read}
use Rattle.campl_grammar.specs.Names.{actions}
use Rattle.campl_parse.proofs.action.actions.Given as goal

abbrev pub invariant-actions : goal.invariant-actions
invariant-actions l = adds l.found (read actions l.depth l.cursor) ≡ read actions l.fn.depth l.fn.cursor

abbrev pub decreases-actions : goal.decreases-actions
decreases-actions l = length l.cursor
