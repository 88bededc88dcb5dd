use Rattle.std.proofs.Common.{◌≡◌, length}
use Rattle.campl_grammar.specs.Names.{expr}
use Rattle.campl_grammar.specs.Rules.{read}
use Rattle.campl_parse_terms.specs.Expressions.{ends_cases}
use Rattle.campl_parse_terms.proofs.expr.cases.begin_cases.Given as goal

abbrev pub invariant-cases : goal.invariant-cases
invariant-cases l = ends_cases l.places l.depth (read expr l.depth l.cursor) ≡ read expr l.fn.depth l.fn.cursor

abbrev pub decreases-cases : goal.decreases-cases
decreases-cases l = length l.cursor
