use Rattle.std.proofs.Common.{◌≡◌, ◌+◌, ◌-◌, ◌*◌, length, Ok}
use Rattle.campl_parse_terms.specs.Expressions.{ends_cases}
use Rattle.campl_parse_terms.proofs.expr.+expr.Given as goal

abbrev pub decreases-erows : goal.decreases-erows
decreases-erows l = (201 - l.depth) * 16 + 1

abbrev pub decreases-erows-block_behind : goal.decreases-erows-block_behind
decreases-erows-block_behind l = (201 - l.depth) * 16

abbrev pub decreases-erow : goal.decreases-erow
decreases-erow l = (201 - l.depth) * 16 + 13

abbrev pub decreases-some_exprs : goal.decreases-some_exprs
decreases-some_exprs l = (201 - l.depth) * 16 + 14

abbrev pub decreases-exprs : goal.decreases-exprs
decreases-exprs l = (201 - l.depth) * 16 + 13

abbrev pub decreases-boxed_expr : goal.decreases-boxed_expr
decreases-boxed_expr l = (201 - l.depth) * 16 + 13

abbrev pub decreases-expr : goal.decreases-expr
decreases-expr l = (201 - l.depth) * 16 + 12

abbrev pub decreases-without_case : goal.decreases-without_case
decreases-without_case l = (201 - l.depth) * 16 + 11

abbrev pub decreases-end_cases : goal.decreases-end_cases
decreases-end_cases l = (201 - l.depth) * 16 + 11

abbrev pub decreases-end_case : goal.decreases-end_case
decreases-end_case l = (201 - l.depth) * 16 + 10

abbrev pub decreases-if_expr : goal.decreases-if_expr
decreases-if_expr l = (201 - l.depth) * 16 + 10

abbrev pub decreases-binary::disjunction : goal.decreases-binary::disjunction
decreases-binary::disjunction l = (201 - l.depth) * 16 + 10

abbrev pub decreases-binary::conjunction : goal.decreases-binary::conjunction
decreases-binary::conjunction l = (201 - l.depth) * 16 + 9

abbrev pub decreases-binary::cmp : goal.decreases-binary::cmp
decreases-binary::cmp l = (201 - l.depth) * 16 + 8

abbrev pub decreases-binary::joined : goal.decreases-binary::joined
decreases-binary::joined l = (201 - l.depth) * 16 + 7

abbrev pub decreases-binary::cons : goal.decreases-binary::cons
decreases-binary::cons l = (201 - l.depth) * 16 + 6

abbrev pub decreases-binary::append : goal.decreases-binary::append
decreases-binary::append l = (201 - l.depth) * 16 + 6

abbrev pub decreases-binary::sum : goal.decreases-binary::sum
decreases-binary::sum l = (201 - l.depth) * 16 + 6

abbrev pub decreases-binary::terms : goal.decreases-binary::terms
decreases-binary::terms l = (201 - l.depth) * 16 + 5

abbrev pub decreases-binary::prod : goal.decreases-binary::prod
decreases-binary::prod l = (201 - l.depth) * 16 + 5

abbrev pub decreases-binary::factors : goal.decreases-binary::factors
decreases-binary::factors l = (201 - l.depth) * 16 + 4

abbrev pub decreases-binary::unary : goal.decreases-binary::unary
decreases-binary::unary l = (201 - l.depth) * 16 + 4

abbrev pub decreases-atoms::atom : goal.decreases-atoms::atom
decreases-atoms::atom l = (201 - l.depth) * 16 + 3

abbrev pub decreases-atoms::variable : goal.decreases-atoms::variable
decreases-atoms::variable l = (201 - l.depth) * 16 + 2

abbrev pub decreases-atoms::code : goal.decreases-atoms::code
decreases-atoms::code l = (201 - l.depth) * 16 + 2

abbrev pub decreases-atoms::character : goal.decreases-atoms::character
decreases-atoms::character l = (201 - l.depth) * 16 + 2

abbrev pub decreases-atoms::constructor : goal.decreases-atoms::constructor
decreases-atoms::constructor l = (201 - l.depth) * 16 + 2

abbrev pub decreases-atoms::listed : goal.decreases-atoms::listed
decreases-atoms::listed l = (201 - l.depth) * 16 + 2

abbrev pub decreases-atoms::pair : goal.decreases-atoms::pair
decreases-atoms::pair l = (201 - l.depth) * 16 + 2

abbrev pub decreases-atoms::grouped : goal.decreases-atoms::grouped
decreases-atoms::grouped l = (201 - l.depth) * 16 + 2

abbrev pub invariant-end_cases-cases : goal.invariant-end_cases-cases
invariant-end_cases-cases l = ends_cases l.places l.depth (Ok l.value, l.cursor) ≡ ends_cases l.fn.places l.fn.depth (Ok l.fn.innermost, l.fn.cursor)

abbrev pub decreases-end_cases-cases : goal.decreases-end_cases-cases
decreases-end_cases-cases l = length l.places
