use Rattle.std.proofs.Common.{◌≡◌, true, false, [], ◌∷◌, rules}
use Rattle.campl_gram.specs.Reading.{next_in}
use Rattle.campl_lex.specs.declared.token.TokenKind.TheVariants as k
use Rattle.campl_grammar.specs.Terminal.{terminals}
use Rattle.campl_grammar.specs.Names.{expr}
use Rattle.campl_grammar.specs.Rules.{read}
use Rattle.campl_parse_terms.specs.Reads.{Fails}
use Rattle.campl_parse_terms.proofs.Cases.{begins_case, begins_otherwise, ends_last, case_fails}
use Rattle.campl_parse_terms.proofs.expr.cases.begin_cases.Goals as goal

pub returns-in_err-word : goal.returns-in_err-word
returns-in_err-word c =
    let h : next_in terminals (k.Case ∷ []) c.cases.cursor ≡ true = search rules in
    let g : Fails (read expr c.args.depth c.args.cursor.now) _ c.expect.new.self = case_fails c.cases.places c.args.depth c.cases.cursor c.expect.new.self _ _ h c.in_err-word.ensures.reads c.cases.invariant in
    search (rules, g)

pub cases-preserved : goal.cases-preserved
cases-preserved c =
    let h : next_in terminals (k.Case ∷ []) c.cases.cursor ≡ true = search rules in
    rw (c.in_ok-push.ensures.ok, c.place.ensures, ends_last c.cases.places c.in_ok-word.word.now.place c.args.depth (read expr c.args.depth c.expect.new.self), ← begins_case c.args.depth c.cases.cursor c.expect.new.self c.in_ok-word.word.now h c.in_ok-word.ensures.reads) c.cases.invariant

pub returns : goal.returns
returns c =
    let h : next_in terminals (k.Case ∷ []) c.cases.cursor ≡ false = search rules in
    rw (← begins_otherwise c.args.depth c.cases.cursor h) c.cases.invariant
