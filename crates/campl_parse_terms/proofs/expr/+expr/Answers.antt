use Rattle.std.proofs.Common.{rules, suc, Ok}
use Rattle.campl_grammar.specs.Names.{erows, erow}
use Rattle.campl_grammar.specs.Rules.{read}
use Rattle.campl_grammar.proofs.ByRule.{reads_erows}
use Rattle.campl_parse_terms.specs.Expressions.{ends_cases}
use Rattle.campl_parse_terms.specs.Reads.{Fails}
use Rattle.campl_parse_terms.proofs.Cases.{case_ended, end_fails}
use Rattle.campl_parse_terms.proofs.LineSteps.{shortens}
use Rattle.campl_parse_terms.proofs.expr.+expr.Goals as goal

pub end_cases-returns-in_err-value : goal.end_cases-returns-in_err-value
end_cases-returns-in_err-value t c =
    let g : Fails (ends_cases c.args.places c.args.depth (Ok c.args.innermost, c.args.cursor.now)) _ c.end_case.new.cursor =
    end_fails c.cases.places c.pop.new.self c.in-Some.place c.args.depth (Ok c.cases.value, c.cases.cursor) _ c.end_case.new.cursor _ c.in-Some.ensures c.in_err-value.ensures c.cases.invariant in
    search (rules, g)

pub end_cases-cases-preserved : goal.end_cases-cases-preserved
end_cases-cases-preserved t c = case_ended c.cases.places c.pop.new.self c.in-Some.place c.args.depth (Ok c.cases.value, c.cases.cursor) (Ok c.in_ok-value.value, c.end_case.new.cursor) _ c.in-Some.ensures c.in_ok-value.ensures c.cases.invariant

pub erows-block_behind-requires-clause-shortens : goal.erows-block_behind-requires-clause-shortens
erows-block_behind-requires-clause-shortens t c ts us x h = shortens erow (suc c.args.depth) ts us x (rw (← h.shows, ← h.leaves) h.met)

pub erows-returns : goal.erows-returns
erows-returns t c = c.block_behind.ensures (read erow (suc c.args.depth)) (read erows (suc c.args.depth)) record { step = reads_erows (suc c.args.depth) } (λ ts us r h. rw (← h.shows, ← h.leaves) h.met)
