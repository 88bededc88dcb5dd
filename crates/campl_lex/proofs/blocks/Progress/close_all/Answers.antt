use Rattle.std.proofs.Common.{◌++◌, ap, sym, ◌∙◌, replicate, append-nil}
use Rattle.campl_lex.specs.Enclosure.{block_count}
use Rattle.campl_lex.specs.Layout.{inserted}
use Rattle.campl_lex.specs.declared.token.TokenKind.TheVariants.{RightBrace}
use Rattle.campl_lex.proofs.Stacks.{closes_one, count_none}
use Rattle.campl_lex.proofs.blocks.Progress.close_all.Goals as goal

pub loop-enclosure-preserved-in-Continue-1 : goal.loop-enclosure-preserved-in-Continue-1
loop-enclosure-preserved-in-Continue-1 c =
    let brace = inserted RightBrace c.args.end.start c.args.end.place in
    ap (λ out. out ++ replicate (block_count c.insert.new.self.stack) brace) (c.in_ok-insert.ensures.ok)
    ∙ closes_one c.loop-enclosure.self.tokens.items brace c.in-Block.field-0 c.loop-enclosure.self.stack c.insert.new.self.stack (cc) (c.insert.ensures.stack ∙ c.pop.ensures)
    ∙ c.loop-enclosure.invariant

pub returns-clause-ok : goal.returns-clause-ok
returns-clause-ok c =
    let brace = inserted RightBrace c.args.end.start c.args.end.place in
    sym (append-nil c.loop-enclosure.self.tokens.items)
    ∙ ap (λ n. c.loop-enclosure.self.tokens.items ++ replicate n brace) (sym (count_none c.loop-enclosure.self.stack cc))
    ∙ c.loop-enclosure.invariant
