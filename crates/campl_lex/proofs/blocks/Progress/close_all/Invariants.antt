use Rattle.std.proofs.Common.{◌≡◌, ◌++◌, length, replicate}
use Rattle.campl_lex.specs.Enclosure.{block_count}
use Rattle.campl_lex.specs.Layout.{inserted}
use Rattle.campl_lex.specs.declared.token.TokenKind.TheVariants.{RightBrace}
use Rattle.campl_lex.proofs.blocks.Progress.close_all.Given as goal

abbrev pub invariant-loop-enclosure : goal.invariant-loop-enclosure
invariant-loop-enclosure l =
    l.self.tokens.items ++ replicate (block_count l.self.stack) (inserted RightBrace l.end.start l.end.place)
    ≡ l.initial.self.tokens.items ++ replicate (block_count l.initial.self.stack) (inserted RightBrace l.end.start l.end.place)

abbrev pub decreases-loop-enclosure : goal.decreases-loop-enclosure
decreases-loop-enclosure l = length l.self.stack
