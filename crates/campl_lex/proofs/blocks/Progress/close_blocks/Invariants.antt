use Rattle.std.proofs.Common.{◌≡◌, ◌+◌, ◌++◌, length, drop, replicate}
use Rattle.std.specs.List.{prefix_len}
use Rattle.campl_lex.specs.Enclosure.{is_block_from}
use Rattle.campl_lex.specs.Layout.{inserted}
use Rattle.campl_lex.specs.declared.token.TokenKind.TheVariants.{RightBrace}
use Rattle.campl_lex.proofs.blocks.Progress.close_blocks.Given as goal

abbrev pub invariant-loop-before : goal.invariant-loop-before
invariant-loop-before l =
    (l.self.tokens.items ≡ l.initial.self.tokens.items ++ replicate l.closed (inserted RightBrace l.before.start l.before.place))
    × (l.self.stack ≡ drop l.closed l.initial.self.stack)
    × (l.closed + prefix_len (is_block_from l.column) l.self.stack ≡ prefix_len (is_block_from l.column) l.initial.self.stack)

abbrev pub decreases-loop-before : goal.decreases-loop-before
decreases-loop-before l = length l.self.stack
