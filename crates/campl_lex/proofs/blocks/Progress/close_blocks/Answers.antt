use Rattle.std.proofs.Common.{◌∙◌, ap, drop, arith}
use Rattle.std.proofs.lemmas.Grind.{common_steps}
use Rattle.std.proofs.lemmas.List.{drop-drop}
use Rattle.std.specs.List.{prefix_len}
use Rattle.campl_lex.specs.Enclosure.{is_block_from}
use Rattle.campl_lex.proofs.Stacks.{prefix_len_tops}
use Rattle.campl_lex.proofs.blocks.Progress.close_blocks.Goals as goal

pub loop-before-preserved : goal.loop-before-preserved
loop-before-preserved c = (
  grind (arith, common_steps, c.in_ok-insert.ensures.ok),
  c.pop.ensures ∙ ap (drop 1) (c.insert.ensures.stack ∙ c.loop-before.invariant.1) ∙ drop-drop 1 c.loop-before.closed c.args.self.now.stack,
  (let e = prefix_len_tops (is_block_from c.args.column) c.loop-before.self.stack cc in
      let f = ap (prefix_len (is_block_from c.args.column)) (c.pop.ensures ∙ ap (drop 1) c.insert.ensures.stack) in
      omega arith),
)
