use Rattle.std.proofs.Common.{suc}
use Rattle.campl_grammar.specs.Names.{hrows, hrow, branches, branch, parts, part, crows, crow}
use Rattle.campl_grammar.specs.Rules.{read}
use Rattle.campl_grammar.proofs.ByRule.{reads_hrows, reads_branches, reads_parts, reads_crows}
use Rattle.campl_parse_terms.proofs.LineSteps.{shortens}
use Rattle.campl_parse.proofs.body.+body.Goals as goal

pub hrows-block-requires-clause-shortens : goal.hrows-block-requires-clause-shortens
hrows-block-requires-clause-shortens t c ts us x h = shortens hrow (suc c.args.depth) ts us x (rw (← h.shows, ← h.leaves) h.met)

pub hrows-returns : goal.hrows-returns
hrows-returns t c = c.block.ensures (read hrow (suc c.args.depth)) (read hrows (suc c.args.depth)) record { step = reads_hrows (suc c.args.depth) } (λ ts us r h. rw (← h.shows, ← h.leaves) h.met)

pub branches-block-requires-clause-shortens : goal.branches-block-requires-clause-shortens
branches-block-requires-clause-shortens t c ts us x h = shortens branch (suc c.args.depth) ts us x (rw (← h.shows, ← h.leaves) h.met)

pub branches-returns : goal.branches-returns
branches-returns t c = c.block.ensures (read branch (suc c.args.depth)) (read branches (suc c.args.depth)) record { step = reads_branches (suc c.args.depth) } (λ ts us r h. rw (← h.shows, ← h.leaves) h.met)

pub parts-block-requires-clause-shortens : goal.parts-block-requires-clause-shortens
parts-block-requires-clause-shortens t c ts us x h = shortens part (suc c.args.depth) ts us x (rw (← h.shows, ← h.leaves) h.met)

pub parts-returns : goal.parts-returns
parts-returns t c = c.block.ensures (read part (suc c.args.depth)) (read parts (suc c.args.depth)) record { step = reads_parts (suc c.args.depth) } (λ ts us r h. rw (← h.shows, ← h.leaves) h.met)

pub crows-block-requires-clause-shortens : goal.crows-block-requires-clause-shortens
crows-block-requires-clause-shortens t c ts us x h = shortens crow (suc c.args.depth) ts us x (rw (← h.shows, ← h.leaves) h.met)

pub crows-returns : goal.crows-returns
crows-returns t c = c.block.ensures (read crow (suc c.args.depth)) (read crows (suc c.args.depth)) record { step = reads_crows (suc c.args.depth) } (λ ts us r h. rw (← h.shows, ← h.leaves) h.met)
