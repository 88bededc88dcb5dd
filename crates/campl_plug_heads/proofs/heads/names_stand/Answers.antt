use Rattle.std.proofs.Common.{◌∙◌, sym}
use Rattle.campl_held.specs.Slots.{view_held}
use Rattle.campl_plug_heads.specs.Heads.{links_named}
use Rattle.campl_plug_heads.proofs.Turns.{went, halted, once-before, names-at, names-end, marked-at, marked-end}
use Rattle.campl_plug_heads.proofs.heads.names_stand.Goals as goal

pub add-requires : goal.add-requires
add-requires c = once-before (links_named c.args.around.now.links.now) (view_held c.args.around.now.held.now) c.args.side c.args.also.now c.loop-i.before c.index-xs-i.result c.in-Ok.ensures

pub loop-i-preserved : goal.loop-i-preserved
loop-i-preserved c =
    rw c.in-Ok-add.ensures (
      went _ _ _ _ _ c.in-Ok.ensures
          (names-at (links_named c.args.around.now.links.now) (view_held c.args.around.now.held.now) c.args.side c.args.also.now c.args.xs.now c.loop-i.i c.loop-i.before c.args.number c.index-xs-i.result c.loop-i-test.true c.index-xs-i.is)
          c.loop-i.invariant.0,
      marked-at c.args.xs.now c.loop-i.i c.loop-i.before c.args.number c.index-xs-i.result c.loop-i-test.true c.index-xs-i.is ∙ c.loop-i.invariant.1,
    )

pub returns-in-Err-clause-judged : goal.returns-in-Err-clause-judged
returns-in-Err-clause-judged c =
    halted _ _ _ _ _ c.in-Err.ensures
    (names-at (links_named c.args.around.now.links.now) (view_held c.args.around.now.held.now) c.args.side c.args.also.now c.args.xs.now c.loop-i.i c.loop-i.before c.args.number c.index-xs-i.result c.loop-i-test.true c.index-xs-i.is)
    c.loop-i.invariant.0

pub returns-clause-judged : goal.returns-clause-judged
returns-clause-judged c =
    sym c.loop-i.invariant.0 ∙ names-end (links_named c.args.around.now.links.now) (view_held c.args.around.now.held.now) c.args.side c.args.also.now c.args.xs.now c.loop-i.i _ c.loop-i-test.false

pub returns-clause-added : goal.returns-clause-added
returns-clause-added c = sym (marked-end c.args.xs.now c.loop-i.i c.loop-i.before c.args.number c.loop-i-test.false) ∙ c.loop-i.invariant.1
