use Rattle.std.proofs.Common.{◌∙◌, sym, map}
use Rattle.campl_tree.specs.View.{view_decl}
use Rattle.campl_held.specs.Slots.{view_held}
use Rattle.campl_rows.proofs.Listed.{branch-went, branch-stopped, branches-end}
use Rattle.campl_rows.proofs.race.branches_begin.Goals as goal

pub loop-i-preserved : goal.loop-i-preserved
loop-i-preserved c =
    branch-went (map view_decl c.args.world.now) (view_held c.args.held.now) c.args.rows.now c.loop-i.i c.index-rows-i.result c.loop-i-test.true c.index-rows-i.is c.loop-i.before _ _ c.in-Ok.ensures.judged c.in-Ok.ensures.added c.loop-i.invariant

pub returns-in-Err : goal.returns-in-Err
returns-in-Err c =
    branch-stopped (map view_decl c.args.world.now) (view_held c.args.held.now) c.args.rows.now c.loop-i.i c.index-rows-i.result c.loop-i-test.true c.index-rows-i.is c.loop-i.before _ _ c.in-Err.ensures.judged c.loop-i.invariant

pub returns : goal.returns
returns c = sym c.loop-i.invariant ∙ branches-end (map view_decl c.args.world.now) (view_held c.args.held.now) c.args.rows.now c.loop-i.i c.loop-i.before c.loop-i-test.false
