use Rattle.std.proofs.Common.{◌∙◌, sym, map}
use Rattle.campl_tree.specs.View.{view_decl}
use Rattle.campl_held.specs.Asked.{view_offer}
use Rattle.campl_rows.proofs.Listed.{row-went, row-stopped, rows-end, names-went, names-end}
use Rattle.campl_rows.proofs.hcase.rows_offered.Goals as goal

pub loop-i-preserved : goal.loop-i-preserved
loop-i-preserved c =
    record {
      told = row-went c.args.x.now (view_offer (map view_decl c.args.world.now) c.args.offer) c.args.rows.now c.loop-i.i c.index-rows-i.result c.loop-i-test.true c.index-rows-i.is c.loop-i.before _ _ c.in-Ok.ensures.judged c.in-Ok.ensures.added c.loop-i.invariant.told;
      names = names-went c.args.rows.now c.loop-i.i c.index-rows-i.result c.loop-i.before _ _ c.loop-i-test.true c.index-rows-i.is c.in-Ok.ensures.added c.loop-i.invariant.names;
    }

pub returns-in-Err-clause-judged : goal.returns-in-Err-clause-judged
returns-in-Err-clause-judged c =
    row-stopped c.args.x.now (view_offer (map view_decl c.args.world.now) c.args.offer) c.args.rows.now c.loop-i.i c.index-rows-i.result c.loop-i-test.true c.index-rows-i.is c.loop-i.before _ _ c.in-Err.ensures.judged c.loop-i.invariant.told

pub returns-clause-judged : goal.returns-clause-judged
returns-clause-judged c = sym c.loop-i.invariant.told ∙ rows-end c.args.x.now (view_offer (map view_decl c.args.world.now) c.args.offer) c.args.rows.now c.loop-i.i c.loop-i.before c.loop-i-test.false

pub returns-clause-names : goal.returns-clause-names
returns-clause-names c = names-end c.args.rows.now c.loop-i.i c.loop-i.before _ c.loop-i-test.false c.loop-i.invariant.names
