use Rattle.std.proofs.Common.{refl, map}
use Rattle.campl_tree.specs.View.{view_action, view_decl}
use Rattle.campl_gen_bodies.specs.View.{view_making, view_stage}
use Rattle.campl_gen_bodies.proofs.Turns.{goes-more, goes-end, grown-more, none-grown}
use Rattle.campl_gen_bodies.proofs.actions.act_all.Goals as goal

pub loop-i-init : goal.loop-i-init
loop-i-init c = record { made = λ last. refl; grown = none-grown (view_making c.args.making.now) (view_making c.args.making.now) refl }

pub loop-i-preserved : goal.loop-i-preserved
loop-i-preserved c =
    record {
      made = goes-more (map view_decl c.args.known.now) c.args.actions.now c.loop-i.i c.index-actions-i.result (view_stage c.loop-i.held c.loop-i.making) (view_stage c.act.new.held c.act.new.making) (map view_action c.args.actions.now)
          (view_stage c.args.held.now c.args.making.now) c.loop-i-test.true c.index-actions-i.is c.in_ok-act.ensures c.loop-i.invariant.made;
      grown = grown-more (view_making c.args.making.now) (view_making c.loop-i.making) (view_making c.act.new.making) c.loop-i.invariant.grown c.in_ok-act.ensures.grown;
    }

pub returns : goal.returns
returns c =
    record {
      made = goes-end (map view_decl c.args.known.now) c.args.actions.now c.loop-i.i (view_stage c.loop-i.held c.loop-i.making) (map view_action c.args.actions.now) (view_stage c.args.held.now c.args.making.now) c.loop-i-test.false c.loop-i.invariant.made;
      grown = c.loop-i.invariant.grown;
    }
