use Rattle.std.proofs.Common.{◌∙◌, refl, sym, map}
use Rattle.campl_tree.specs.View.{view_decl}
use Rattle.campl_vars.specs.Variables.{view_vars}
use Rattle.campl_held.specs.Slots.{view_held}
use Rattle.campl_held.proofs.Turns.{loop-went, loop-stopped, act-at, act-end, grown-more, grown-none}
use Rattle.campl_held.proofs.acting.act_all.Goals as goal

pub loop-i-init : goal.loop-i-init
loop-i-init c = record { told = refl; grown = grown-none _ }

pub loop-i-preserved : goal.loop-i-preserved
loop-i-preserved c =
    record {
      told = loop-went _ _ _ _ _ c.in-Ok.ensures.acted (act-at (map view_decl c.args.world.now) (view_vars c.loop-i.vars) (view_held c.loop-i.held) c.args.actions.now c.loop-i.i c.index-actions-i.result c.loop-i-test.true c.index-actions-i.is) c.loop-i.invariant.told;
      grown = grown-more _ _ _ c.loop-i.invariant.grown c.in-Ok.ensures.grown;
    }

pub returns-in-Err-clause-acted : goal.returns-in-Err-clause-acted
returns-in-Err-clause-acted c =
    loop-stopped _ _ _ _ _ c.in-Err.ensures.acted (act-at (map view_decl c.args.world.now) (view_vars c.loop-i.vars) (view_held c.loop-i.held) c.args.actions.now c.loop-i.i c.index-actions-i.result c.loop-i-test.true c.index-actions-i.is) c.loop-i.invariant.told

pub returns-clause-acted : goal.returns-clause-acted
returns-clause-acted c = sym c.loop-i.invariant.told ∙ act-end _ _ _ c.args.actions.now c.loop-i.i c.loop-i-test.false
