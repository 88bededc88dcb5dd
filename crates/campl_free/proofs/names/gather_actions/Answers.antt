use Rattle.std.proofs.Common.{◌∙◌, sym, ap, map}
use Rattle.campl_tree.specs.View.{view_action}
use Rattle.campl_types.specs.Free.{channels_bound}
use Rattle.campl_free.specs.Gathers.{inside}
use Rattle.campl_free.proofs.Gathered.{gathers-under, turn, drop-at, actions-at}
use Rattle.campl_free.proofs.names.gather_actions.Goals as goal

pub loop-action-preserved : goal.loop-action-preserved
loop-action-preserved c =
    record {
      told = λ last final a.
          turn _ _ _ _ _ _ final (c.loop-action.invariant.told last final) (actions-at c.args.actions.now last c.loop-action.action-index c.action-item.result c.loop-action-test.true c.action-item.is)
          (rw c.channel_of.ensures at c.in_ok-gather_name.ensures) (gathers-under c.loop-action.bound (channels_bound (view_action c.action-item.result)) _ _ final (rw c.in_ok-bind_channels.ensures at a));
      bound = rw c.in_ok-bind_channels.ensures
          (sym (ap (λ actions. inside c.loop-action.bound (map view_action actions)) (drop-at c.args.actions.now c.loop-action.action-index c.action-item.result c.loop-action-test.true c.action-item.is)) ∙ c.loop-action.invariant.bound);
    }
