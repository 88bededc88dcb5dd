use Rattle.std.proofs.Common.{◌≡◌, List, drop, map}
use Rattle.campl_tree.specs.View.{view_action}
use Rattle.campl_types.specs.Names.{Name}
use Rattle.campl_free.specs.Gathers.{Test, Gathers, behind, inside}
use Rattle.campl_free.proofs.names.gather_actions.Given as goal

abbrev pub invariant-loop-action : goal.invariant-loop-action
invariant-loop-action l =
    record {
      told : (last : Test) (final : List Name) → Gathers l.bound (behind (map view_action (drop l.action-index l.actions)) last) l.found final
          → Gathers l.initial.bound (behind (map view_action l.actions) last) l.initial.found final;
      bound : inside l.bound (map view_action (drop l.action-index l.actions)) ≡ inside l.initial.bound (map view_action l.actions);
    }
