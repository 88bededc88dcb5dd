use Rattle.std.proofs.Common.{◌≡◌, map, drop}
use Rattle.campl_tree.specs.View.{view_action, view_decl}
use Rattle.campl_vars.specs.Variables.{view_vars}
use Rattle.campl_held.specs.Slots.{view_held}
use Rattle.campl_held.specs.Steps.{acted_all, Grown}
use Rattle.campl_held.proofs.acting.act_all.Given as goal

abbrev pub invariant-loop-i : goal.invariant-loop-i
invariant-loop-i l =
    record {
      told : acted_all (map view_decl l.world) (view_vars l.vars) (view_held l.held) (map view_action (drop l.i l.actions))
          ≡ acted_all (map view_decl l.world) (view_vars l.initial.vars) (view_held l.initial.held) (map view_action l.actions);
      grown : Grown l.initial.vars l.vars;
    }
