use Rattle.std.proofs.Common.{◌≡◌, drop, map}
use Rattle.campl_tree.specs.View.{view_action, view_decl}
use Rattle.campl_names.specs.Scope.{behind_actions, in_actions}
use Rattle.campl_names.proofs.judge_bodies.judge_actions.Given as goal

abbrev pub invariant-loop-action : goal.invariant-loop-action
invariant-loop-action l =
    (in_actions (map view_decl l.world) l.scope (map view_action (drop l.action-index l.actions)) ≡ in_actions (map view_decl l.world) l.initial.scope (map view_action l.actions))
    × (behind_actions l.scope (map view_action (drop l.action-index l.actions)) ≡ behind_actions l.initial.scope (map view_action l.actions))
