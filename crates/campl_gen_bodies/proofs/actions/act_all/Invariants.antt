use Rattle.std.proofs.Common.{◌≡◌, map, drop}
use Rattle.campl_tree.specs.Plain.Process.{Body}
use Rattle.campl_tree.specs.View.{view_action, view_decl, actions_then}
use Rattle.campl_gen_bodies.specs.Making.{bare}
use Rattle.campl_gen_bodies.specs.Actions.{built_on, Grown}
use Rattle.campl_gen_bodies.specs.View.{view_making, view_stage}
use Rattle.campl_gen_bodies.proofs.actions.act_all.Given as goal

abbrev pub invariant-loop-i : goal.invariant-loop-i
invariant-loop-i l = record {
  made : (last : Body) → bare (built_on (map view_decl l.known) (actions_then (map view_action (drop l.i l.actions)) last) (view_stage l.held l.making))
      ≡ bare (built_on (map view_decl l.known) (actions_then (map view_action l.actions) last) (view_stage l.initial.held l.initial.making));
  grown : Grown (view_making l.initial.making) (view_making l.making);
}
