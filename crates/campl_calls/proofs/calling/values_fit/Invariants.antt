use Rattle.std.proofs.Common.{◌≡◌, map, drop}
use Rattle.campl_tree.specs.View.{view_seq, view_expr, exprs, view_decl}
use Rattle.campl_vars.specs.Variables.{view_vars}
use Rattle.campl_linear.specs.Calls.{values_fit}
use Rattle.campl_calls.proofs.calling.values_fit.Given as goal

abbrev pub invariant-loop-i : goal.invariant-loop-i
invariant-loop-i l =
    record {
      told : values_fit (map view_decl l.world) (view_vars l.initial.vars) (map view_seq (drop l.i l.types)) (exprs (map view_expr (drop l.i l.values)))
          ≡ values_fit (map view_decl l.world) (view_vars l.initial.vars) (map view_seq l.types) (exprs (map view_expr l.values));
      kept : l.vars ≡ l.initial.vars;
    }
