use Rattle.std.proofs.Common.{map}
use Rattle.campl_tree.specs.View.{view_decl}
use Rattle.campl_vars.specs.Variables.{view_vars}
use Rattle.campl_held.specs.Slots.{view_held}
use Rattle.campl_calls.proofs.Called.{count-stops, values-stop, hands-on}
use Rattle.campl_calls.proofs.calling.call_process.Goals as goal

pub returns-in-Err-clause-judged : goal.returns-in-Err-clause-judged
returns-in-Err-clause-judged c =
    count-stops (map view_decl c.args.world.now) (view_vars c.args.vars.now) (view_held c.args.held) c.args.at c.args.p.now c.args.values.now c.args.inputs.now c.args.outputs.now c.in-Err.fault
    (rw c.len.ensures at c.in-Err.ensures)

pub returns-in-Err-values_fit-clause-judged : goal.returns-in-Err-values_fit-clause-judged
returns-in-Err-values_fit-clause-judged c =
    values-stop (map view_decl c.args.world.now) (view_vars c.args.vars.now) (view_held c.args.held) c.args.at c.args.p.now c.args.values.now c.args.inputs.now c.args.outputs.now _ c.in-Err-values_fit.fault c.of_seq.result
    (rw c.len.ensures at c.in-Ok.ensures) (rw c.as_slice.ensures at c.in-Err-values_fit.ensures.judged) c.of_seq.ensures

pub returns-clause-judged : goal.returns-clause-judged
returns-clause-judged c =
    hands-on (map view_decl c.args.world.now) (view_vars c.args.vars.now) (view_held c.args.held) c.args.at c.args.p.now c.args.values.now c.args.inputs.now c.args.outputs.now _ _ c.hand_all.result
    (rw c.len.ensures at c.in-Ok.ensures) (rw c.as_slice.ensures at c.in-Ok-values_fit.ensures.judged) c.hand_all.ensures
