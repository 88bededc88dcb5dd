use Rattle.std.proofs.Common.{◌++◌, map}
use Rattle.campl_tree.specs.View.{view_decl, view_seq}
use Rattle.campl_types.specs.Substitution.{variables_of}
use Rattle.campl_types.specs.World.{variables_of_list}
use Rattle.campl_names.proofs.Heads.{function-judged}
use Rattle.campl_names.proofs.judge_decls.judge_function.Goals as goal

pub returns : goal.returns
returns c =
    function-judged c.judge_function_parts.result (map view_decl c.args.world.now) _ (variables_of_list (map view_seq c.args.d.now.parameters) ++ variables_of (view_seq c.args.d.now.result)) c.in_ok-parameters.ensures (map view_seq c.args.d.now.parameters) (view_seq c.args.d.now.result) _ c.judge_function_parts.ensures
