use Rattle.std.proofs.Common.{map}
use Rattle.campl_tree.specs.View.{view_decl, view_data_constructor}
use Rattle.campl_types.specs.World.{names_of}
use Rattle.campl_names.proofs.Heads.{data-judged}
use Rattle.campl_names.proofs.judge_decls.judge_data_parts.Goals as goal

pub returns : goal.returns
returns c =
    data-judged c.judge_data_lines.result (map view_decl c.args.world.now) _ (names_of c.args.parameters.now) c.in_ok-set.ensures (map view_data_constructor c.args.lines.now) c.judge_data_lines.ensures
