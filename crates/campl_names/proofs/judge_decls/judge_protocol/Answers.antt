use Rattle.std.proofs.Common.{map}
use Rattle.campl_tree.specs.View.{view_decl}
use Rattle.campl_names.proofs.Heads.{protocol-judged}
use Rattle.campl_names.proofs.judge_decls.judge_protocol.Goals as goal

pub returns : goal.returns
returns c =
    protocol-judged c.judge_lines.result (map view_decl c.args.world.now) _ c.args.d.now.parameters c.as_slice.ensures _ c.in_ok-set.ensures c.args.d.now.local.name _ c.args.d.now.constructors c.as_slice-2.ensures c.judge_lines.ensures
