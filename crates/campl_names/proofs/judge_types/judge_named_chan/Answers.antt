use Rattle.std.proofs.Common.{refl, map}
use Rattle.std.specs.Option.{option_copied}
use Rattle.campl_tree.specs.View.{view_decl}
use Rattle.campl_names.proofs.Judging.{named-stopped}
use Rattle.campl_names.proofs.judge_types.judge_named_chan.Goals as goal

pub returns-in_err-judge_protocol_name : goal.returns-in_err-judge_protocol_name
returns-in_err-judge_protocol_name c =
    named-stopped (map view_decl c.args.world.now) c.args.ts.now _ c.args.at c.args.name.now (option_copied c.args.local) c.args.parameters.now _ _ refl c.in_err-judge_protocol_name.ensures c.from_residual.ensures
