use Rattle.std.specs.Prelude.{map}
use Rattle.campl_tree.specs.View.{view_decl}
use Rattle.campl_instructions.specs.View.{view_code}
use Rattle.campl_cli.proofs.WholeRuns.{world-forward}
use Rattle.step_cases.proofs.code.program_of.Goals as goal

pub assemble-requires : goal.assemble-requires
assemble-requires c = world-forward (map view_decl c.args.world.now) (view_code c.in-Ok.code) c.in-Ok.ensures
