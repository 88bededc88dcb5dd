use Rattle.campl_instructions.specs.View.{view_code}
use Rattle.campl_program.proofs.Onward.{forward-onward}
use Rattle.campl_program.proofs.program.Program.assemble.Goals as goal

pub sized-requires : goal.sized-requires
sized-requires c = forward-onward (view_code c.args.raw) c.requires
