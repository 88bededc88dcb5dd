use Rattle.std.proofs.Common.{sym, subst}
use Rattle.campl_tree.specs.View.{view_program}
use Rattle.campl_held.specs.Chosen.{ChoicesAreDeclared}
use Rattle.campl_held.proofs.Chosen.{declared-choices}
use Rattle.campl_cli.proofs.acceptance.judged.Goals as goal

pub judge_world-requires : goal.judge_world-requires
judge_world-requires c =
    subst (λ w. ChoicesAreDeclared w) (sym c.in-Ok.ensures.world) (declared-choices (view_program c.args.program) c.in-Ok.ensures.judged)
