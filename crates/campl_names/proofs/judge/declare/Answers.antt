use Rattle.campl_names.proofs.Wholes.{whole-judged, twice-refused}
use Rattle.campl_names.proofs.judge.declare.Goals as goal

pub returns-clause-judged : goal.returns-clause-judged
returns-clause-judged c =
    whole-judged _ _ _ c.in_ok-declarations.ensures c.in_ok-world.ensures.world _ _ c.in_ok-world.ensures.judged c.judge_world.ensures.judged

pub returns-in_err-world-clause-judged : goal.returns-in_err-world-clause-judged
returns-in_err-world-clause-judged c = twice-refused _ _ c.in_ok-declarations.ensures _ _ c.in_err-world.ensures.judged c.from_residual-in_err-world.ensures
