-- The judgement passes, or refuses for the first fault.
use Rattle.campl_tree.specs.View.{view_program}
use Rattle.campl_types.specs.WellDeclared.{name_faults}
use Rattle.campl_cli.proofs.Phases.{passed, refuses, naming_refuses}
use Rattle.campl_cli.proofs.names.judge_names.Goals as goal

pub returns-in-Ok : goal.returns-in-Ok
returns-in-Ok c = record { judged = passed (name_faults (view_program c.args.program)) _ c.in-Ok.ensures.judged; world = c.in-Ok.ensures.world }

pub returns-in-Err-clause-judged : goal.returns-in-Err-clause-judged
returns-in-Err-clause-judged c =
    rw c.refusal_of.ensures (naming_refuses (view_program c.args.program) c.in-Err.fault (refuses (name_faults (view_program c.args.program)) c.in-Err.fault c.in-Err.ensures.judged))
