use Rattle.std.proofs.Common.{◌-◌}
use Rattle.campl_eval.specs.View.{code_of}
use Rattle.campl_steps.specs.Works.{HasCalled}
use Rattle.campl_steps.proofs.config.Config.calls.Given as goal

abbrev pub invariant-loop-calls : goal.invariant-loop-calls
invariant-loop-calls l = HasCalled (code_of l.fn.program) l.fn.number l.fn.branch l.fn.most l.fn.self l.self l.calls

abbrev pub decreases-loop-calls : goal.decreases-loop-calls
decreases-loop-calls l = l.fn.most - l.calls
