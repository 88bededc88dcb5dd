use Rattle.std.proofs.Common.{◌≡◌, [], drop}
use Rattle.campl_names.specs.Tables.{all_again}
use Rattle.campl_names.proofs.tables.judge_parameters.Given as goal

abbrev pub invariant-loop-parameter : goal.invariant-loop-parameter
invariant-loop-parameter l = all_again l.seen (drop l.parameter-index l.parameters) ≡ all_again [] l.parameters
