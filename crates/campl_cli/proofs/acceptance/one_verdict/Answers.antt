use Rattle.campl_cli.proofs.OneVerdict.{accepted_without_fault, one_source_fault}
use Rattle.campl_cli.proofs.acceptance.one_verdict.Goals as goal

pub returns-clause-no_fault : goal.returns-clause-no_fault
returns-clause-no_fault c = accepted_without_fault

pub returns-clause-one_fault : goal.returns-clause-one_fault
returns-clause-one_fault c = one_source_fault
