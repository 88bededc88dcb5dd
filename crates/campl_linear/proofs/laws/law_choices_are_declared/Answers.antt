use Rattle.campl_linear.proofs.Choices.{protocol-choices-declared, coprotocol-choices-declared}
use Rattle.campl_linear.proofs.laws.law_choices_are_declared.Goals as goal

pub returns : goal.returns
returns c = record { protocols = protocol-choices-declared; coprotocols = coprotocol-choices-declared }
