-- What happens on the other end of an identity's channel commutes with it.
use Rattle.campl_machine.proofs.Beside.{send-and-identity, receipt-and-identity, two-identities}
use Rattle.campl_machine.proofs.diamond.law_identity.Goals as goal

pub returns-clause-send : goal.returns-clause-send
returns-clause-send g c = send-and-identity

pub returns-clause-receipt : goal.returns-clause-receipt
returns-clause-receipt g c = receipt-and-identity

pub returns-clause-identity : goal.returns-clause-identity
returns-clause-identity g c = two-identities
