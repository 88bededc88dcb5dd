-- A send and a receipt on one channel commute.
use Rattle.campl_machine.proofs.Beside.{send-and-receipt}
use Rattle.campl_machine.proofs.diamond.law_send_and_receipt.Goals as goal

pub returns : goal.returns
returns g c = send-and-receipt
