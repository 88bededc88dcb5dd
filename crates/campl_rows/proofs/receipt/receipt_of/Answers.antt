use Rattle.std.proofs.Common.{◌∙◌, sym}
use Rattle.campl_rows.proofs.Received.{receipt-alone, receipt-first}
use Rattle.campl_rows.proofs.receipt.receipt_of.Goals as goal

pub returns-in-None : goal.returns-in-None
returns-in-None c = c.last_receipt.ensures ∙ sym (receipt-alone c.args.body.now (rw c.as_slice.ensures at c.in-None.ensures.value))

pub returns-in-Some : goal.returns-in-Some
returns-in-Some c = c.action_receipt.ensures ∙ sym (receipt-first c.args.body.now c.in-Some.action.now (rw c.as_slice.ensures at c.in-Some.ensures.value))
