use Rattle.std.proofs.Common.{◌∙◌, sym}
use Rattle.campl_names.proofs.TwoEnds.{beside}
use Rattle.campl_names.proofs.ends.partners.Goals as goal

pub returns-in-Input-Input : goal.returns-in-Input-Input
returns-in-Input-Input c = beside _ _ _ _ _ (c.in-Input-Input.is-1 ∙ sym c.in-Input-Input.is-0) c.one_negates.ensures

pub returns-in-Output-Output : goal.returns-in-Output-Output
returns-in-Output-Output c =
    beside _ _ _ _ _ (c.in-Output-Output.is-1 ∙ sym c.in-Output-Output.is-0) c.one_negates-in-Output-Output.ensures
