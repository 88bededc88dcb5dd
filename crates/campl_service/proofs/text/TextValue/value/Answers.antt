use Rattle.std.proofs.Common.{ap, ◌∙◌}
use Rattle.campl_value.specs.Text.{text_of}
use Rattle.campl_value.proofs.Texts.{text_of_its_chars}
use Rattle.campl_service.proofs.text.TextValue.value.Goals as goal

pub returns : goal.returns
returns c = c.in_ok-value.ensures ∙ (text_of_its_chars c.self.inside.value c.self.invariant ∙ ap text_of c.self.view_is)
