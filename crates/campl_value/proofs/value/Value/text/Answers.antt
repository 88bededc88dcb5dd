use Rattle.std.proofs.Common.{arith}
use Rattle.campl_value.specs.Text.{letters_of_text}
use Rattle.campl_value.proofs.value.Value.text.Goals as goal

pub returns : goal.returns
returns c = grind (arith, letters_of_text)
