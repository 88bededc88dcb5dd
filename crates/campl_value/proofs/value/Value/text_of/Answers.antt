use Rattle.std.proofs.Common.{arith}
use Rattle.campl_value.specs.Text.{letters_of_text}
use Rattle.campl_value.proofs.Depths.{depth_of_text}
use Rattle.campl_value.proofs.value.Value.text_of.Goals as goal

pub returns-then-characters : goal.returns-then-characters
returns-then-characters c = omega (arith, depth_of_text c.args.characters.now)

pub returns : goal.returns
returns c = grind (arith, letters_of_text)
