-- Operands as they are listed.
use Rattle.std.specs.Prelude.{ℕ, List, chars}
use Rattle.std.specs.Fmt.{decimal, signed_decimal}
use Rattle.campl_code.specs.Listing.{number_list, quoted}
use Rattle.campl_assembly.specs.declared.operands.Operand.{Operand}
use Rattle.campl_assembly.specs.declared.operands.Operand.TheVariants as o

abbrev pub operand_text : Operand → List ℕ
operand_text (o.Number n) = decimal n
operand_text (o.Signed n) = signed_decimal n
operand_text (o.Word word) = chars word.now
operand_text (o.Name name) = name.now
operand_text (o.Quoted text) = quoted text.now
operand_text (o.List numbers) = number_list numbers.now
