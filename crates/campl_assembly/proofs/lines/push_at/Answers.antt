use Rattle.std.proofs.lemmas.Result.{on_ok_weaker}
use Rattle.campl_assembly.proofs.Places.{place-line}
use Rattle.campl_assembly.proofs.lines.push_at.Goals as goal

pub returns : goal.returns
returns c =
    on_ok_weaker _ (place-line _ _ _ _ _ _ _ _ c.in_ok-push_str.ensures c.in_ok-push_number.ensures c.in_ok-push_char.ensures c.in_ok-push_instruction.ensures) c.push_char-2.ensures
