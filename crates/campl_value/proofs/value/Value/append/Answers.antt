use Rattle.std.proofs.Common.{◌≡◌, Some, sym}
use Rattle.campl_value.specs.Text.{chars_of}
use Rattle.campl_value.proofs.Texts.{appended_text}
use Rattle.campl_value.proofs.value.Value.append.Goals as goal

pub returns-in_ok-letters-in-Some : goal.returns-in_ok-letters-in-Some
returns-in_ok-letters-in-Some c =
    let e : chars_of c.args.self.now ≡ Some c.in-Some.characters.items = sym (rw c.in-Some.is at c.in_ok-characters.ensures) in
    let whole = appended_text c.args.self.now c.args.right.now c.in-Some.characters.items e in
    rw whole (rw (← c.in_ok-copy-in-Some.ensures) c.in_ok-letters-in-Some.ensures)
