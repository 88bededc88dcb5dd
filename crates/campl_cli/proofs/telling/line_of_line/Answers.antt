-- The line has what is wrong behind its number.
use Rattle.std.proofs.Common.{◌≡◌, ◌∷◌, [], List, ℕ, subst}
use Rattle.std.specs.Prelude.{codes, IfOk, string_bytes}
use Rattle.std.specs.Fmt.{decimal}
use Rattle.campl_cli.specs.Scripts.{line_number, what_is_wrong}
use Rattle.campl_cli.proofs.OutputLines.{five_parts}
use Rattle.campl_cli.proofs.telling.line_of_line.Goals as goal

pub returns : goal.returns
returns c =
    let f = c.args.fault.now in
    let same = five_parts (codes "campl: ") (codes "script line ") (decimal (line_number f)) (codes ": ") (what_is_wrong f) (10 ∷ []) in
    let told = rw (c.line_number.ensures, c.what_is_wrong.ensures) at c.numbered.ensures in
    subst (λ (bytes : List ℕ). IfOk c.numbered.result (λ line. string_bytes line ≡ bytes)) same told
