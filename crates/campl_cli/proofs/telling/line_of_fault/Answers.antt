-- The line has the detail behind its place.
use Rattle.std.proofs.Common.{◌≡◌, ◌∷◌, [], List, ℕ, subst}
use Rattle.std.specs.Prelude.{codes, IfOk, string_bytes}
use Rattle.std.specs.Fmt.{decimal}
use Rattle.campl_cli.specs.Faults.{code_of, message_of_detail}
use Rattle.campl_cli.proofs.OutputLines.{seven_parts}
use Rattle.campl_cli.proofs.telling.line_of_fault.Goals as goal

pub returns : goal.returns
returns c =
    let f = c.args.fault.now in
    let same = seven_parts (codes "campl: ") (code_of f.kind) (codes " at ") (decimal f.place.line) (codes ":") (decimal f.place.column) (message_of_detail f.detail) (10 ∷ []) in
    let told = rw (c.code.ensures, c.as_str.ensures.value, c.in_ok-detail.ensures) at c.spelled.ensures in
    subst (λ (bytes : List ℕ). IfOk c.spelled.result (λ line. string_bytes line ≡ bytes)) same told
