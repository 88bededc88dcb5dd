use Rattle.std.proofs.Common.{◌∙◌, ◌++◌, ap, sym, subst, ◌≡◌, true, false}
use Rattle.std.specs.Str.{IsUtf8}
use Rattle.campl_value.specs.Shown.{shown_bytes}
use Rattle.std.specs.Prelude.{chars}
use Rattle.campl_service.proofs.Printed.{shown_is_utf8}
use Rattle.campl_service.proofs.text.shown.Goals as goal

-- what is printed of a text is a text
pub unreachable-requires : goal.unreachable-requires
unreachable-requires c =
    let utf8 : IsUtf8 c.push_shown.new.output.items =
    subst IsUtf8 (sym (c.in_ok-push_shown.ensures ∙ ap (λ front. front ++ shown_bytes (chars c.args.text.now)) c.new-bytes.ensures.items)) (shown_is_utf8 c.args.text.now c.utf8.text) in
    let fails : false ≡ true = c.in-Err.ensures.succeeds utf8 in
    absurd cc
