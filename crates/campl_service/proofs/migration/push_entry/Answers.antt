use Rattle.std.proofs.Common.{◌∙◌, ap, sym, subst}
use Rattle.std.specs.Prelude.{chars, string_bytes}
use Rattle.std.specs.Str.{IsUtf8}
use Rattle.std.proofs.lemmas.Result.{on_ok_weaker}
use Rattle.std.proofs.lemmas.Str.{IsUtf8-string_bytes}
use Rattle.campl_service.proofs.Writings.{entry_written}
use Rattle.campl_service.proofs.migration.push_entry.Goals as goal

pub returns : goal.returns
returns c =
    on_ok_weaker c.push_named.result (entry_written (string_bytes c.args.output.now) c.as_str.result.now (string_bytes c.push_named.new.output) c.args.name.now c.args.entry.now.text
    (subst IsUtf8 (sym c.as_str.ensures.value) (IsUtf8-string_bytes c.in_ok-name.name)) (ap chars c.as_str.ensures.value ∙ c.in_ok-name.ensures))
    c.push_named.ensures
