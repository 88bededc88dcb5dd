use Rattle.std.proofs.Common.{◌≡◌, ap, sym, ◌∙◌, drop, arith, None}
use Rattle.std.proofs.lemmas.List.{take_rest}
use Rattle.campl_lex.specs.Reading.{stop_of, item_len}
use Rattle.campl_lex.proofs.Scanning.{scan_goes_on}
use Rattle.campl_lex.proofs.literal.scan.Goals as goal

pub loop-stop-preserved : goal.loop-stop-preserved
loop-stop-preserved c =
    let text = c.args.text.now in
    let at = c.loop-stop.length in
    let none : stop_of c.args.quote (drop at text) ≡ None = ap (stop_of c.args.quote) (sym (take_rest text at)) ∙ sym c.stop_of.ensures ∙ c.in_default.is in (
      omega arith,
      omega arith,
      scan_goes_on c.args.quote at c.loop-stop.count c.item_len-length.result text (c.item_len-length.ensures.value ∙ ap item_len (take_rest text at)) none
          ∙ c.loop-stop.invariant.2,
    )
