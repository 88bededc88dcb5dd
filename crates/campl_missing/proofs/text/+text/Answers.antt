use Rattle.std.proofs.Common.{length, arith}
use Rattle.campl_missing.proofs.Slices.{not-empty}
use Rattle.campl_missing.proofs.Written.{one-more, in-parentheses}
use Rattle.campl_missing.proofs.text.+text.Goals as goal

pub push_forms-loop-i-preserved : goal.push_forms-loop-i-preserved
push_forms-loop-i-preserved t c =
    one-more c.args.forms.now c.loop-i.i c.index-forms-i.result c.loop-i.text.items c.push_str.new.text.items c.push_form-in-loop-i.new.text.items _ (omega (arith, c.loop-i-test.true)) c.index-forms-i.is c.in_ok-push_str.ensures c.in_ok-push_form-2.ensures c.loop-i.invariant

pub push_parts-returns : goal.push_parts-returns
push_parts-returns t c =
    in-parentheses c.push_str-2.result c.args.parts.now c.args.text.now.items c.push_str.new.text.items c.push_forms.new.text.items c.push_str-2.new.text.items
    (not-empty c.is_empty.result (length c.args.parts.now) c.if-is_empty.false c.is_empty.ensures) c.in_ok-push_str.ensures c.in_ok-push_forms.ensures c.push_str-2.ensures
