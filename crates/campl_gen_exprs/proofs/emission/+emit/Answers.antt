-- What the search leaves open.
use Rattle.std.proofs.Common.{◌∙◌, sym, arith, map}
use Rattle.campl_tree.specs.View.{view_decl}
use Rattle.campl_seqcheck.proofs.Judges.{weight-Compare, weight-Cons, weight-Append, weight-Calculate, weight-Pair, weight-Or, weight-And, weight-Negate, weight-CodeOf, weight-CharOf, weight-Call, weight-Constructor, weight-List}
use Rattle.campl_seqcheck.proofs.Falls.{if-falls, case-falls, two-falls, one-falls, all-falls, item-within, row-within}
use Rattle.campl_gen_exprs.specs.View.{view_emitter}
use Rattle.campl_gen_exprs.proofs.Nodes.{all-at, all-end, row-weight}
use Rattle.campl_gen_exprs.proofs.emission.+emit.Goals as goal

pub emit-emit_if-requires : goal.emit-emit_if-requires
emit-emit_if-requires t c = (if-falls _ _ _ _ _ _ _ _ t c.in-If.is c.get.ensures c.get-in-If.ensures c.get-in-If-2.ensures c.decreases, tt)

pub emit-emit_case-requires : goal.emit-emit_case-requires
emit-emit_case-requires t c = (case-falls _ _ _ _ _ _ t c.in-Case.is c.get-in-Case.ensures c.as_slice.ensures c.decreases, tt)

pub emit-emit_or-requires : goal.emit-emit_or-requires
emit-emit_or-requires t c = (two-falls _ _ _ _ _ _ t c.in-Or.is (weight-Or _ _ _) c.get-in-Or.ensures c.get-in-Or-2.ensures c.decreases, tt)

pub emit-emit_and-requires : goal.emit-emit_and-requires
emit-emit_and-requires t c = (two-falls _ _ _ _ _ _ t c.in-And.is (weight-And _ _ _) c.get-in-And.ensures c.get-in-And-2.ensures c.decreases, tt)

pub emit-emit_two-requires : goal.emit-emit_two-requires
emit-emit_two-requires t c = (two-falls _ _ _ _ _ _ t c.in-Compare.is (weight-Compare _ _ _ _) c.get-in-Compare.ensures c.get-in-Compare-2.ensures c.decreases, tt)

pub emit-emit_two-requires-in-Cons : goal.emit-emit_two-requires-in-Cons
emit-emit_two-requires-in-Cons t c = (two-falls _ _ _ _ _ _ t c.in-Cons.is (weight-Cons _ _ _) c.get-in-Cons.ensures c.get-in-Cons-2.ensures c.decreases, tt)

pub emit-emit_two-requires-in-Append : goal.emit-emit_two-requires-in-Append
emit-emit_two-requires-in-Append t c = (two-falls _ _ _ _ _ _ t c.in-Append.is (weight-Append _ _ _) c.get-in-Append.ensures c.get-in-Append-2.ensures c.decreases, tt)

pub emit-emit_two-requires-in-Calculate : goal.emit-emit_two-requires-in-Calculate
emit-emit_two-requires-in-Calculate t c = (two-falls _ _ _ _ _ _ t c.in-Calculate.is (weight-Calculate _ _ _ _) c.get-in-Calculate.ensures c.get-in-Calculate-2.ensures c.decreases, tt)

pub emit-emit_two-requires-in-Pair : goal.emit-emit_two-requires-in-Pair
emit-emit_two-requires-in-Pair t c = (two-falls _ _ _ _ _ _ t c.in-Pair.is (weight-Pair _ _ _) c.get-in-Pair.ensures c.get-in-Pair-2.ensures c.decreases, tt)

pub emit-emit_one-requires : goal.emit-emit_one-requires
emit-emit_one-requires t c = (one-falls _ _ _ _ t c.in-Negate.is (weight-Negate _ _) c.get-in-Negate.ensures c.decreases, tt)

pub emit-emit_one-requires-in-CodeOf : goal.emit-emit_one-requires-in-CodeOf
emit-emit_one-requires-in-CodeOf t c = (one-falls _ _ _ _ t c.in-CodeOf.is (weight-CodeOf _ _) c.get-in-CodeOf.ensures c.decreases, tt)

pub emit-emit_one-requires-in-CharOf : goal.emit-emit_one-requires-in-CharOf
emit-emit_one-requires-in-CharOf t c = (one-falls _ _ _ _ t c.in-CharOf.is (weight-CharOf _ _) c.get-in-CharOf.ensures c.decreases, tt)

pub emit-emit_call-requires : goal.emit-emit_call-requires
emit-emit_call-requires t c = (all-falls _ _ _ _ t c.in-Call.is (weight-Call _ _ _) c.as_slice-in-Call.ensures c.decreases, tt)

pub emit-emit_built-requires : goal.emit-emit_built-requires
emit-emit_built-requires t c = (all-falls _ _ _ _ t c.in-Constructor.is (weight-Constructor _ _ _) c.as_slice-in-Constructor.ensures c.decreases, tt)

pub emit-emit_list-requires : goal.emit-emit_list-requires
emit-emit_list-requires t c = (all-falls _ _ _ _ t c.in-List.is (weight-List _ _) c.as_slice-in-List.ensures c.decreases, tt)

pub emit_all-emit-requires : goal.emit_all-emit-requires
emit_all-emit-requires t c = (let h = item-within c.args.args.now c.loop-i.i c.index-args-i.result c.loop-i-test.true c.index-args-i.is in omega (arith, h, c.decreases), tt)

pub emit_all-loop-i-preserved : goal.emit_all-loop-i-preserved
emit_all-loop-i-preserved t c =
    rw (c.in_ok-emit.ensures) (sym (all-at (map view_decl c.args.source.now) (view_emitter c.loop-i.code) c.args.args.now c.loop-i.i c.index-args-i.result c.loop-i-test.true c.index-args-i.is) ∙ c.loop-i.invariant)

pub emit_all-returns : goal.emit_all-returns
emit_all-returns t c =
    sym (all-end (map view_decl c.args.source.now) (view_emitter c.loop-i.code) c.args.args.now c.loop-i.i c.loop-i-test.false) ∙ c.loop-i.invariant

pub rows::emit_rows-emit_next_row-requires : goal.rows::emit_rows-emit_next_row-requires
rows::emit_rows-emit_next_row-requires t c = (let h = row-within c.args.rows.now c.loop-i.i c.index-rows-i.result c.loop-i-test.true c.index-rows-i.is in omega (arith, h, c.decreases), tt)

pub rows::emit_row-emit-requires : goal.rows::emit_row-emit-requires
rows::emit_row-emit-requires t c = (let h = row-weight c.args.row.now in omega (arith, h, c.decreases), tt)
