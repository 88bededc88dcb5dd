-- What the search leaves open.
use Rattle.std.proofs.Common.{◌∙◌, ◌++◌, sym, ap, arith, map, append-nil}
use Rattle.campl_tree.specs.View.{view_decl}
use Rattle.campl_instructions.specs.View.{view_decision}
use Rattle.campl_seqcheck.proofs.Judges.{weight-Compare, weight-Cons, weight-Append, weight-Calculate, weight-Pair, weight-Or, weight-And, weight-Negate, weight-CodeOf, weight-CharOf, weight-Call, weight-Constructor, weight-List}
use Rattle.campl_seqcheck.proofs.Falls.{if-falls, case-falls, two-falls, one-falls, all-falls, item-within, row-within}
use Rattle.campl_gen_functions.proofs.Decided.{all-at, all-end, rows-at, rows-end, went}
use Rattle.campl_gen_functions.proofs.deciding.+decide.Goals as goal
use Rattle.campl_gen_exprs.proofs.Nodes.{row-weight}

pub decide-decide_three-requires : goal.decide-decide_three-requires
decide-decide_three-requires t c = (if-falls _ _ _ _ _ _ _ _ t c.in-If.is c.get.ensures c.get-in-If.ensures c.get-in-If-2.ensures c.decreases, tt)

pub decide-decide_case-requires : goal.decide-decide_case-requires
decide-decide_case-requires t c = (case-falls _ _ _ _ _ _ t c.in-Case.is c.get-in-Case.ensures c.as_slice.ensures c.decreases, tt)

pub decide-decide_two-requires : goal.decide-decide_two-requires
decide-decide_two-requires t c = (two-falls _ _ _ _ _ _ t c.in-Or.is (weight-Or _ _ _) c.get-in-Or.ensures c.get-in-Or-2.ensures c.decreases, tt)

pub decide-decide_two-requires-in-And : goal.decide-decide_two-requires-in-And
decide-decide_two-requires-in-And t c = (two-falls _ _ _ _ _ _ t c.in-And.is (weight-And _ _ _) c.get-in-And.ensures c.get-in-And-2.ensures c.decreases, tt)

pub decide-decide_two-requires-in-Compare : goal.decide-decide_two-requires-in-Compare
decide-decide_two-requires-in-Compare t c = (two-falls _ _ _ _ _ _ t c.in-Compare.is (weight-Compare _ _ _ _) c.get-in-Compare.ensures c.get-in-Compare-2.ensures c.decreases, tt)

pub decide-decide_two-requires-in-Cons : goal.decide-decide_two-requires-in-Cons
decide-decide_two-requires-in-Cons t c = (two-falls _ _ _ _ _ _ t c.in-Cons.is (weight-Cons _ _ _) c.get-in-Cons.ensures c.get-in-Cons-2.ensures c.decreases, tt)

pub decide-decide_two-requires-in-Append : goal.decide-decide_two-requires-in-Append
decide-decide_two-requires-in-Append t c = (two-falls _ _ _ _ _ _ t c.in-Append.is (weight-Append _ _ _) c.get-in-Append.ensures c.get-in-Append-2.ensures c.decreases, tt)

pub decide-decide_two-requires-in-Calculate : goal.decide-decide_two-requires-in-Calculate
decide-decide_two-requires-in-Calculate t c = (two-falls _ _ _ _ _ _ t c.in-Calculate.is (weight-Calculate _ _ _ _) c.get-in-Calculate.ensures c.get-in-Calculate-2.ensures c.decreases, tt)

pub decide-decide_two-requires-in-Pair : goal.decide-decide_two-requires-in-Pair
decide-decide_two-requires-in-Pair t c = (two-falls _ _ _ _ _ _ t c.in-Pair.is (weight-Pair _ _ _) c.get-in-Pair.ensures c.get-in-Pair-2.ensures c.decreases, tt)

pub decide-decide-requires : goal.decide-decide-requires
decide-decide-requires t c = (let h = one-falls _ _ _ _ t c.in-Negate.is (weight-Negate _ _) c.get-in-Negate.ensures c.decreases in omega (arith, h), tt)

pub decide-decide-requires-in-CodeOf : goal.decide-decide-requires-in-CodeOf
decide-decide-requires-in-CodeOf t c = (let h = one-falls _ _ _ _ t c.in-CodeOf.is (weight-CodeOf _ _) c.get-in-CodeOf.ensures c.decreases in omega (arith, h), tt)

pub decide-decide-requires-in-CharOf : goal.decide-decide-requires-in-CharOf
decide-decide-requires-in-CharOf t c = (let h = one-falls _ _ _ _ t c.in-CharOf.is (weight-CharOf _ _) c.get-in-CharOf.ensures c.decreases in omega (arith, h), tt)

pub decide-decide_all-requires : goal.decide-decide_all-requires
decide-decide_all-requires t c = (let h = all-falls _ _ _ _ t c.in-Call.is (weight-Call _ _ _) c.as_slice-in-Call.ensures c.decreases in omega (arith, h), tt)

pub decide-decide_all-requires-in-Constructor : goal.decide-decide_all-requires-in-Constructor
decide-decide_all-requires-in-Constructor t c = (let h = all-falls _ _ _ _ t c.in-Constructor.is (weight-Constructor _ _ _) c.as_slice-in-Constructor.ensures c.decreases in omega (arith, h), tt)

pub decide-decide_all-requires-in-List : goal.decide-decide_all-requires-in-List
decide-decide_all-requires-in-List t c = (let h = all-falls _ _ _ _ t c.in-List.is (weight-List _ _) c.as_slice-in-List.ensures c.decreases in omega (arith, h), tt)

pub decide_all-decide-requires : goal.decide_all-decide-requires
decide_all-decide-requires t c = (let h = item-within c.args.args.now c.loop-i.i c.index-args-i.result c.loop-i-test.true c.index-args-i.is in omega (arith, h, c.decreases), tt)

pub decide_all-loop-i-preserved : goal.decide_all-loop-i-preserved
decide_all-loop-i-preserved t c =
    went _ _ _ _ _ c.in_ok-decide.ensures (ap (λ l. map view_decision c.loop-i.out ++ l) (sym (all-at (map view_decl c.args.world.now) c.args.args.now c.loop-i.i c.index-args-i.result c.loop-i-test.true c.index-args-i.is)) ∙ c.loop-i.invariant)

pub decide_all-returns : goal.decide_all-returns
decide_all-returns t c =
    sym (append-nil (map view_decision c.loop-i.out))
    ∙ ap (λ l. map view_decision c.loop-i.out ++ l) (sym (all-end (map view_decl c.args.world.now) c.args.args.now c.loop-i.i c.loop-i-test.false)) ∙ c.loop-i.invariant

pub decide_rows-decide_row-requires : goal.decide_rows-decide_row-requires
decide_rows-decide_row-requires t c = (let h = row-within c.args.rows.now c.loop-i.i c.index-rows-i.result c.loop-i-test.true c.index-rows-i.is in omega (arith, h, c.decreases), tt)

pub decide_rows-loop-i-preserved : goal.decide_rows-loop-i-preserved
decide_rows-loop-i-preserved t c =
    went _ _ _ _ _ c.in_ok-decide_row.ensures (ap (λ l. map view_decision c.loop-i.out ++ l) (sym (rows-at (map view_decl c.args.world.now) c.args.rows.now c.loop-i.i c.index-rows-i.result c.loop-i-test.true c.index-rows-i.is)) ∙ c.loop-i.invariant)

pub decide_rows-returns : goal.decide_rows-returns
decide_rows-returns t c =
    sym (append-nil (map view_decision c.loop-i.out))
    ∙ ap (λ l. map view_decision c.loop-i.out ++ l) (sym (rows-end (map view_decl c.args.world.now) c.args.rows.now c.loop-i.i c.loop-i-test.false)) ∙ c.loop-i.invariant

pub decide_row-decide-requires : goal.decide_row-decide-requires
decide_row-decide-requires t c = (let h = row-weight c.args.row.now in omega (arith, h, c.decreases), tt)
