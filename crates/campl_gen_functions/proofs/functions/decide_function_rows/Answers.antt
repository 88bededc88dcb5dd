use Rattle.std.proofs.Common.{◌∙◌, ◌++◌, ap, sym, map, append-nil}
use Rattle.campl_tree.specs.View.{view_decl}
use Rattle.campl_instructions.specs.View.{view_decision}
use Rattle.campl_gen_functions.proofs.Decided.{function-rows-at, function-rows-end, went}
use Rattle.campl_gen_functions.proofs.functions.decide_function_rows.Goals as goal

pub loop-i-preserved : goal.loop-i-preserved
loop-i-preserved c =
    went _ _ _ _ _ c.in_ok-decide_function_row.ensures (ap (λ l. map view_decision c.loop-i.out ++ l) (sym (function-rows-at (map view_decl c.args.world.now) c.args.rows.now c.loop-i.i c.index-rows-i.result c.loop-i-test.true c.index-rows-i.is)) ∙ c.loop-i.invariant)

pub returns : goal.returns
returns c =
    sym (append-nil (map view_decision c.loop-i.out))
    ∙ ap (λ l. map view_decision c.loop-i.out ++ l) (sym (function-rows-end (map view_decl c.args.world.now) c.args.rows.now c.loop-i.i c.loop-i-test.false)) ∙ c.loop-i.invariant
