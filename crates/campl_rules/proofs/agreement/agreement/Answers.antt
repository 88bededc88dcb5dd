use Rattle.std.proofs.Common.{◌∙◌, ◌<◌, ◌≤◌, ap, sym, arith, length, map, drop, true}
use Rattle.std.proofs.lemmas.Bool.{ltb-false}
use Rattle.std.proofs.lemmas.List.{drop_all, length-map}
use Rattle.std.specs.Prelude.{slice_get}
use Rattle.campl_code.specs.Rules.{height_at}
use Rattle.campl_instructions.specs.View.{view_instr}
use Rattle.campl_rules.specs.Judged.{code_of, block_of}
use Rattle.campl_rules.proofs.Agreeing.{all-end, agrees-without, agrees-past, rest-agrees}
use Rattle.campl_rules.proofs.Items.{item-replicate}
use Rattle.campl_rules.proofs.agreement.agreement.Goals as goal

pub returns-in-None : goal.returns-in-None
returns-in-None c to h =
    let j = c.args.judged.now in
    let at = c.loop-at.at in
    let hs = c.args.heights.now in
    let past : length hs ≤ at = ltb-false at (length hs) (sym c.in-None.ensures.lookup.0) in
    let within : to < length j.block.now = omega (arith, h, length-map j.block.now view_instr) in
    all-end c.in_ok-agrees.agrees.items c.loop-at.agrees.items (rest-agrees (code_of j) j.in_process (block_of j) at (map view_instr (drop at j.block.now)) (drop at hs) hs)
    (rest-agrees (code_of j) j.in_process (block_of j) 0 (block_of j) hs hs) to
    (ap (λ l. slice_get l to) (c.in_ok-agrees.ensures.items_if_clones_equal (λ y e. e)) ∙ item-replicate _ to true within)
    (λ n. agrees-without (code_of j) j.in_process (block_of j) at (map view_instr (drop at j.block.now)) (drop at hs) n (height_at hs n) (drop_all at hs past))
    c.loop-at.invariant

pub returns : goal.returns
returns c to h =
    let j = c.args.judged.now in
    let at = c.loop-at.at in
    let hs = c.args.heights.now in
    let within : to < length j.block.now = omega (arith, h, length-map j.block.now view_instr) in
    all-end c.in_ok-agrees.agrees.items c.loop-at.agrees.items (rest-agrees (code_of j) j.in_process (block_of j) at (map view_instr (drop at j.block.now)) (drop at hs) hs)
    (rest-agrees (code_of j) j.in_process (block_of j) 0 (block_of j) hs hs) to
    (ap (λ l. slice_get l to) (c.in_ok-agrees.ensures.items_if_clones_equal (λ y e. e)) ∙ item-replicate _ to true within)
    (λ n. agrees-past (code_of j) j.in_process (block_of j) at (map view_instr (drop at j.block.now)) (drop at hs) n (height_at hs n) (ap (map view_instr) (drop_all at j.block.now c.loop-at-test.false)))
    c.loop-at.invariant
