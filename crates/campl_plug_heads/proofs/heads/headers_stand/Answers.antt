use Rattle.std.proofs.Common.{◌∙◌, ◌+◌, sym}
use Rattle.campl_peel.specs.Numbered.{inputs_in, outputs_in}
use Rattle.campl_held.specs.Slots.{view_held}
use Rattle.campl_plug_heads.specs.Heads.{links_named}
use Rattle.campl_plug_heads.proofs.Turns.{went, halted, headers-at, headers-end, numbered-at, numbered-end}
use Rattle.campl_plug_heads.proofs.heads.headers_stand.Goals as goal

pub loop-i-preserved : goal.loop-i-preserved
loop-i-preserved c =
    rw (c.in-Ok.ensures.inputs, c.in-Ok.ensures.outputs) (
      went _ _ _ _ _ c.in-Ok.ensures.judged
          (headers-at (links_named c.args.around.now.links.now) (view_held c.args.around.now.held.now) c.args.parts.now c.loop-i.i c.loop-i.ends.inputs c.loop-i.ends.outputs (c.loop-i.i + 1) c.index-parts-i.result c.loop-i-test.true c.index-parts-i.is)
          c.loop-i.invariant.0,
      numbered-at inputs_in c.args.parts.now c.loop-i.i c.loop-i.ends.inputs (c.loop-i.i + 1) c.index-parts-i.result c.loop-i-test.true c.index-parts-i.is ∙ c.loop-i.invariant.1,
      numbered-at outputs_in c.args.parts.now c.loop-i.i c.loop-i.ends.outputs (c.loop-i.i + 1) c.index-parts-i.result c.loop-i-test.true c.index-parts-i.is ∙ c.loop-i.invariant.2,
    )

pub returns-in-Err-clause-judged : goal.returns-in-Err-clause-judged
returns-in-Err-clause-judged c =
    halted _ _ _ _ _ c.in-Err.ensures.judged
    (headers-at (links_named c.args.around.now.links.now) (view_held c.args.around.now.held.now) c.args.parts.now c.loop-i.i c.loop-i.ends.inputs c.loop-i.ends.outputs (c.loop-i.i + 1) c.index-parts-i.result c.loop-i-test.true c.index-parts-i.is)
    c.loop-i.invariant.0

pub returns-clause-judged : goal.returns-clause-judged
returns-clause-judged c =
    sym c.loop-i.invariant.0 ∙ headers-end (links_named c.args.around.now.links.now) (view_held c.args.around.now.held.now) c.args.parts.now c.loop-i.i _ _ c.loop-i-test.false

pub returns-clause-inputs : goal.returns-clause-inputs
returns-clause-inputs c = sym (numbered-end inputs_in c.args.parts.now c.loop-i.i c.loop-i.ends.inputs (c.loop-i.i + 1) c.loop-i-test.false) ∙ c.loop-i.invariant.1

pub returns-clause-outputs : goal.returns-clause-outputs
returns-clause-outputs c = sym (numbered-end outputs_in c.args.parts.now c.loop-i.i c.loop-i.ends.outputs (c.loop-i.i + 1) c.loop-i-test.false) ∙ c.loop-i.invariant.2
