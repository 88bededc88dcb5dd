use Rattle.std.proofs.Common.{set, get_or, ap, ◌∙◌, arith}
use Rattle.std.proofs.lemmas.List.Edits.{map_over_more}
use Rattle.std.proofs.lemmas.List.{get_or_default}
use Rattle.campl_plug.specs.Labels.{relabel_of}
use Rattle.campl_plug.proofs.labels.relabel.Goals as goal

pub loop-label-preserved : goal.loop-label-preserved
loop-label-preserved c =
    ap (λ z. set c.loop-label.labels c.loop-label.label-index z) c.relabelled.ensures
    ∙ map_over_more (relabel_of c.args.from c.args.to) c.args.labels.now c.loop-label.labels c.loop-label.label-index (get_or c.loop-label.labels c.loop-label.label-index 0) c.loop-label-test.true c.loop-label.invariant (get_or_default c.loop-label.labels c.loop-label.label-index 0 (get_or c.loop-label.labels c.loop-label.label-index 0) (omega (arith, c.loop-label-test.true, c.loop-label.auto.labels)))
