use Rattle.std.proofs.Common.{rules}
use Rattle.std.proofs.Output.{has_written_append, has_written_of_eq}
use Rattle.campl_shown.proofs.Encoded.{encodes_one_more}
use Rattle.campl_shown.proofs.shown.ShownDisplay.fmt.Goals as goal

pub loop-c-preserved : goal.loop-c-preserved
loop-c-preserved g c =
    λ plain.
    let before = c.loop-c.invariant plain in
    let one_more = encodes_one_more c.args.self.now c.loop-c.c-index c.c-item.result (search rules) (search rules) in
    has_written_of_eq _ _ _ _ _ one_more (has_written_append _ _ _ _ _ _ before (search rules))
