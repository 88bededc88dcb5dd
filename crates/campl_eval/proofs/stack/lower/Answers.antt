use Rattle.std.proofs.Common.{arith, ◌-◌}
use Rattle.campl_eval.specs.Chunks.{under}
use Rattle.campl_eval.proofs.Chunked.{in-two}
use Rattle.campl_eval.proofs.stack.lower.Goals as goal

pub returns : goal.returns
returns c = rw (c.in_ok-chunk.ensures.ok, c.new.ensures, c.in_ok-frames.ensures.tail, c.in_ok-frames.ensures.items, c.rotate_left.ensures.items, c.take.ensures.value) (in-two 32 (c.len-kept.result - 32) c.args.top.now.items (under c.args.below.now) c.requires (omega (arith, c.len-kept.ensures, c.args.top.now.ok.0)))
