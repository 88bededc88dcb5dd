use Rattle.std.proofs.Common.{◌∙◌, ap}
use Rattle.campl_eval.specs.View.{has_none}
use Rattle.campl_eval.specs.Chunks.{under}
use Rattle.campl_eval.proofs.Chunked.{never}
use Rattle.campl_eval.proofs.chunk.Chunk.is_empty.Goals as goal

pub returns : goal.returns
returns c = c.is_empty.ensures ∙ never c.self.inside.frames.len c.self.inside.frames.items (under c.self.inside.below) c.self.inside.frames.ok.0 c.self.invariant ∙ ap has_none c.self.view_is
