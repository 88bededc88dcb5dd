use Rattle.std.proofs.Common.{◌∙◌, sym, ap}
use Rattle.campl_eval.specs.View.{has_none}
use Rattle.campl_eval.specs.Chunks.{under}
use Rattle.campl_eval.proofs.Chunked.{not-none}
use Rattle.campl_eval.proofs.stack.Stack.is_empty.Goals as goal

pub returns-else-is_empty : goal.returns-else-is_empty
returns-else-is_empty c = c.if-is_empty.false ∙ not-none c.self.inside.top.len c.self.inside.top.items (under c.self.inside.below) c.self.inside.top.ok.0 (sym c.is_empty.ensures ∙ c.if-is_empty.false) ∙ ap has_none c.self.view_is
