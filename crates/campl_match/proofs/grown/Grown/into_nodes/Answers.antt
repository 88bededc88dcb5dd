use Rattle.std.proofs.Common.{◌∙◌, ap, reverse}
use Rattle.campl_instructions.specs.View.{root}
use Rattle.campl_match.proofs.Trees.{only-root}
use Rattle.campl_match.proofs.grown.Grown.into_nodes.Goals as goal

pub returns : goal.returns
returns c tree e = ap root (c.from_vec.ensures ∙ c.reverse.ensures.items) ∙ only-root (reverse c.args.self.nodes.items) (reverse c.args.self.sizes) tree e
