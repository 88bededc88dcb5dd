use Rattle.std.proofs.Common.{arith, vec_len, ap, ◌∙◌, ◌++◌, ◌∷◌, []}
use Rattle.campl_cells.specs.Steps.{joined_to}
use Rattle.campl_parts.proofs.Tabled.{channel-born}
use Rattle.campl_parts.proofs.wires.channel.Goals as goal

pub returns-clause-born : goal.returns-clause-born
returns-clause-born c k h = channel-born c.args.ends.now.items c.push_reserved-2.new.self.items c.joined_to.result c.joined_to-2.result (vec_len c.args.ends.now) k
    (c.push_reserved-2.ensures.items ∙ ap (λ l. l ++ c.joined_to-2.result ∷ []) c.push_reserved.ensures.items) c.args.ends.now.ok.0 h
    (c.joined_to.ensures ∙ ap joined_to (omega arith)) (c.joined_to-2.ensures ∙ ap joined_to c.len-near.ensures)
