use Rattle.std.proofs.Common.{sym, ◌∙◌}
use Rattle.campl_code.specs.Decisions.{chosen}
use Rattle.campl_instructions.specs.View.{view_decision}
use Rattle.campl_parts.proofs.Choosing.{row-found, row-missing}
use Rattle.campl_parts.proofs.wanting.Ready.find.Goals as goal

pub returns-then-are_there : goal.returns-then-are_there
returns-then-are_there c =
    row-found c.in-Some.row.0 c.args.self.now.values.now c.in-Some.row.1.now (chosen (view_decision c.args.decision.now).tree c.args.self.now.values.now) c.in-Some.ensures (sym c.are_there.ensures ∙ c.if-are_there.true)

pub returns-else-are_there : goal.returns-else-are_there
returns-else-are_there c =
    row-missing c.in-Some.row.0 c.args.self.now.values.now c.in-Some.row.1.now (chosen (view_decision c.args.decision.now).tree c.args.self.now.values.now) c.in-Some.ensures (sym c.are_there.ensures ∙ c.if-are_there.false)
