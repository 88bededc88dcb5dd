use Rattle.std.proofs.Common.{◌∙◌, List, ap, option_map, slice_get, sym}
use Rattle.campl_value.specs.Tree.{Tree}
use Rattle.campl_code.specs.Decisions.{Spot, values_at}
use Rattle.campl_eval.specs.View.{code_of}
use Rattle.campl_instructions.specs.View.{view_code, view_decision}
use Rattle.campl_instructions.specs.declared.block.RawCode.{RawCode}
use Rattle.campl_steps.proofs.InPlace.{case-tried, none-below}
use Rattle.campl_steps.proofs.config.Config.case.Goals as goal

pub returns-in-Ok-Some : goal.returns-in-Ok-Some
returns-in-Ok-Some c =
    case-tried (code_of c.args.program.now) c.args.self.now c.args.number c.in-Some.standing c.in-Some.ensures c.args.decision c.args.first c.args.targets.now (view_decision c.in-Some-decision.decision.now)
    c.in-Some-default-empty.row c.in-Some-item_at.to.now c.requires.at (ap (λ (raw : RawCode). slice_get (view_code raw).decisions c.args.decision) (sym c.raw.ensures.same) ∙ sym c.in-Some-decision.ensures) (c.in-Some-default-empty.ensures ∙ ap (λ (spots : List Spot). option_map (λ (ts : List Tree). (c.in-Some-default-empty.row, ts)) (values_at c.in-Some.standing.values.now spots)) (none-below c.in-Some-default-empty.field-0-1.now c.in-Some-default-empty.len_below)) (sym c.in-Some-item_at.ensures)
    c.in-Ok-Some.reached.at c.in-Ok-Some.reached.values.items (rw c.in-Ok-Some.field-0-is at c.in-Ok-Some.ensures) c.go_to.new.self c.args.journal.now c.go_to.new.journal c.go_to.result c.go_to.ensures
