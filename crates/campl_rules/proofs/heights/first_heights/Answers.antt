use Rattle.std.proofs.Common.{◌∙◌, ap, sym, map}
use Rattle.std.proofs.lemmas.List.{drop_all}
use Rattle.std.specs.Prelude.{slice_set}
use Rattle.campl_code.specs.Heights.{all_children}
use Rattle.campl_instructions.specs.View.{view_instr}
use Rattle.campl_rules.specs.Found.{set_all}
use Rattle.campl_rules.proofs.Beginning.{begun, start}
use Rattle.campl_rules.proofs.heights.first_heights.Goals as goal

pub returns : goal.returns
returns c =
    let block = c.args.block.now in
    sym (ap (λ r. set_all (all_children (map view_instr r)) start c.loop-x.heights.items) (drop_all c.loop-x.x-index block c.loop-x-test.false)) ∙ c.loop-x.invariant
    ∙ ap (set_all (all_children (map view_instr block)) start) (c.begin_at.ensures ∙ ap (λ l. slice_set l 0 start) c.in_ok-heights.ensures)
    ∙ begun view_instr block (all_children (map view_instr block))
