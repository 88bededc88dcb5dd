use Rattle.std.proofs.Common.{◌∙◌, sym}
use Rattle.campl_instructions.specs.View.{view_instr, view_code}
use Rattle.campl_rules.proofs.Numbered.{block-fault-is}
use Rattle.campl_rules.proofs.rules.block_fault.Goals as goal

pub returns : goal.returns
returns c =
    c.first_bad.ensures
    ∙ block-fault-is view_instr c.args.block.now (view_code c.args.code.now) c.args.in_process _ (sym c.is_empty.ensures ∙ c.if-is_empty.false) (c.as_slice-2.ensures.value ∙ c.in_ok-heights.ensures)
