use Rattle.std.proofs.Common.{◌≡◌, ◌∙◌, ap, sym, true, false, map}
use Rattle.std.specs.Prelude.{◌&&◌}
use Rattle.campl_instructions.specs.View.{view_block}
use Rattle.campl_program.specs.Onward.{blocks_onward}
use Rattle.campl_program.proofs.Onward.{both-onward}
use Rattle.campl_program.proofs.program.leads_onward.Goals as goal

pub returns-then-are_onward : goal.returns-then-are_onward
returns-then-are_onward c =
    let functions : blocks_onward (map view_block c.args.code.now.functions) ≡ true = ap (λ s. blocks_onward (map view_block s)) (sym c.as_slice.ensures) ∙ sym c.are_onward.ensures ∙ c.if-are_onward.true in
    c.are_onward-then-are_onward.ensures ∙ ap (λ s. blocks_onward (map view_block s)) c.as_slice-then-are_onward.ensures
    ∙ ap (λ b. b && blocks_onward (map view_block c.args.code.now.processes)) (sym functions) ∙ sym (both-onward (map view_block c.args.code.now.functions) (map view_block c.args.code.now.processes))

pub returns-else-are_onward : goal.returns-else-are_onward
returns-else-are_onward c =
    let functions : blocks_onward (map view_block c.args.code.now.functions) ≡ false = ap (λ s. blocks_onward (map view_block s)) (sym c.as_slice.ensures) ∙ sym c.are_onward.ensures ∙ c.if-are_onward.false in
    c.if-are_onward.false
    ∙ ap (λ b. b && blocks_onward (map view_block c.args.code.now.processes)) (sym functions) ∙ sym (both-onward (map view_block c.args.code.now.functions) (map view_block c.args.code.now.processes))
