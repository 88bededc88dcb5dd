use Rattle.std.proofs.Common.{◌∙◌, ap, sym}
use Rattle.std.proofs.lemmas.Option.{slice_get-map}
use Rattle.std.proofs.lemmas.Result.{on_ok_weaker}
use Rattle.std.specs.Prelude.{option_map}
use Rattle.campl_code.specs.Rules.{or_none}
use Rattle.campl_instructions.specs.View.{view_instr}
use Rattle.campl_rules.specs.Judged.{code_of, block_of}
use Rattle.campl_rules.proofs.Giving.{at-place}
use Rattle.campl_rules.proofs.handing.hand_at.Goals as goal

pub returns-in-Some-at : goal.returns-in-Some-at
returns-in-Some-at c =
    let j = c.args.judged.now in
    on_ok_weaker _
    (at-place c.args.given.now.items c.hand_from.new.given.items (code_of j) j.in_process (block_of j) c.args.heights.now c.args.place (view_instr c.in-Some.x.now) c.in-Some-at.height.now
    (slice_get-map view_instr j.block.now c.args.place ∙ ap (option_map view_instr) (sym c.in-Some.ensures)) (ap or_none (sym c.in-Some-at.ensures)))
    c.hand_from.ensures
