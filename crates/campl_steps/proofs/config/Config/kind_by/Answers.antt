use Rattle.std.proofs.Common.{ap, ◌∙◌}
use Rattle.campl_eval.specs.View.{code_of}
use Rattle.campl_cells.specs.Wants.{Want}
use Rattle.campl_cells.specs.Steps.{by_want}
use Rattle.campl_parts.specs.Tables.{tips}
use Rattle.campl_parts.specs.Views.{drawn_of, life_of}
use Rattle.campl_steps.specs.declared.watch.TheConstants.{NONE_DRAWN}
use Rattle.campl_steps.specs.Outlook.{kind_in}
use Rattle.campl_steps.proofs.Drawing.{kinds-same}
use Rattle.campl_steps.proofs.config.Config.kind_by.Goals as goal

pub returns : goal.returns
returns c d p =
    let tip = tips c.args.self.now.ends.items in
    c.kind_for.ensures d p
    ∙ ap (λ (o : Want). kind_in (by_want tip d p o)) c.want.ensures
    ∙ kinds-same tip p d (drawn_of NONE_DRAWN) d (code_of c.args.program.now) (life_of c.args.part.now.life) c.args.branch
