use Rattle.std.proofs.Common.{◌∙◌, ap, sym, Some}
use Rattle.std.specs.Prelude.{slice_get}
use Rattle.campl_code.specs.Decisions.{parts_of}
use Rattle.campl_instructions.proofs.Views.{list-of-trees}
use Rattle.campl_instructions.proofs.choose.part_of.Goals as goal

pub returns-in-None : goal.returns-in-None
returns-in-None c =
    c.in-None.ensures ∙ ap (λ l. slice_get l c.args.n) (sym (list-of-trees c.in-Built.parts.now)) ∙ ap (λ t. slice_get (parts_of t) c.args.n) (sym c.in-Built.ensures)

pub returns-in-Some : goal.returns-in-Some
returns-in-Some c =
    ap Some c.part-in-Some.ensures ∙ c.in-Some.ensures ∙ ap (λ l. slice_get l c.args.n) (sym (list-of-trees c.in-Built.parts.now))
    ∙ ap (λ t. slice_get (parts_of t) c.args.n) (sym c.in-Built.ensures)
