use Rattle.std.proofs.Common.{◌∙◌, ap, sym}
use Rattle.campl_value.specs.Tree.{built}
use Rattle.campl_code.specs.Decisions.{head_of, same_head}
use Rattle.campl_instructions.specs.View.{view_head}
use Rattle.campl_instructions.proofs.Views.{same-built}
use Rattle.campl_instructions.proofs.choose.has_head.Goals as goal

pub returns-then-c-d : goal.returns-then-c-d
returns-then-c-d c =
    let there = c.in-Built-Built in
    same-built there.c there.d there.n there.parts.now c.if-c-d.true ∙ ap (λ h. same_head (view_head h) (head_of (built there.d there.parts.now))) (sym there.is-0)
    ∙ ap (λ t. same_head (view_head c.args.head.now) (head_of t)) (sym there.ensures)
