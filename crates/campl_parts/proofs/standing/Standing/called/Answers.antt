use Rattle.std.proofs.Common.{◌∙◌, ◌++◌, ap, subst, IfOk, IfSome}
use Rattle.std.specs.Prelude.{replicate}
use Rattle.campl_value.specs.Tree.{Nil}
use Rattle.campl_cells.specs.Parts.{Runs}
use Rattle.campl_cells.specs.Steps.{IsLifeOf}
use Rattle.campl_cells.specs.Wants.{Begins, Start}
use Rattle.campl_eval.specs.View.{code_of}
use Rattle.campl_parts.specs.Views.{held_of}
use Rattle.campl_parts.proofs.standing.Standing.called.Goals as goal

pub returns : goal.returns
returns c b h =
    let head = c.in-Some.ensures b h in
    subst (λ (s : Start). IfOk c.begin_straight.result (λ r. IfSome r (λ r. IsLifeOf (code_of c.args.program.now) (Begins s) (Runs (held_of r)))))
    (λ i. record { block = head.0 i; at = 0; vars = (c.in-Ok.ensures ∙ ap (λ n. c.args.self.now.values.now ++ replicate n Nil) head.1) i; ends = c.in-Ok-given.ensures i })
    c.begin_straight.ensures
