use Rattle.std.proofs.Common.{◌≡◌, IfOk, ap, ◌∙◌, subst}
use Rattle.campl_cells.specs.Wants.{Begins, Start, set_end}
use Rattle.campl_cells.specs.Steps.{IsLifeOf}
use Rattle.campl_eval.specs.View.{code_of}
use Rattle.campl_parts.specs.Ends.{ends_of}
use Rattle.campl_parts.specs.Plans.{begun_of}
use Rattle.campl_parts.specs.Views.{life_of}
use Rattle.campl_parts.specs.Wanted.{start_of}
use Rattle.campl_parts.proofs.place.Place.begin_holding_two.Goals as goal

pub returns : goal.returns
returns c =
    let left = c.args.left in
    let right = c.args.right in
    let b : begun_of c.in_ok-begun.begun ≡ start_of c.args.self.now = c.in_ok-begun.ensures in
    let first : ends_of c.set.new.self ≡ set_end left.0 left.1 (ends_of c.in_ok-begun.begun.ends) = c.in_ok-set.ensures in
    let second : ends_of c.set-2.new.self ≡ set_end right.0 right.1 (ends_of c.set.new.self) = c.in_ok-set-2.ensures in
    let e : ends_of c.set-2.new.self ≡ set_end right.0 right.1 (set_end left.0 left.1 (start_of c.args.self.now).ends) =
    second ∙ ap (set_end right.0 right.1) (first ∙ ap (λ (q : Start). set_end left.0 left.1 q.ends) b) in
    subst (λ (q : Start). IfOk c.begin.result (λ life. IsLifeOf (code_of c.args.program.now) (Begins q) (life_of life))) (λ i. record { block = (b i).block; at = (b i).at; vars = (b i).vars; ends = e i }) c.begin.ensures
