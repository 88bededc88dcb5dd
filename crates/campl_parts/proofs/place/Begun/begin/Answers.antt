use Rattle.std.proofs.Common.{refl}
use Rattle.campl_cells.specs.Steps.{IsLifeOf}
use Rattle.campl_cells.specs.Wants.{Begins}
use Rattle.campl_eval.specs.View.{code_of}
use Rattle.campl_kept.specs.View.{view_kept}
use Rattle.campl_parts.specs.Plans.{begun_of}
use Rattle.campl_parts.proofs.Living.{same_life}
use Rattle.campl_parts.proofs.place.Begun.begin.Goals as goal

pub returns : goal.returns
returns c =
    same_life c.runs.result _ (IsLifeOf (code_of c.args.program.now) (Begins (begun_of c.args.self))) c.runs.ensures
    (view_kept c.in_ok-kept.kept, refl, c.in_ok-kept.ensures)
