use Rattle.campl_cells.specs.Steps.{IsLifeOf}
use Rattle.campl_cells.specs.Wants.{Spends}
use Rattle.campl_eval.specs.View.{code_of}
use Rattle.campl_kept.specs.View.{view_kept}
use Rattle.campl_parts.specs.Views.{held_of}
use Rattle.campl_parts.proofs.Living.{same_life, spent_life}
use Rattle.campl_parts.proofs.part.Running.spend.Goals as goal

pub returns : goal.returns
returns c =
    same_life c.runs.result _ (IsLifeOf (code_of c.args.program.now) (Spends (held_of c.args.self.now))) c.runs.ensures
    (spent_life (code_of c.args.program.now) c.args.self.now.block c.args.self.now.ends c.in_ok-ends.ends (view_kept c.args.self.now.kept) (view_kept c.in-Ok.kept)
    (view_kept c.advance.new.self) c.in_ok-ends.ensures c.in-Ok.ensures.kept c.in-Ok-advance.ensures.kept)
