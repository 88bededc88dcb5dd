use Rattle.std.proofs.Common.{◌∙◌, refl, map}
use Rattle.campl_tree.specs.View.{view_process, view_decl}
use Rattle.campl_seqcheck.specs.Judged.{fine}
use Rattle.campl_held.proofs.Told.{follows}
use Rattle.campl_lincheck.proofs.Turns.{judged-process}
use Rattle.campl_lincheck.proofs.processes.check_process.Goals as goal

pub returns : goal.returns
returns c =
    follows (λ _. fine) _ _ c.judge.result (judged-process (map view_decl c.args.world.now) (view_process c.args.p.now) ∙ rw c.in-Ok.ensures refl) c.judge.ensures.judged
