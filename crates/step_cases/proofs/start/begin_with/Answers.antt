use Rattle.std.proofs.Common.{Ok, map}
use Rattle.campl_tree.specs.View.{view_decl}
use Rattle.step_cases.proofs.Starting.{started}
use Rattle.step_cases.proofs.start.begin_with.Goals as goal

pub returns : goal.returns
returns c =
    let (scripts, are) = c.requires.services in
    started (map view_decl c.args.world.now) c.in-Ok-program_of.program c.in-Ok.number (map (λ s. s.serving) c.args.services.items) (Ok c.in-Ok-start.solo)
    c.requires.accepted c.in-Ok-program_of.ensures c.in-Ok.ensures scripts are c.in-Ok-start.ensures
