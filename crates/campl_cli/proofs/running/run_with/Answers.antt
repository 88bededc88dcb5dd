-- The code is that of the source, and its run is what is reported.
use Rattle.std.specs.Prelude.{map}
use Rattle.campl_tree.specs.View.{view_decl}
use Rattle.campl_instructions.specs.View.{view_code}
use Rattle.campl_cli.proofs.WholeRuns.{has-run, world-forward, world-stands}
use Rattle.campl_cli.proofs.running.run_with.Goals as goal

pub run-requires-clause-onward : goal.run-requires-clause-onward
run-requires-clause-onward c = world-forward (map view_decl c.args.world) (view_code c.in-Ok.code) c.in-Ok.ensures

pub run-requires-clause-accepted : goal.run-requires-clause-accepted
run-requires-clause-accepted c =
    let (source, accepted, same) = c.requires.accepted in
    (source, accepted, same, world-stands source (map view_decl c.args.world) (view_code c.in-Ok.code) accepted same c.in-Ok.ensures)

pub returns-in-Ok-run : goal.returns-in-Ok-run
returns-in-Ok-run c = λ source accepted same.
    let stands = world-stands source (map view_decl c.args.world) (view_code c.in-Ok.code) accepted same c.in-Ok.ensures in
    has-run source c.args.scripts c.args.budget c.in-Ok-run.ran c.performed.result c.performed.ensures (c.in-Ok-run.ensures source accepted same stands)
