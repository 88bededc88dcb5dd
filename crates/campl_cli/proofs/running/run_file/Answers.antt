-- The script is read behind the source.
use Rattle.std.proofs.Common.{refl}
use Rattle.campl_orders.specs.Reading.{texts}
use Rattle.campl_cli.specs.Refusals.{files}
use Rattle.campl_cli.proofs.Readings.{file-run}
use Rattle.campl_cli.proofs.running.run_file.Goals as goal

pub returns-in-Ok : goal.returns-in-Ok
returns-in-Ok g c =
    let whole = files g.F.Shelf.holds g.F.Shelf.faults c.args.shelf.now c.run_text.new.shelf in
    let later = files g.F.Shelf.holds g.F.Shelf.faults c.read_source.new.shelf c.run_text.new.shelf in
    file-run c.run_text.result whole later (record { held = c.in-Ok.ensures.holds_same; before = c.in-Ok.ensures.counts; after = λ name. refl })
    c.args.file.now (texts c.args.script) c.args.budget c.in-Ok.text c.in-Ok.ensures.read c.run_text.ensures
