-- A source is generated, whose text is long: what is known of it is told of the order that it is.
use Rattle.std.proofs.Common.{sym, subst, MatchResult}
use Rattle.campl_cli.specs.Performance.{IsDone}
use Rattle.campl_cli.specs.Refusals.{files, IsRefusedOrder}
use Rattle.campl_orders.specs.Reading.{view}
use Rattle.campl_cli.proofs.command.perform_order.Goals as goal

pub returns-in-Generate : goal.returns-in-Generate
returns-in-Generate g c =
    let held = files g.F.Shelf.holds g.F.Shelf.faults c.args.shelf.now c.args.shelf.now in
    subst (λ order. MatchResult c.run_generated.result (IsDone (view order) held) (IsRefusedOrder (view order) held)) (sym c.in-Generate.is) c.run_generated.ensures
