use Rattle.std.proofs.Common.{◌∙◌, ◌-◌, ap, slice_get, arith}
use Rattle.campl_gen_bodies.specs.Commands.{count_numbers, placed_row}
use Rattle.campl_gen_bodies.proofs.Offering.{placed-at}
use Rattle.campl_gen_bodies.proofs.offers.offer_places.Goals as goal

pub rows-preserved : goal.rows-preserved
rows-preserved c =
    record {
      places = c.place_row.ensures ∙ ap (placed_row (slice_get c.args.numbers.now (c.rows.more - 1)) (slice_get c.args.starts.now (c.rows.more - 1))) c.rows.invariant.places
          ∙ placed-at c.args.numbers.now c.args.starts.now (count_numbers c.args.numbers.now) (c.rows.more - 1) c.rows.more (omega (arith, c.rows-test.true)) (omega (arith, c.rows-test.true, c.rows.invariant.within));
      within = omega (arith, c.rows.invariant.within);
    }
