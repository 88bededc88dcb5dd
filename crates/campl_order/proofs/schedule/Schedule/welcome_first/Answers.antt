use Rattle.std.proofs.Common.{arith, ap, length, List}
use Rattle.campl_order.specs.declared.order.Rank.{Rank}
use Rattle.campl_order.proofs.schedule.Schedule.welcome_first.Goals as goal

pub flag-requires-clause-ranked : goal.flag-requires-clause-ranked
flag-requires-clause-ranked c =
    let k = c.requires.scheduled in
    (k.0, c.bear_first.ensures.ranked k.0 k.2)

pub returns-clause-scheduled : goal.returns-clause-scheduled
returns-clause-scheduled c names s first =
    let ranked = c.bear_first.ensures.ranked names first in
    let fits = c.flag.ensures.fits in
    let none = ap (λ (l : List Rank). length l) c.requires.first in
    let one = c.bear_first.ensures.len in
    record {
      ranked = ranked;
      board = c.flag.ensures.board names ranked s.board;
      within = record {
        flagged = λ i e. let h = fits.flagged i e in omega (arith, h);
        winner = λ k i e. let h = fits.winner k i e in omega (arith, h);
      };
      room = let h = c.flag.ensures.len in let f = c.requires.room.flag in omega (arith, h, f, one);
      waiters = λ e i h. let l = s.waiters e i h in omega (arith, l, none);
    }
