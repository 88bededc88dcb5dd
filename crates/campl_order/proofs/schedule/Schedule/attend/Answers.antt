use Rattle.std.proofs.Common.{arith}
use Rattle.campl_order.proofs.schedule.Schedule.attend.Goals as goal

pub flag-requires-clause-ranked : goal.flag-requires-clause-ranked
flag-requires-clause-ranked c =
    let k = c.requires.scheduled in
    (k.0, c.attend.ensures.ranked k.0 k.1.ranked k.2.0 k.2.1)

pub returns-clause-scheduled : goal.returns-clause-scheduled
returns-clause-scheduled c names s next =
    let ranked = c.attend.ensures.ranked names s.ranked next.0 next.1 in
    let fits = c.flag.ensures.fits in
    let more = c.attend.ensures.len in
    record {
      ranked = ranked;
      board = c.flag.ensures.board names ranked s.board;
      within = record {
        flagged = λ i e. let h = fits.flagged i e in omega (arith, h);
        winner = λ k i e. let h = fits.winner k i e in omega (arith, h);
      };
      room = let h = c.flag.ensures.len in let f = c.requires.room.flag in omega (arith, h, f, more);
      waiters = λ e i h. let l = s.waiters e i h in omega (arith, l, more);
    }
