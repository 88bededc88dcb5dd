use Rattle.std.proofs.Common.{◌<◌, ◌/◌, None, length, sym, ◌∙◌, arith}
use Rattle.std.proofs.lemmas.List.{get_or_read}
use Rattle.campl_order.specs.Boards.{earlier}
use Rattle.campl_order.proofs.Matches.{after-match, after-same, within-set}
use Rattle.campl_order.proofs.board.Board.flag.Goals as goal

pub returns-then-is_same-clause-board : goal.returns-then-is_same-clause-board
returns-then-is_same-clause-board c names r b =
    let ws = c.up.self.winners.items in
    let q = c.up.place / 2 in
    let read = get_or_read ws _ _ (omega arith) c.index.ensures None in
    after-same (earlier names) c.up.self.flags.items ws q (c.up.invariant.board names r b)
    (sym read ∙ (c.is_same.ensures c.if-is_same.true ∙ c.decide-winner.ensures.decided names r))

pub up-preserved : goal.up-preserved
up-preserved c =
    let ws = c.up.self.winners.items in
    let q = c.up.place / 2 in
    let v = c.up.invariant in
    let small : q < length ws = omega arith in
    record {
      flags = v.flags;
      same = v.same;
      small = omega arith;
      fits = within-set _ c.up.self.flags.items ws q c.decide-winner.result v.fits c.decide-winner.ensures.within small;
      board = λ names r b. after-match (earlier names) c.up.self.flags.items ws q c.decide-winner.result (omega arith) small (v.board names r b) (c.decide-winner.ensures.decided names r);
    }

pub returns-clause-board : goal.returns-clause-board
returns-clause-board c names r b k pos h = c.up.invariant.board names r b k pos h (λ e. let f : ⊥ = omega arith in f)
