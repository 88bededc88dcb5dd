use Rattle.std.proofs.Common.{◌≡◌, ◌*◌, ◌+◌, ◌&&◌, ℕ, List, Bool, false, nat_lt, vec_len, sym, ap, subst, ◌∙◌, arith}
use Rattle.std.proofs.lemmas.List.{get_or_read}
use Rattle.campl_order.specs.declared.board.Board.{Board}
use Rattle.campl_machine.specs.Names.{Who}
use Rattle.campl_order.specs.Orders.{Ranked}
use Rattle.campl_order.specs.Boards.{IsBoard, Within, is_flagged, earlier}
use Rattle.campl_order.proofs.Matches.{flag-more, flag-skip}
use Rattle.campl_order.proofs.board.Board.grow.Goals as goal
use Rattle.campl_order.proofs.board.Board.grow.Goals.{then-index, else-index}

pub loop-i-preserved : goal.loop-i-preserved
loop-i-preserved c =
    let v = c.loop-i.invariant in
    let gs = c.args.self.now.flags.items in
    let i = c.loop-i.i in
    let order = c.args.order.now in
    let Kept : Board → Type 0 = λ next. (vec_len next.flags ≡ 2 * c.len-size.result) × ((k : ℕ) → is_flagged next.flags.items k ≡ nat_lt k (i + 1) && is_flagged gs k) × Within (vec_len order.ranks) next.flags.items next.winners.items
    × ((names : ℕ → Who) → Ranked names order.ranks.items → IsBoard (earlier names) next.flags.items next.winners.items) in
    let read = get_or_read gs _ _ (omega arith) c.index.ensures false in
    let k : Kept c.if-index.next = elim c.if-index.branch [
      | then-index w ↦
          subst Kept (sym w.next-is) (
            w.flag.ensures.len ∙ v.sized,
            λ k. ap (λ (l : List Bool). is_flagged l k) w.flag.ensures.flags ∙ flag-more c.loop-i.next.flags.items gs i v.flags (sym read ∙ w.if-index.true) (let e = v.sized in omega (arith, e)) k,
            w.flag.ensures.fits,
            λ names r. w.flag.ensures.board names r (v.board names r),
          )
      | else-index w ↦ subst Kept (sym w.next-is) (v.sized, flag-skip c.loop-i.next.flags.items gs i v.flags (sym read ∙ w.if-index.false), v.fits, v.board)
    ] in
    record { sized = k.0; flags = k.1; fits = k.2; board = k.3 }
