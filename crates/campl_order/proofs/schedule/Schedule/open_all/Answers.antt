use Rattle.std.proofs.Common.{◌∷◌, [], None, refl, ◌∙◌, arith, length, ap, List, Option, ℕ, length-append}
use Rattle.campl_order.proofs.Alike.{scheduled-same}
use Rattle.campl_order.proofs.schedule.Schedule.open_all.Goals as goal

pub returns-in_err-reserve-clause-scheduled : goal.returns-in_err-reserve-clause-scheduled
returns-in_err-reserve-clause-scheduled c names s =
    scheduled-same names c.loop-opened.self _ refl refl c.reserve.ensures.items (c.loop-opened.invariant.scheduled names s)

pub loop-opened-preserved : goal.loop-opened-preserved
loop-opened-preserved c =
    let v = c.loop-opened.invariant in
    let o = c.open.ensures in
    let more = ap (λ (l : List (Option ℕ)). length l) o.waiting ∙ length-append c.reserve.new.self.items (None ∷ None ∷ []) in
    let same = ap (λ (l : List (Option ℕ)). length l) c.reserve.ensures.items in
    let w = v.waiting in
    record {
      waiting = omega (arith, more, same, w);
      order = o.order ∙ v.order;
      board = o.board ∙ v.board;
      scheduled = λ names s. o.scheduled names (scheduled-same names c.loop-opened.self _ refl refl c.reserve.ensures.items (v.scheduled names s));
    }
