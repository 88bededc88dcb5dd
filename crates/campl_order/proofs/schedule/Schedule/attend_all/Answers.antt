use Rattle.std.proofs.Common.{◌≡◌, ◌+◌, ◌<◌, Bool, List, suc, true, set, length, arith, ap, sym, subst, ◌∙◌, vec_len}
use Rattle.campl_order.specs.declared.order.Rank.{Rank}
use Rattle.campl_order.specs.Orders.{IsNextService, names_at_start}
use Rattle.campl_order.specs.Waiting.{AreFlagged}
use Rattle.campl_order.proofs.Alike.{flagged-next, flagged-same, next-service}
use Rattle.campl_order.proofs.schedule.Schedule.attend_all.Goals as goal

pub attend-requires-clause-scheduled : goal.attend-requires-clause-scheduled
attend-requires-clause-scheduled c =
    let v = c.loop-service.invariant in
    let r = c.in_ok-make_room.ensures in
    let h = ap (λ (l : List Rank). length l) r.order in
    let k = v.ranks in
    let count : suc c.loop-service.service ≡ vec_len c.make_room.new.self.order.ranks = omega (arith, h, k) in
    (names_at_start, r.scheduled names_at_start v.scheduled, subst (IsNextService names_at_start c.loop-service.service) count (next-service c.loop-service.service))

pub loop-service-preserved : goal.loop-service-preserved
loop-service-preserved c =
    let v = c.loop-service.invariant in
    let r = c.in_ok-make_room.ensures in
    let a = c.attend.ensures in
    let n = c.loop-service.service in
    let flags = c.make_room.new.self.board.flags.items in
    let h = ap (λ (l : List Rank). length l) r.order in
    let k = v.ranks in
    let count : n + 1 ≡ vec_len c.make_room.new.self.order.ranks = omega (arith, h, k) in
    let next : suc n ≡ vec_len c.make_room.new.self.order.ranks = omega (arith, h, k) in
    let room : n + 1 < length flags = (let f = r.room.flag in omega (arith, f, count)) in
    let same : c.attend.new.self.waiting.items ≡ c.make_room.new.self.waiting.items = cc a.waiting in
    record {
      ranks = a.len ∙ ap (λ x. x + 1) (sym count);
      flagged = subst (λ (l : List Bool). AreFlagged l (n + 1 + 1)) (sym (a.flags ∙ sym (ap (λ x. set flags x true) count))) (flagged-next flags (n + 1) room (flagged-same c.loop-service.self.board.flags.items flags (n + 1) r.flags v.flagged));
      scheduled = a.scheduled names_at_start (r.scheduled names_at_start v.scheduled) (subst (IsNextService names_at_start n) next (next-service n));
      waiting = same ∙ (r.waiting ∙ v.waiting);
    }
