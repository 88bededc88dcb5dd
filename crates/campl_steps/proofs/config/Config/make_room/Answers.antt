use Rattle.std.proofs.Common.{ℕ, Option, subst, sym, arith}
use Rattle.std.proofs.lemmas.Result.{on_ok_weaker}
use Rattle.campl_value.specs.declared.message.Message.{Message}
use Rattle.campl_cells.specs.Parts.{Tip, owner}
use Rattle.campl_parts.specs.Tables.{HasRoomFor}
use Rattle.campl_steps.specs.Doing.{HasInbox}
use Rattle.campl_steps.proofs.config.Config.make_room.Goals as goal

pub returns-in-Some-clause-ok : goal.returns-in-Some-clause-ok
returns-in-Some-clause-ok c =
    let new = c.make_room_behind.new.self in
    let end = c.in-Some.sent.0 in
    let behind = c.make_room_behind.ensures in
    on_ok_weaker c.make_room_behind.result
    (λ room. record {
      processes = rw behind.processes (omega (arith, c.in_ok-reserve.ensures.ok, c.reserve.new.self.ok.0));
      ends = omega (arith, behind.len, behind.capacity, c.in_ok-reserve-2.ensures.ok, new.ends.ok.0);
      inbox = subst (λ (s : Option (ℕ × Message)). HasInbox new.ends.items s) (sym c.in-Some.is)
          (subst (λ (f : ℕ → Option Tip). HasRoomFor new.ends.items (owner f end) 1) (sym behind.same) room);
    })
    behind.room
