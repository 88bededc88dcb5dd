use Rattle.std.proofs.Common.{ℕ, Option, None, sym, ◌∙◌, subst, arith, ◌<◌, length}
use Rattle.campl_cells.specs.Parts.{Proc, Tip, owner, written}
use Rattle.campl_cells.specs.Steps.{sent}
use Rattle.campl_parts.specs.Serving.{Says}
use Rattle.campl_parts.specs.Tables.{HasRoomFor, IsThere, tips}
use Rattle.campl_steps.specs.Doing.{HasInbox, IsGivenAt, IsSendThere, owners}
use Rattle.campl_steps.proofs.Since.{same-procs, same-tips, served-since, said-there, said-room}
use Rattle.campl_steps.proofs.config.Config.apply_saying.Goals as goal

pub say-requires-clause-there : goal.say-requires-clause-there
say-requires-clause-there c =
    subst (λ (f : ℕ → Option Proc). IsThere (f c.args.number)) (sym (same-procs c.args.self.now c.make_room_to_say.new.self c.make_room_to_say.ensures.same)) c.requires.there

pub say-requires-clause-given : goal.say-requires-clause-given
say-requires-clause-given c =
    subst (λ (f : ℕ → Option Proc). IsGivenAt (f c.args.number) None) (sym (same-procs c.args.self.now c.make_room_to_say.new.self c.make_room_to_say.ensures.same)) c.requires.given

pub deliver-requires-clause-there : goal.deliver-requires-clause-there
deliver-requires-clause-there c =
    let mid = c.make_room_to_say.new.self in
    let t : owner (tips mid.ends.items) c.args.end < length mid.ends.items =
    subst (λ (f : ℕ → Option Tip). owner f c.args.end < length mid.ends.items) (sym (same-tips c.args.self.now mid c.make_room_to_say.ensures.same)) (omega (arith, c.make_room_to_say.ensures.same.ends)) in
    subst (λ o. IsSendThere mid.ends.items o) (sym c.on_end-said.ensures) (said-there mid.ends.items c.args.end c.say.result t)

pub deliver-requires-clause-room : goal.deliver-requires-clause-room
deliver-requires-clause-room c =
    let mid = c.make_room_to_say.new.self in
    let r : HasRoomFor mid.ends.items (owner (tips mid.ends.items) c.args.end) 1 =
    subst (λ (f : ℕ → Option Tip). HasRoomFor mid.ends.items (owner f c.args.end) 1) (sym (same-tips c.args.self.now mid c.make_room_to_say.ensures.same)) c.in-Ok.ensures.inbox in
    subst (λ o. HasInbox mid.ends.items o) (sym c.on_end-said.ensures) (said-room mid.ends.items c.args.end c.say.result r)

pub returns-clause-did : goal.returns-clause-did
returns-clause-did c =
    let old = c.args.self.now in
    let mid = c.make_room_to_say.new.self in
    let last = c.deliver.new.self in
    let t = same-tips old mid c.make_room_to_say.ensures.same in
    let on = c.on_end-said.ensures in
    record {
      said = c.say.result;
      did = record {
        process = λ q h. served-since (Says c.say.result) old.processes.items mid.processes.items c.say.new.processes.items last.processes.items c.args.number q
            (same-procs old mid c.make_room_to_say.ensures.same) (λ i. (c.deliver.ensures.processes i).items) c.say.ensures.goes h;
        tip = c.deliver.ensures.arrived ∙ (λ i. written (sent (on i) (t i)) (t i));
        processes = (λ i. length (c.deliver.ensures.processes i).items) ∙ omega (arith, c.say.ensures.len, c.make_room_to_say.ensures.same.processes, c.say.new.processes.ok.0, mid.processes.ok.0);
        ends = omega (arith, c.deliver.ensures.len, c.make_room_to_say.ensures.same.ends, last.ends.ok.0, mid.ends.ok.0);
      };
      at = c.deliver.ensures.changed ∙ (λ i. owners (t i) (on i));
    }
