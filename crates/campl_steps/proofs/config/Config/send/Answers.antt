use Rattle.std.proofs.Common.{◌≡◌, ◌∙◌, ap, sym}
use Rattle.campl_cells.specs.Parts.{owner}
use Rattle.campl_parts.specs.Journal.{brief_entry}
use Rattle.campl_parts.specs.Standing.{kept_by, reached_kept}
use Rattle.campl_parts.specs.Tables.{tips}
use Rattle.campl_steps.proofs.InPlace.{sent-went}
use Rattle.campl_steps.proofs.config.Config.send.Goals as goal

pub returns : goal.returns
returns c =
    let old = c.args.self.now in
    let mid = c.make_room_behind.new.self in
    let place : c.owner-to.result ≡ owner (tips old.ends.items) c.args.end = c.owner-to.ensures ∙ ap (λ es. owner (tips es) c.args.end) c.as_slice.ensures.value in
    sent-went old mid _ c.args.number (kept_by (reached_kept c.args.reached.at c.args.reached.values.items))
    (brief_entry c.args.number c.args.told) c.args.end c.owner-to.result c.args.message c.args.journal.now c.note.new.self c.note.ensures place
    c.make_room_behind.ensures.processes c.make_room_behind.ensures.same (sym mid.ends.ok.0 ∙ (c.make_room_behind.ensures.len ∙ old.ends.ok.0))
    c.reach.ensures.goes c.arrive.ensures.arrived (sym c.reach.new.processes.ok.0 ∙ (c.reach.ensures.len ∙ mid.processes.ok.0)) (sym c.arrive.new.ends.ok.0 ∙ (c.arrive.ensures.len ∙ mid.ends.ok.0))
