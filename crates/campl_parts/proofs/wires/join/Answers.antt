use Rattle.std.proofs.Common.{◌≡◌, ℕ, ap, ◌∙◌, Option, Some}
use Rattle.campl_cells.specs.Parts.{Tip, bare, or_bare, put}
use Rattle.campl_parts.specs.Tables.{tips}
use Rattle.campl_parts.proofs.Tabled.{joins-made}
use Rattle.campl_parts.proofs.wires.join.Goals as goal

pub returns-clause-ok : goal.returns-clause-ok
returns-clause-ok c =
    let room : tips c.make_room_for-2.new.ends.items ≡ tips c.args.ends.now.items = c.make_room_for-2.ensures.same ∙ c.make_room_for.ensures.same in
    let a = c.requires.apart in
    joins-made (tips c.args.ends.now.items) (tips c.leave-left.new.ends.items) (tips c.leave-right.new.ends.items) (tips c.meet.new.ends.items) (tips c.meet-2.new.ends.items)
    c.args.x c.args.y c.args.x2 c.args.y2 c.leave-left.result.items c.leave-right.result.items a.0 a.1 a.2 a.3 a.4 a.5
    (c.leave-left.ensures.left ∙ ap (put c.args.x (Some bare)) room) (c.leave-left.ensures.messages ∙ ap (λ (f : ℕ → Option Tip). (or_bare (f c.args.x)).inbox) room)
    c.leave-right.ensures.left c.leave-right.ensures.messages c.meet.ensures.met c.meet-2.ensures.met
