use Rattle.std.proofs.Common.{◌++◌, ℕ, Option, sym, subst, option_map}
use Rattle.campl_cells.specs.Parts.{Proc, Tip}
use Rattle.campl_cells.specs.Steps.{borne, sent}
use Rattle.campl_cells.specs.Wants.{Drawn}
use Rattle.campl_parts.specs.Tables.{IsThere}
use Rattle.campl_parts.specs.Views.{life_of}
use Rattle.campl_steps.specs.Readiness.{borne_channels, count_of}
use Rattle.campl_steps.proofs.Since.{did-since, same-procs, send-since}
use Rattle.campl_steps.proofs.config.Config.apply_move.Goals as goal

pub move_on-requires-clause-there : goal.move_on-requires-clause-there
move_on-requires-clause-there c =
    subst (λ (f : ℕ → Option Proc). IsThere (f c.args.number)) (sym (same-procs c.args.self.now c.make_room.new.self c.make_room.ensures.same)) c.requires.there

pub move_on-requires-clause-send : goal.move_on-requires-clause-send
move_on-requires-clause-send c = send-since c.args.self.now c.make_room.new.self c.make_room.ensures.same c.args.planned.send c.requires.send

pub returns-in-Ok-clause-did : goal.returns-in-Ok-clause-did
returns-in-Ok-clause-did c =
    did-since c.args.self.now c.make_room.new.self c.make_room.ensures.same c.move_on.new.self c.args.number (life_of c.args.planned.next) (option_map life_of c.args.planned.child)
    (count_of c.args.channels) (λ (d : Drawn) (tip : ℕ → Option Tip). sent c.args.planned.send tip ++ borne (borne_channels d c.args.channels)) c.move_on.ensures.did
