-- What is made so far, as the definitions see it.
use Rattle.std.specs.Prelude.{map, Option, Some, None}
use Rattle.std.specs.Borrow.{Bor}
use Rattle.campl_tree.specs.declared.process.Part.{Part}
use Rattle.campl_tree.specs.Plain.Process.{Parts, no_parts, part_then}
use Rattle.campl_tree.specs.View.{view_part}
use Rattle.campl_instructions.specs.View.{view_decision}
use Rattle.campl_gen_exprs.specs.View.{view_emitter}
use Rattle.campl_gen_channels.specs.declared.channels.Channels.{Channels}
use Rattle.campl_gen_channels.specs.View.{view_channels}
use Rattle.campl_gen_bodies.specs.declared.making.Making.{Making}
use Rattle.campl_gen_bodies.specs.declared.peels.Child.{Child}
use Rattle.campl_gen_bodies.specs.Making as plain
use Rattle.campl_gen_bodies.specs.Actions.{Stage}
use Rattle.campl_gen_bodies.specs.Peels as peels

abbrev pub view_making : Making → plain.Making
view_making m = record { emission = view_emitter m.code; decisions = map view_decision m.decisions }

abbrev pub view_stage : Channels → Making → Stage
view_stage c m = record { next = c.next; held = view_channels c; making = view_making m }

abbrev pub view_child : Child → peels.Child
view_child c = record { at = c.at; channel = c.channel; side = c.side; body = (view_part c.part.now).1; next = c.held.next; held = view_channels c.held }

-- a part alone, where there is one
abbrev pub one_part : Option (Bor Part) → Parts
one_part None = no_parts
one_part (Some p) = part_then (view_part p.now).0 (view_part p.now).1 no_parts
