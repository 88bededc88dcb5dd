-- The body of a fork's row with the channels that it holds.
use Rattle.campl_tree.specs.View.{view_body}
use Rattle.campl_tree.specs.declared.process.Branch.{Branch, out-Branch}
use Rattle.campl_types.specs.World.{World}
use Rattle.campl_gen_channels.specs.declared.channels.Channels.{Channels}
use Rattle.campl_gen_channels.specs.View.{view_channels}
use Rattle.campl_gen_bodies.specs.Making.{Making, built}

-- what is made with the code of this row's body behind it
abbrev pub half_built : World → Branch → Channels → Making → Making
half_built w row held = built w (view_body (out-Branch row).body) held.next (view_channels held)
