use Rattle.std.proofs.Common.{◌≡◌, ◌++◌, drop, map}
use Rattle.campl_tree.specs.View.{view_link}
use Rattle.campl_plug_heads.specs.Heads.{joined_in}
use Rattle.campl_plug_heads.proofs.tree.joined_parts.Given as goal

abbrev pub invariant-loop-link : goal.invariant-loop-link
invariant-loop-link l =
    l.joined.items ++ map (joined_in l.ends.inputs l.ends.outputs) (map view_link (drop l.link-index l.links)) ≡ map (joined_in l.ends.inputs l.ends.outputs) (map view_link l.links)
