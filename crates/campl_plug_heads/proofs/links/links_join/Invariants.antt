use Rattle.std.proofs.Common.{◌≡◌, drop, map}
use Rattle.campl_tree.specs.View.{view_link}
use Rattle.campl_plug_heads.specs.Heads.{links_join}
use Rattle.campl_plug_heads.proofs.links.links_join.Given as goal

abbrev pub invariant-loop-i : goal.invariant-loop-i
invariant-loop-i l = links_join l.ends.inputs l.ends.outputs (map view_link (drop l.i l.links)) ≡ links_join l.ends.inputs l.ends.outputs (map view_link l.links)
