use Rattle.std.proofs.Common.{◌≡◌, ◌++◌, ◌+◌, [], drop, map}
use Rattle.campl_tree.specs.View.{view_part, parts}
use Rattle.campl_peel.specs.Numbered.{inputs_in, outputs_in}
use Rattle.campl_linear.specs.Plugs.{headers_stand}
use Rattle.campl_held.specs.Slots.{view_held}
use Rattle.campl_plug_heads.specs.Heads.{links_named, names_in, numbered}
use Rattle.campl_plug_heads.proofs.heads.headers_stand.Given as goal

abbrev pub invariant-loop-i : goal.invariant-loop-i
invariant-loop-i l =
    (headers_stand (links_named l.around.links.now) (view_held l.around.held.now) (names_in l.ends.inputs) (names_in l.ends.outputs) (parts (map view_part (drop l.i l.parts)))
    ≡ headers_stand (links_named l.around.links.now) (view_held l.around.held.now) [] [] (parts (map view_part l.parts)))
    × (l.ends.inputs ++ numbered inputs_in (l.i + 1) (parts (map view_part (drop l.i l.parts))) ≡ numbered inputs_in 1 (parts (map view_part l.parts)))
    × (l.ends.outputs ++ numbered outputs_in (l.i + 1) (parts (map view_part (drop l.i l.parts))) ≡ numbered outputs_in 1 (parts (map view_part l.parts)))
