use Rattle.std.proofs.Common.{◌≡◌, ◌++◌, drop}
use Rattle.campl_linear.specs.Plugs.{names_stand}
use Rattle.campl_held.specs.Slots.{view_held}
use Rattle.campl_plug_heads.specs.Heads.{links_named, names_in, marked}
use Rattle.campl_plug_heads.proofs.heads.names_stand.Given as goal

abbrev pub invariant-loop-i : goal.invariant-loop-i
invariant-loop-i l =
    (names_stand (links_named l.around.links.now) (view_held l.around.held.now) l.side (l.also ++ names_in l.before) (drop l.i l.xs)
    ≡ names_stand (links_named l.around.links.now) (view_held l.around.held.now) l.side (l.also ++ names_in l.initial.before) l.xs)
    × (l.before ++ marked l.number (drop l.i l.xs) ≡ l.initial.before ++ marked l.number l.xs)
