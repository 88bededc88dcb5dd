use Rattle.std.proofs.Common.{◌≡◌, drop, map}
use Rattle.campl_tree.specs.View.{view_decl}
use Rattle.campl_free.specs.Racing.{has_race}
use Rattle.campl_free.proofs.racing.has_race.Given as goal

abbrev pub invariant-loop-declaration : goal.invariant-loop-declaration
invariant-loop-declaration l = has_race (map view_decl (drop l.declaration-index l.declarations)) ≡ has_race (map view_decl l.declarations)
