use Rattle.std.proofs.Common.{◌≡◌, ◌++◌, map}
use Rattle.campl_tree.specs.View.{view_seq}
use Rattle.campl_names.specs.Filling.{view_filling}
use Rattle.campl_types.specs.Names.{Name, found}
use Rattle.campl_types.specs.Substitution.{filling}
use Rattle.campl_types.specs.World.{names_of}
use Rattle.campl_names.proofs.Fillings.{filling_from}
use Rattle.campl_names.proofs.filling.Filling.of.Given as goal

abbrev pub invariant-loop-i : goal.invariant-loop-i
invariant-loop-i l =
    (x : Name)
    → found x (view_filling l.filling ++ filling_from l.i l.parameters l.arguments)
    ≡ found x (filling (names_of l.parameters) (map view_seq l.arguments))
