use Rattle.std.proofs.Common.{◌≡◌, ◌++◌, drop, map}
use Rattle.campl_tree.specs.View.{view_decl}
use Rattle.campl_names.specs.Tables.{type_spots, constructor_spots, lower_spots, spots, decls_again}
use Rattle.campl_names.proofs.tables.Tables.add_all.Given as goal

abbrev pub invariant-loop-i : goal.invariant-loop-i
invariant-loop-i l =
    (l.self.types ++ spots type_spots l.i (map view_decl (drop l.i l.declarations)) ≡ l.initial.self.types ++ spots type_spots 0 (map view_decl l.declarations))
    × (l.self.constructors ++ spots constructor_spots l.i (map view_decl (drop l.i l.declarations)) ≡ l.initial.self.constructors ++ spots constructor_spots 0 (map view_decl l.declarations))
    × (l.self.lowers ++ spots lower_spots l.i (map view_decl (drop l.i l.declarations)) ≡ l.initial.self.lowers ++ spots lower_spots 0 (map view_decl l.declarations))
    × (decls_again l.self.types l.self.constructors l.self.lowers l.i (map view_decl (drop l.i l.declarations)) ≡ decls_again l.initial.self.types l.initial.self.constructors l.initial.self.lowers 0 (map view_decl l.declarations))
