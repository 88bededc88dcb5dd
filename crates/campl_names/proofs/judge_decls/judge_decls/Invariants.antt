use Rattle.std.proofs.Common.{◌≡◌, drop, map}
use Rattle.campl_tree.specs.View.{view_decl}
use Rattle.campl_types.specs.Known.{each, in_decl}
use Rattle.campl_names.proofs.judge_decls.judge_decls.Given as goal

abbrev pub invariant-loop-declaration : goal.invariant-loop-declaration
invariant-loop-declaration l = each (in_decl (map view_decl l.world)) (map view_decl (drop l.declaration-index l.declarations)) ≡ each (in_decl (map view_decl l.world)) (map view_decl l.declarations)
