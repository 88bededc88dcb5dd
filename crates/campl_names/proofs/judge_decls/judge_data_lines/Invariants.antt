use Rattle.std.proofs.Common.{◌≡◌, None, drop, map}
use Rattle.campl_tree.specs.Plain.Decl.{DataConstructor}
use Rattle.campl_tree.specs.View.{view_data_constructor, view_decl}
use Rattle.campl_types.specs.Known.{each, in_seq}
use Rattle.campl_names.specs.Scope.{heading}
use Rattle.campl_names.proofs.judge_decls.judge_data_lines.Given as goal

abbrev pub invariant-loop-line : goal.invariant-loop-line
invariant-loop-line l =
    each (λ (n : DataConstructor). each (in_seq (map view_decl l.world) (heading l.parameters None)) n.parts) (map view_data_constructor (drop l.line-index l.lines)) ≡ each (λ (n : DataConstructor). each (in_seq (map view_decl l.world) (heading l.parameters None)) n.parts) (map view_data_constructor l.lines)
