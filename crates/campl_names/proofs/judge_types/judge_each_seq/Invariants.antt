use Rattle.std.proofs.Common.{◌≡◌, None, drop, map}
use Rattle.campl_tree.specs.View.{view_seq, view_decl}
use Rattle.campl_types.specs.Known.{each, in_seq}
use Rattle.campl_names.specs.Scope.{heading}
use Rattle.campl_names.proofs.judge_types.judge_each_seq.Given as goal

abbrev pub invariant-loop-t : goal.invariant-loop-t
invariant-loop-t l =
    each (in_seq (map view_decl l.world) (heading l.parameters None)) (map view_seq (drop l.t-index l.ts)) ≡ each (in_seq (map view_decl l.world) (heading l.parameters None)) (map view_seq l.ts)
