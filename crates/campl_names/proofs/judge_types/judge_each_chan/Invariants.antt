use Rattle.std.proofs.Common.{◌≡◌, None, drop, map}
use Rattle.campl_tree.specs.View.{view_chan, view_decl}
use Rattle.campl_types.specs.Known.{each, in_chan}
use Rattle.campl_names.specs.Scope.{heading}
use Rattle.campl_names.proofs.judge_types.judge_each_chan.Given as goal

abbrev pub invariant-loop-t : goal.invariant-loop-t
invariant-loop-t l =
    each (in_chan (map view_decl l.world) (heading l.parameters None)) (map view_chan (drop l.t-index l.ts)) ≡ each (in_chan (map view_decl l.world) (heading l.parameters None)) (map view_chan l.ts)
