use Rattle.std.proofs.Common.{◌≡◌, drop, map}
use Rattle.campl_tree.specs.View.{view_chan}
use Rattle.campl_types.specs.Run.{is_type_named, all}
use Rattle.campl_names.proofs.run.all_named.Given as goal

abbrev pub invariant-loop-t : goal.invariant-loop-t
invariant-loop-t l = all (is_type_named l.name) (map view_chan (drop l.t-index l.ts)) ≡ all (is_type_named l.name) (map view_chan l.ts)
