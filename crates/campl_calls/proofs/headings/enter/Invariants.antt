use Rattle.std.proofs.Common.{◌≡◌, ◌++◌, map, drop}
use Rattle.campl_tree.specs.View.{view_chan}
use Rattle.campl_seqcheck.specs.Judged.{fine, Is}
use Rattle.campl_linear.specs.Processes.{names_differ, entering}
use Rattle.campl_held.specs.Slots.{view_held}
use Rattle.campl_calls.specs.Headings.{held_names}
use Rattle.campl_calls.proofs.headings.enter.Given as goal

abbrev pub invariant-loop-i : goal.invariant-loop-i
invariant-loop-i l =
    record {
      differ : names_differ (held_names (view_held l.held)) (drop l.i l.names) ≡ Is fine;
      entered : view_held l.held ++ entering l.side (drop l.i l.names) (map view_chan (drop l.i l.types)) ≡ view_held l.initial.held ++ entering l.side l.names (map view_chan l.types);
    }
