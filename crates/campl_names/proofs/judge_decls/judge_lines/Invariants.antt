use Rattle.std.proofs.Common.{◌≡◌, drop, map}
use Rattle.campl_tree.specs.View.{view_decl}
use Rattle.campl_types.specs.Known.{each}
use Rattle.campl_names.proofs.judge_decls.judge_lines.Given as goal

abbrev pub invariant-loop-line : goal.invariant-loop-line
invariant-loop-line g l =
    each (g.L.ChannelLine.faults (map view_decl l.world) l.parameters l.own) (drop l.line-index l.lines)
    ≡ each (g.L.ChannelLine.faults (map view_decl l.world) l.parameters l.own) l.lines
