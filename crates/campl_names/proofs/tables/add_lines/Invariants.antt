use Rattle.std.proofs.Common.{◌≡◌, ◌++◌, drop, map}
use Rattle.campl_names.specs.Tables.{names_in, line_spots, all_again}
use Rattle.campl_names.proofs.tables.add_lines.Given as goal

abbrev pub invariant-loop-i : goal.invariant-loop-i
invariant-loop-i g l =
    (l.table ++ line_spots l.number l.i (map g.L.Line.named (drop l.i l.lines)) ≡ l.initial.table ++ line_spots l.number 0 (map g.L.Line.named l.lines))
    × (all_again (names_in l.table) (map g.L.Line.named (drop l.i l.lines)) ≡ all_again (names_in l.initial.table) (map g.L.Line.named l.lines))
