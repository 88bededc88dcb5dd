use Rattle.std.proofs.Common.{◌≡◌, drop, map}
use Rattle.campl_tree.specs.View.{view_seq, seq_types}
use Rattle.campl_types.specs.SameTest as test
use Rattle.campl_names.proofs.same.+same.Given as goal

abbrev pub invariant-same_seqs-loop-i : goal.invariant-same_seqs-loop-i
invariant-same_seqs-loop-i l =
    test.same_seqs (seq_types (map view_seq l.ts)) (seq_types (map view_seq l.us))
    ≡ test.same_seqs (seq_types (map view_seq (drop l.i l.ts))) (seq_types (map view_seq (drop l.i l.us)))
