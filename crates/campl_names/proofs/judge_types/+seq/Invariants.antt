use Rattle.std.proofs.Common.{◌≡◌, drop, map}
use Rattle.std.specs.Option.{option_copied}
use Rattle.campl_tree.specs.View.{view_seq, seq_types, view_decl}
use Rattle.campl_types.specs.Known.{in_seqs}
use Rattle.campl_names.specs.Scope.{heading}
use Rattle.campl_names.proofs.judge_types.+seq.Given as goal

abbrev pub invariant-judge_seqs-loop-t : goal.invariant-judge_seqs-loop-t
invariant-judge_seqs-loop-t l =
    in_seqs (map view_decl l.world) (heading l.parameters (option_copied l.local)) (seq_types (map view_seq (drop l.t-index l.ts))) ≡ in_seqs (map view_decl l.world) (heading l.parameters (option_copied l.local)) (seq_types (map view_seq l.ts))
