-- Whether two types are the same, as a truth value.
use Rattle.std.specs.Prelude.{Bool, true, false, ◌&&◌}
use Rattle.campl_tree.specs.Plain.SeqType.{SeqType, SeqTypes, Int, Char, Pair, Named, Variable, no_types, type_then}
use Rattle.campl_tree.specs.Plain.SeqType as s
use Rattle.campl_tree.specs.Plain.ChanType.{ChanType, Put, Get, Tensor, Par, TopBot, Neg}
use Rattle.campl_tree.specs.Plain.ChanType as c
use Rattle.campl_types.specs.Names.{same_name}

abbrev mutual
  pub same_seq : SeqType → SeqType → Bool
  same_seq Int Int = true
  same_seq Char Char = true
  same_seq s.Bool s.Bool = true
  same_seq (s.List t) (s.List u) = same_seq t u
  same_seq (Pair t u) (Pair v w) = same_seq t v && same_seq u w
  same_seq (Named at x ts) (Named there y us) = same_name x y && same_seqs ts us
  same_seq (Variable at x) (Variable there y) = same_name x y
  same_seq _ _ = false

  pub same_seqs : SeqTypes → SeqTypes → Bool
  same_seqs no_types no_types = true
  same_seqs (type_then t ts) (type_then u us) = same_seq t u && same_seqs ts us
  same_seqs _ _ = false

abbrev pub same_chan : ChanType → ChanType → Bool
same_chan (Put t x) (Put u y) = same_seq t u && same_chan x y
same_chan (Get t x) (Get u y) = same_seq t u && same_chan x y
same_chan (Tensor x y) (Tensor v w) = same_chan x v && same_chan y w
same_chan (Par x y) (Par v w) = same_chan x v && same_chan y w
same_chan TopBot TopBot = true
same_chan (Neg x) (Neg y) = same_chan x y
same_chan (c.Named at x ts) (c.Named there y us) = same_name x y && same_seqs ts us
same_chan _ _ = false
