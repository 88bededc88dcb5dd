-- The test of types.
use Rattle.std.proofs.Common.{◌≡◌, refl, true, false, codes}
use Rattle.campl_tree.specs.Plain.SeqType as s
use Rattle.campl_tree.specs.Plain.ChanType.{Put, Tensor, TopBot, Neg}
use Rattle.campl_types.specs.SameTest.{same_seq, same_chan}
use Rattle.typing_examples.proofs.Sources.{place, named, protocol}

same : same_seq (s.Pair (named 1 1 (codes "One")) (s.List s.Char)) (s.Pair (named 2 2 (codes "One")) (s.List s.Char)) ≡ true
same = refl

different : (same_seq (s.List s.Char) (s.List s.Int) ≡ false) × (same_seq (s.Variable (place 1 1) (codes "a")) (s.Variable (place 1 1) (codes "b")) ≡ false) × (same_seq s.Bool (named 1 1 (codes "Bool")) ≡ false)
different = (refl, refl, refl)

same-channels : (same_chan (Tensor (Put s.Int TopBot) (Neg (protocol 1 1 (codes "P")))) (Tensor (Put s.Int TopBot) (Neg (protocol 3 3 (codes "P")))) ≡ true) × (same_chan (Neg TopBot) TopBot ≡ false)
same-channels = (refl, refl)
