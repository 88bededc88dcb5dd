-- The test of sameness decides it.
use Rattle.std.proofs.Common.{◌≡◌, refl, sym, ap, Bool, true, true≢false}
use Rattle.campl_tree.specs.Plain.SeqType.{SeqType, SeqTypes, no_types, type_then}
use Rattle.campl_tree.specs.Plain.SeqType as s
use Rattle.campl_tree.specs.Plain.ChanType.{ChanType}
use Rattle.campl_tree.specs.Plain.ChanType as c
use Rattle.campl_types.specs.Names.{Name, same_name}
use Rattle.campl_types.specs.SameType.{nowhere, all_bare, IsSame, IsSameChan}
use Rattle.campl_types.specs.SameTest.{same_seq, same_seqs, same_chan}
use Rattle.campl_types.proofs.Names as names
use Rattle.campl_types.proofs.Truth.{and-first, and-second, and-both}

named : (x y : Name) → x ≡ y → same_name x y ≡ true
named x y e = rw e (names.same-itself y)

mutual
  pub seq-same : (t u : SeqType) → same_seq t u ≡ true → IsSame t u
  seq-same s.Int s.Int i = refl
  seq-same s.Char s.Char i = refl
  seq-same s.Bool s.Bool i = refl
  seq-same (s.List t) (s.List u) i = ap s.List (seq-same t u i)
  seq-same (s.Pair t u) (s.Pair v w) i =
      let p = seq-same t v (and-first (same_seq t v) (same_seq u w) i) in let q = seq-same u w (and-second (same_seq t v) (same_seq u w) i) in λ k. s.Pair (p k) (q k)
  seq-same (s.Named at x ts) (s.Named there y us) i =
      let p = names.same-is x y (and-first (same_name x y) (same_seqs ts us) i) in let q = seqs-same ts us (and-second (same_name x y) (same_seqs ts us) i) in λ k. s.Named nowhere (p k) (q k)
  seq-same (s.Variable at x) (s.Variable there y) i = ap (s.Variable nowhere) (names.same-is x y i)
  seq-same _ _ i = absurd (true≢false (sym i))

  pub seqs-same : (ts us : SeqTypes) → same_seqs ts us ≡ true → all_bare ts ≡ all_bare us
  seqs-same no_types no_types i = refl
  seqs-same (type_then t ts) (type_then u us) i =
      let p = seq-same t u (and-first (same_seq t u) (same_seqs ts us) i) in let q = seqs-same ts us (and-second (same_seq t u) (same_seqs ts us) i) in λ k. type_then (p k) (q k)
  seqs-same _ _ i = absurd (true≢false (sym i))

mutual
  pub same-seq : (t u : SeqType) → IsSame t u → same_seq t u ≡ true
  same-seq s.Int s.Int i = refl
  same-seq s.Char s.Char i = refl
  same-seq s.Bool s.Bool i = refl
  same-seq (s.List t) (s.List u) i = same-seq t u (cc i)
  same-seq (s.Pair t u) (s.Pair v w) i = and-both (same_seq t v) (same_seq u w) (same-seq t v (cc i)) (same-seq u w (cc i))
  same-seq (s.Named at x ts) (s.Named there y us) i = and-both (same_name x y) (same_seqs ts us) (named x y (cc i)) (same-seqs ts us (cc i))
  same-seq (s.Variable at x) (s.Variable there y) i = named x y (cc i)
  same-seq _ _ i = absurd (cc i)

  pub same-seqs : (ts us : SeqTypes) → all_bare ts ≡ all_bare us → same_seqs ts us ≡ true
  same-seqs no_types no_types i = refl
  same-seqs (type_then t ts) (type_then u us) i = and-both (same_seq t u) (same_seqs ts us) (same-seq t u (cc i)) (same-seqs ts us (cc i))
  same-seqs _ _ i = absurd (cc i)

pub chan-same : (x y : ChanType) → same_chan x y ≡ true → IsSameChan x y
chan-same (c.Put t x) (c.Put u y) i =
    let p = seq-same t u (and-first (same_seq t u) (same_chan x y) i) in let q = chan-same x y (and-second (same_seq t u) (same_chan x y) i) in λ k. c.Put (p k) (q k)
chan-same (c.Get t x) (c.Get u y) i =
    let p = seq-same t u (and-first (same_seq t u) (same_chan x y) i) in let q = chan-same x y (and-second (same_seq t u) (same_chan x y) i) in λ k. c.Get (p k) (q k)
chan-same (c.Tensor x y) (c.Tensor v w) i =
    let p = chan-same x v (and-first (same_chan x v) (same_chan y w) i) in let q = chan-same y w (and-second (same_chan x v) (same_chan y w) i) in λ k. c.Tensor (p k) (q k)
chan-same (c.Par x y) (c.Par v w) i =
    let p = chan-same x v (and-first (same_chan x v) (same_chan y w) i) in let q = chan-same y w (and-second (same_chan x v) (same_chan y w) i) in λ k. c.Par (p k) (q k)
chan-same c.TopBot c.TopBot i = refl
chan-same (c.Neg x) (c.Neg y) i = ap c.Neg (chan-same x y i)
chan-same (c.Named at x ts) (c.Named there y us) i =
    let p = names.same-is x y (and-first (same_name x y) (same_seqs ts us) i) in let q = seqs-same ts us (and-second (same_name x y) (same_seqs ts us) i) in λ k. c.Named nowhere (p k) (q k)
chan-same _ _ i = absurd (true≢false (sym i))

pub same-chan : (x y : ChanType) → IsSameChan x y → same_chan x y ≡ true
same-chan (c.Put t x) (c.Put u y) i = and-both (same_seq t u) (same_chan x y) (same-seq t u (cc i)) (same-chan x y (cc i))
same-chan (c.Get t x) (c.Get u y) i = and-both (same_seq t u) (same_chan x y) (same-seq t u (cc i)) (same-chan x y (cc i))
same-chan (c.Tensor x y) (c.Tensor v w) i = and-both (same_chan x v) (same_chan y w) (same-chan x v (cc i)) (same-chan y w (cc i))
same-chan (c.Par x y) (c.Par v w) i = and-both (same_chan x v) (same_chan y w) (same-chan x v (cc i)) (same-chan y w (cc i))
same-chan c.TopBot c.TopBot i = refl
same-chan (c.Neg x) (c.Neg y) i = same-chan x y (cc i)
same-chan (c.Named at x ts) (c.Named there y us) i = and-both (same_name x y) (same_seqs ts us) (named x y (cc i)) (same-seqs ts us (cc i))
same-chan _ _ i = absurd (cc i)
