-- The step as a function and as a relation are the same.
use Rattle.std.proofs.Common.{◌≡◌, List, [], ◌∷◌, inl, inr, refl, sym, ap, ◌∙◌, Option, Some, None}
use Rattle.campl_machine.specs.Names.{End, Who, same_end, same_who}
use Rattle.campl_machine.specs.Machine.{Config, Act, Moves, Looks, Links, Stands, Breaks, Lies, linked, Does, nodes_born, alive, at, goes, looks_at, links_at, performs}
use Rattle.campl_machine.proofs.Same.{same_who-is, same_who-refl}
use Rattle.campl_machine.proofs.Updates.{split, elsewhere}
use Rattle.campl_machine.proofs.Ends.{apart, unlike}

-- what is computed is told
pub does_of : {S M : Type 0} (c : Config S M) (p : Who) (A : Act S M) (d : Config S M) → performs c p A ≡ Some d → Does c p A d
does_of c p (Moves m) d e = cc e
does_of {S} {M} c p (Looks takes x k) d e = go (c.partner x) refl e
  where
    after_head : (z : End) → c.partner x ≡ Some z → (ms : List M) → c.owed z ≡ ms → looks_at c p takes k z ms ≡ Some d →
        Does c p (Looks takes x k) d
    after_head z pz [] is f = absurd (cc f)
    after_head z pz (m ∷ ms) is f = last (k m) refl f
      where
        last : (o : Option S) → k m ≡ o → goes c p takes z o ≡ Some d → Does c p (Looks takes x k) d
        last None h g = absurd (cc g)
        last (Some s) h g = (z, m, ms, s, pz, is, h, cc g)

    go : (o : Option End) → c.partner x ≡ o → at o None (λ z. looks_at c p takes k z (c.owed z)) ≡ Some d → Does c p (Looks takes x k) d
    go None is f = absurd (cc f)
    go (Some z) is f = after_head z is (c.owed z) refl f
does_of c p (Links x y) d e = go (c.partner x) (c.partner y) refl refl e
  where
    go : (o q : Option End) → c.partner x ≡ o → c.partner y ≡ q → links_at c p x y o q ≡ Some d → Does c p (Links x y) d
    go None q io iq f = absurd (cc f)
    go (Some x2) None io iq f = absurd (cc f)
    go (Some x2) (Some y2) io iq f = elim (split (same_end x y)) [
      | inl i ↦ let g : None ≡ Some d = rw i at f in absurd (cc g)
      | inr i ↦ elim (split (same_end x2 y)) [
        | inl j ↦ let g : None ≡ Some d = rw (i, j) at f in absurd (cc g)
        | inr j ↦ let g : Some (linked c p x y x2 y2) ≡ Some d = rw (i, j) at f in (x2, y2, io, iq, unlike x y i, unlike x2 y j, cc g)
      ]
    ]
does_of c p Stands d e = absurd (cc e)
does_of c p Breaks d e = absurd (cc e)

-- what is told is computed
pub of_does : {S M : Type 0} (c : Config S M) (p : Who) (A : Act S M) (d : Config S M) → Does c p A d → performs c p A ≡ Some d
of_does c p (Moves m) d e = ap Some (sym e)
of_does c p (Looks takes x k) d (z, m, ms, s, pz, is, h, e) = rw (pz, is, h) (ap Some (sym e))
of_does c p (Links x y) d (x2, y2, px, py, xy, x2y, e) = rw (px, py, apart x y xy, apart x2 y x2y) (ap Some (sym e))
of_does c p Stands d e = absurd e
of_does c p Breaks d e = absurd e

-- a step leaves the other nodes as they were
pub nodes-kept : {S M : Type 0} (c : Config S M) (p q : Who) (A : Act S M) (b : Config S M) → Does c p A b →
    (Lies (nodes_born p A) q → ⊥) → b.nodes q ≡ c.nodes q
nodes-kept {S} {M} c p q (Moves m) b e n = ap (λ (z : Config S M). z.nodes q) e ∙ elsewhere same_who same_who-is same_who-refl ((p, m.next) ∷ alive m.children) c.nodes q n
nodes-kept {S} {M} c p q (Looks t x k) b (z, m, ms, s, pz, is, h, e) n = ap (λ (z : Config S M). z.nodes q) e ∙ elsewhere same_who same_who-is same_who-refl ((p, Some s) ∷ []) c.nodes q n
nodes-kept {S} {M} c p q (Links x y) b (x2, y2, px, py, xy, x2y, e) n = ap (λ (z : Config S M). z.nodes q) e ∙ elsewhere same_who same_who-is same_who-refl ((p, None) ∷ []) c.nodes q n
nodes-kept c p q Stands b e n = absurd e
nodes-kept c p q Breaks b e n = absurd e

-- a step is of its own node
pub itself : {S M : Type 0} (q : Who) (c : Config S M) (B : Act S M) (d : Config S M) → Does c q B d → Lies (nodes_born q B) q
itself q c (Moves m) d e = inl refl
itself q c (Looks t x k) d e = inl refl
itself q c (Links x y) d e = inl refl
itself q c Stands d e = absurd e
itself q c Breaks d e = absurd e
