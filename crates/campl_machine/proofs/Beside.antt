-- Steps that bear nothing and use different ends are independent, and what that gives for channels and identities.
use Rattle.std.proofs.Common.{◌≡◌, ◌≢◌, Bool, List, ◌∷◌, inl, inr, refl, sym, ap, subst, ◌∙◌, Option, Some}
use Rattle.campl_machine.specs.Names.{End, Who}
use Rattle.campl_machine.specs.Machine.{Config, Act, Moves, Looks, Links, Stands, Breaks, Lies, Uses, ends_born, nodes_born, both_ways, alive, performs}
use Rattle.campl_machine.specs.Independence.{Independent, Paired, Commute, BearsNothing, only_sends}
use Rattle.campl_machine.proofs.Performs.{does_of}
use Rattle.campl_machine.proofs.Meeting.{diamond}

module _ {S M : Type 0} where
  -- a step that bears nothing is of its own node alone
  own-node : (p : Who) (A : Act S M) (w : Who) → BearsNothing A → Lies (nodes_born p A) w → p ≡ w
  own-node p (Moves m) w n l = elim (subst (λ (cs : List (Who × S)). Lies ((p, m.next) ∷ alive cs) w) n.1 l) [ inl i ↦ i | inr i ↦ absurd i ]
  own-node p (Looks t x k) w n l = elim l [ inl i ↦ i | inr i ↦ absurd i ]
  own-node p (Links x y) w n l = elim l [ inl i ↦ i | inr i ↦ absurd i ]
  own-node p Stands w n l = elim l [ inl i ↦ i | inr i ↦ absurd i ]
  own-node p Breaks w n l = elim l [ inl i ↦ i | inr i ↦ absurd i ]

  -- and of no new end
  no-end : (A : Act S M) (e : End) → BearsNothing A → Lies (ends_born A) e → ⊥
  no-end (Moves m) e n l = subst (λ (cs : List (End × End)). Lies (both_ways cs) e) n.0 l
  no-end (Looks t x k) e n l = l
  no-end (Links x y) e n l = l
  no-end Stands e n l = l
  no-end Breaks e n l = l

  -- steps of two nodes that bear nothing and use different ends are independent
  pub independent : (c : Config S M) (p q : Who) (A B : Act S M) → p ≢ q → BearsNothing A → BearsNothing B →
      ((e : End) → Uses A e → Uses B e → ⊥) → Independent c p A q B
  independent c p q A B pq na nb apart = record {
    nodes = λ w i j. pq (own-node p A w na i ∙ sym (own-node q B w nb j));
    ends = λ e i j. no-end A e na i;
    uses = apart;
    fresh_a = λ e i. absurd (no-end A e na i);
    fresh_b = λ e i. absurd (no-end B e nb i);
  }

  -- the end on which a move only sends is the one that it uses
  pub sends-on : (z e : End) (v : M) (s : Option S) → Uses (Moves (only_sends z v s)) e → z ≡ e
  sends-on z e v s (w, i) =
      let q : ◌≡◌ {A = End × M} (z, v) (e, w) = cc i in
      ap (λ (k : End × M). k.0) q

  -- a send on one end of a channel and a receipt on the other
  pub send-and-receipt : (c : Config S M) (p q : Who) (x z : End) (v : M) (s : Option S) (takes : Bool) (k : M → Option S) → Paired c →
      p ≢ q → c.partner x ≡ Some z →
      Commute c p (Moves (only_sends z v s)) q (Looks takes x k)
  send-and-receipt c p q x z v s takes k pr pq px =
      diamond c p q (Moves (only_sends z v s)) (Looks takes x k) pr
      (independent c p q (Moves (only_sends z v s)) (Looks takes x k) pq (refl, refl) tt (λ e i j. pr.other x (cc (px, sends-on z e v s i, j))))
      tt

  -- an identity has two ends, and the partner of one is neither
  not-own : (c d : Config S M) (q : Who) (x y x2 : End) → Paired c → c.partner x ≡ Some x2 → performs c q (Links x y) ≡ Some d →
      (x ≢ y) × (x2 ≢ x) × (x2 ≢ y)
  not-own c d q x y x2 pr px pd =
      let (u, w, pu, pw, xy, uy, e) = does_of c q (Links x y) d pd in
      (xy, (λ i. pr.other x (cc (px, i))), (λ i. uy (cc (px, pu, i))))

  -- a send on the other end of an identity's channel
  pub send-and-identity : (c : Config S M) (p q : Who) (x y x2 : End) (v : M) (s : Option S) → Paired c → p ≢ q → c.partner x ≡ Some x2 →
      Commute c p (Moves (only_sends x2 v s)) q (Links x y)
  send-and-identity c p q x y x2 v s pr pq px b d pb pd =
      let n : (x ≢ y) × (x2 ≢ x) × (x2 ≢ y) = not-own c d q x y x2 pr px pd in
      diamond c p q (Moves (only_sends x2 v s)) (Links x y) pr
      (independent c p q (Moves (only_sends x2 v s)) (Links x y) pq (refl, refl) tt (λ e i j. elim j [ inl k ↦ n.1 (sends-on x2 e v s i ∙ k) | inr k ↦ n.2 (sends-on x2 e v s i ∙ k) ]))
      tt b d pb pd

  -- a receipt on the other end of an identity's channel
  pub receipt-and-identity : (c : Config S M) (p q : Who) (x y x2 : End) (takes : Bool) (k : M → Option S) → Paired c → p ≢ q →
      c.partner x ≡ Some x2 → Commute c p (Looks takes x2 k) q (Links x y)
  receipt-and-identity c p q x y x2 takes k pr pq px b d pb pd =
      let n : (x ≢ y) × (x2 ≢ x) × (x2 ≢ y) = not-own c d q x y x2 pr px pd in
      diamond c p q (Looks takes x2 k) (Links x y) pr
      (independent c p q (Looks takes x2 k) (Links x y) pq tt tt (λ e i j. elim j [ inl h ↦ n.1 (sym i ∙ h) | inr h ↦ n.2 (sym i ∙ h) ]))
      tt b d pb pd

  -- two identities that share one channel
  pub two-identities : (c : Config S M) (p q : Who) (x y x2 w : End) → Paired c → p ≢ q → c.partner x ≡ Some x2 → w ≢ x → w ≢ y →
      c.partner y ≢ Some w → Commute c p (Links x2 w) q (Links x y)
  two-identities c p q x y x2 w pr pq px wx wy far b d pb pd =
      let n : (x ≢ y) × (x2 ≢ x) × (x2 ≢ y) = not-own c d q x y x2 pr px pd in
      let bx : c.partner x2 ≡ Some x = pr.back x x2 px in
      diamond c p q (Links x2 w) (Links x y) pr
      (independent c p q (Links x2 w) (Links x y) pq tt tt (λ e i j. elim i [
        | inl h ↦ elim j [ inl g ↦ n.1 (sym h ∙ g) | inr g ↦ n.2 (sym h ∙ g) ]
        | inr h ↦ elim j [ inl g ↦ wx (sym h ∙ g) | inr g ↦ wy (sym h ∙ g) ]
      ]))
      ((λ i j. far (pr.back w y j)), (λ i j. let g : x ≡ y = cc (bx, i) in n.0 g))
      b d pb pd
