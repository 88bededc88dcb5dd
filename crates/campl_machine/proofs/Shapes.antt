-- A receipt of ends, a peel and the giving up of ends make no cycle.
use Rattle.std.proofs.Common.{◌≡◌, ◌≢◌, Bool, inl, inr, refl, sym, ap, ◌∙◌, Option, Some, None}
use Rattle.campl_machine.specs.Names.{TellsApart}
use Rattle.campl_machine.specs.Graph.{Graph, NoCycle}
use Rattle.campl_machine.specs.Changes.{Becomes, Contracts, CameFrom, Splits, Removes, Receipt, Peel, GivesUp}
use Rattle.campl_machine.proofs.Updates.{decides}
use Rattle.campl_machine.proofs.Bridges.{no_cycle, each_bridge}
use Rattle.campl_machine.proofs.Surgery.{shrink, grow, remove}

module _ {E N : Type 0} (same : E → E → Bool) (tells : TellsApart same) (g h : Graph E N) where
  -- contraction, splitting and removal, of graphs with no cycle
  pub contraction : (old_name : E → E) (x y : E) (p m : N) → Contracts g h old_name x y p m → NoCycle g → NoCycle h
  contraction old_name x y p m s forest = no_cycle h (shrink g h old_name x y p m s (each_bridge g (decides same tells) forest))

  pub splitting : (n k : E) (p c : N) → Splits g h n k p c → NoCycle g → NoCycle h
  splitting n k p c s forest = no_cycle h (grow (decides same tells) g h n k p c s (each_bridge g (decides same tells) forest))

  pub removal : Removes g h → NoCycle g → NoCycle h
  removal s forest = no_cycle h (remove g h s (each_bridge g (decides same tells) forest))

  -- a receipt contracts: the message's node becomes the receiver
  receipt-contracts : (p message : N) (x z : E) → Receipt g h p message x z → Contracts g h (λ e. e) x z p message
  receipt-contracts p message x z r = record {
    merged = r.lies;
    old = λ e f u v l.
        let (nx, nz, a) = comes e u l.from in
        let (mx, mz, b) = comes f v l.to in
        (a.0, b.0, record { there = ap (λ (k : E → Option E). k e) (sym r.partners) ∙ l.there; back = ap (λ (k : E → Option E). k f) (sym r.partners) ∙ l.back; from = a.1; to = b.1 }, a.2, b.2);
    other = λ e f u v l. let (nx, nz, a) = comes e u l.from in (nx, nz);
    one_to_one = λ e f u v t s a b l m q. q;
  }
    where
      comes : (e : E) (u : N) → h.at e ≡ Some u → (e ≢ x) × (e ≢ z) × ((a : N) × (g.at e ≡ Some a) × Becomes p message a u)
      comes e u is =
          let nx : e ≢ x = λ i. let n : h.at e ≡ None = r.gone e (inl i) in cc (n, is) in
          let nz : e ≢ z = λ i. let n : h.at e ≡ None = r.gone e (inr i) in cc (n, is) in (
            nx,
            nz,
            elim (r.others e nx nz) [
              | inl i ↦ (u, sym i ∙ is, inl refl)
              | inr i ↦ (message, i.0, inr (refl, cc (i.1, is)))
            ],
          )

  -- so it makes no cycle
  pub receipt-forest : (p message : N) (x z : E) → Receipt g h p message x z → NoCycle g → NoCycle h
  receipt-forest p message x z r = contraction (λ e. e) x z p message (receipt-contracts p message x z r)

  -- a peel splits
  peel-splits : (p child : N) (n k : E) → Peel g h p child n k → Splits g h n k p child
  peel-splits p child n k s = record {
    apart = s.apart;
    new = record { there = s.partner_n; back = s.partner_k; from = s.at_n; to = s.at_k };
    old = λ e f u v l en ek.
        let fn : f ≢ n = λ i. ek (cc (l.back, s.partner_n, i)) in
        let fk : f ≢ k = λ i. en (cc (l.back, s.partner_k, i)) in
        let a : (a : N) × (g.at e ≡ Some a) × CameFrom p child u a = came e u en ek l.from in
        let b : (b : N) × (g.at f ≡ Some b) × CameFrom p child v b = came f v fn fk l.to in
        (a.0, b.0, record { there = sym (s.partners e en ek) ∙ l.there; back = sym (s.partners f fn fk) ∙ l.back; from = a.1; to = b.1 }, a.2, b.2);
  }
    where
      came : (e : E) (u : N) → e ≢ n → e ≢ k → h.at e ≡ Some u → (a : N) × (g.at e ≡ Some a) × CameFrom p child u a
      came e u en ek is = elim (s.others e en ek) [
        | inl i ↦ (u, sym i ∙ is, inl ((λ j. s.fresh e (cc (i, is, j))), refl))
        | inr i ↦ (p, i.1, inr (cc (i.0, is), refl))
      ]

  -- so it makes no cycle
  pub peel-forest : (p child : N) (n k : E) → Peel g h p child n k → NoCycle g → NoCycle h
  peel-forest p child n k s = splitting n k p child (peel-splits p child n k s)

  -- where ends are given up, edges go
  gives-up-removes : GivesUp g h → Removes g h
  gives-up-removes s e f u v l = record {
    there = ap (λ (k : E → Option E). k e) (sym s.partners) ∙ l.there;
    back = ap (λ (k : E → Option E). k f) (sym s.partners) ∙ l.back;
    from = stood e u l.from;
    to = stood f v l.to;
  }
    where
      stood : (e : E) (u : N) → h.at e ≡ Some u → g.at e ≡ Some u
      stood e u is = elim (s.others e) [ inl i ↦ sym i ∙ is | inr n ↦ absurd (cc (n, is)) ]

  -- so no cycle comes
  pub gives-up-forest : GivesUp g h → NoCycle g → NoCycle h
  gives-up-forest s = removal (gives-up-removes s)
