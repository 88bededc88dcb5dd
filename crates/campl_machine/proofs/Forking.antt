-- A fork makes no cycle: first one new node is split off that has both the message's and the child's ends, then the child is split off that.
use Rattle.std.proofs.Common.{◌≡◌, ◌≢◌, Bool, true, false, ◌⊎◌, inl, inr, refl, sym, ap, subst, ◌∙◌, Option, Some, None, if◌then◌else◌}
use Rattle.campl_machine.specs.Names.{TellsApart}
use Rattle.campl_machine.specs.Graph.{Graph, NoCycle}
use Rattle.campl_machine.specs.Changes.{CameFrom, Splits, Fork}
use Rattle.campl_machine.proofs.Updates.{split, decides, differ}
use Rattle.campl_machine.proofs.Shapes.{splitting}

module _ {E N : Type 0} (same : E → E → Bool) (tells : TellsApart same) (same_node : N → N → Bool) (nodes : TellsApart same_node)
    (g h : Graph E N) (p child message : N) (n1 l1 n2 l2 : E) (s : Fork g h p child message n1 l1 n2 l2) where
  -- the child's ends stand at the message for now
  lower : Option N → Option N
  lower None = None
  lower (Some w) = if same_node w child then Some message else Some w

  -- the graph between the two splits, where the child's channel isn't there yet
  middle : Graph E N
  middle = record { partner = h.partner; at = λ e. if same e n2 then None else if same e l2 then None else lower (h.at e) }

  -- the child's ends stand at the message
  lower-child : lower (Some child) ≡ Some message
  unfolding lower
  lower-child = rw (nodes.own child) refl

  -- and the others where they stood
  lower-other : (w : N) → w ≢ child → lower (Some w) ≡ Some w
  unfolding lower
  lower-other w n = rw (differ same_node nodes.is w child n) refl

  -- so it is for halves of other channels
  middle-at : (e : E) → e ≢ n2 → e ≢ l2 → middle.at e ≡ lower (h.at e)
  unfolding middle
  middle-at e n l = rw (differ same tells.is e n2 n, differ same tells.is e l2 l) refl

  -- where a half of the graph between stands after the fork
  Stood : E → N → Type 0
  Stood e u = (e ≢ n2) × (e ≢ l2) × ((w : N) × (h.at e ≡ Some w) × (((w ≡ child) × (u ≡ message)) ⊎ ((w ≢ child) × (u ≡ w))))

  -- and for no others
  stood : (e : E) (u : N) → middle.at e ≡ Some u → Stood e u
  unfolding Stood middle lower
  stood e u is = elim (split (same e n2)) [
    | inl i ↦ let z : None ≡ Some u = rw i at is in absurd (cc z)
    | inr i ↦ elim (split (same e l2)) [
      | inl j ↦ let z : None ≡ Some u = rw (i, j) at is in absurd (cc z)
      | inr j ↦
          let z : lower (h.at e) ≡ Some u = rw (i, j) at is in
          ((λ k. unlike e n2 i k), (λ k. unlike e l2 j k), raised (h.at e) refl z)
    ]
  ]
    where
      unlike : (a b : E) → same a b ≡ false → a ≢ b
      unlike a b i k = let z : same a b ≡ true = subst (λ t. same a t ≡ true) k (tells.own a) in absurd (cc (z, i))

      raised : (o : Option N) → h.at e ≡ o → lower o ≡ Some u →
          (w : N) × (h.at e ≡ Some w) × (((w ≡ child) × (u ≡ message)) ⊎ ((w ≢ child) × (u ≡ w)))
      raised None at z = absurd (cc z)
      raised (Some w) at z = elim (decides same_node nodes w child) [
        | inl i ↦ let q : lower (Some w) ≡ Some message = ap (λ t. lower (Some t)) i ∙ lower-child in (w, at, inl (i, cc (z, q)))
        | inr n ↦ let q : lower (Some w) ≡ Some w = lower-other w n in (w, at, inr (n, cc (z, q)))
      ]

  -- halves of the new channels are different
  n1-n2 : n1 ≢ n2
  n1-n2 i = s.apart.0 (cc (s.at_n1, s.at_n2, i))

  n1-l2 : n1 ≢ l2
  n1-l2 i = s.apart.1 (cc (s.at_n1, s.at_l2, i))

  l1-n2 : l1 ≢ n2
  l1-n2 i = s.apart.2 (cc (s.at_l1, s.at_n2, i))

  l1-l2 : l1 ≢ l2
  l1-l2 i = n1-n2 (cc (s.partner_l1, s.partner_l2, i))

  -- the message, with the child's ends, is split off
  first : Splits g middle n1 l1 p message
  unfolding Stood middle
  first = record {
    apart = s.apart.1;
    new = record {
      there = s.partner_n1;
      back = s.partner_l1;
      from = middle-at n1 n1-n2 n1-l2 ∙ (ap lower s.at_n1 ∙ lower-other p s.apart.0);
      to = middle-at l1 l1-n2 l1-l2 ∙ (ap lower s.at_l1 ∙ lower-other message (λ i. s.apart.2 (sym i)));
    };
    old = λ e f u v l en el.
        let fn : f ≢ n1 = λ i. el (cc (l.back, s.partner_n1, i)) in
        let fl : f ≢ l1 = λ i. en (cc (l.back, s.partner_l1, i)) in
        let a : (e ≢ n2) × (e ≢ l2) × ((a : N) × (g.at e ≡ Some a) × CameFrom p message u a) = came e u en el l.from in
        let b : (f ≢ n2) × (f ≢ l2) × ((b : N) × (g.at f ≡ Some b) × CameFrom p message v b) = came f v fn fl l.to in
        (a.2.0, b.2.0, record { there = sym (s.partners e en el a.0 a.1) ∙ l.there; back = sym (s.partners f fn fl b.0 b.1) ∙ l.back; from = a.2.1; to = b.2.1 }, a.2.2, b.2.2);
  }
    where
      placed : (e : E) (u w : N) → (h.at e ≡ g.at e) ⊎ ((g.at e ≡ Some p) × ((h.at e ≡ Some child) ⊎ (h.at e ≡ Some message))) →
          h.at e ≡ Some w → ((w ≡ child) × (u ≡ message)) ⊎ ((w ≢ child) × (u ≡ w)) →
          (a : N) × (g.at e ≡ Some a) × CameFrom p message u a
      placed e u w (inl i) is (inl (j, k)) = absurd ((s.fresh e).0 (sym i ∙ (is ∙ ap Some j)))
      placed e u w (inl i) is (inr (j, k)) = (w, sym i ∙ is, inl ((λ m. (s.fresh e).1 (sym i ∙ (is ∙ ap Some (sym k ∙ m)))), sym k))
      placed e u w (inr (i, x)) is (inl (j, k)) = (p, i, inr (k, refl))
      placed e u w (inr (i, inl x)) is (inr (j, k)) = absurd (j (cc (x, is)))
      placed e u w (inr (i, inr x)) is (inr (j, k)) = (p, i, inr (cc (x, is, k), refl))

      came : (e : E) (u : N) → e ≢ n1 → e ≢ l1 → middle.at e ≡ Some u →
          (e ≢ n2) × (e ≢ l2) × ((a : N) × (g.at e ≡ Some a) × CameFrom p message u a)
      came e u en el is =
          let t : (e ≢ n2) × (e ≢ l2) × ((w : N) × (h.at e ≡ Some w) × (((w ≡ child) × (u ≡ message)) ⊎ ((w ≢ child) × (u ≡ w)))) = stood e u is in
          (t.0, t.1, placed e u t.2.0 (s.others e en el t.0 t.1) t.2.1 t.2.2)

  -- the child is split off
  second : Splits middle h l2 n2 message child
  unfolding middle
  second = record {
    apart = λ i. s.apart.2 (sym i);
    new = record { there = s.partner_l2; back = s.partner_n2; from = s.at_l2; to = s.at_n2 };
    old = λ e f u v l el en.
        let fl : f ≢ l2 = λ i. en (cc (l.back, s.partner_l2, i)) in
        let fn : f ≢ n2 = λ i. el (cc (l.back, s.partner_n2, i)) in
        let a : (a : N) × (middle.at e ≡ Some a) × CameFrom message child u a = came e u el en l.from in
        let b : (b : N) × (middle.at f ≡ Some b) × CameFrom message child v b = came f v fl fn l.to in
        (a.0, b.0, record { there = l.there; back = l.back; from = a.1; to = b.1 }, a.2, b.2);
  }
    where
      came : (e : E) (u : N) → e ≢ l2 → e ≢ n2 → h.at e ≡ Some u → (a : N) × (middle.at e ≡ Some a) × CameFrom message child u a
      came e u el en is = elim (decides same_node nodes u child) [
        | inl i ↦ (message, middle-at e en el ∙ (ap lower (is ∙ ap Some i) ∙ lower-child), inr (i, refl))
        | inr n ↦ (u, middle-at e en el ∙ (ap lower is ∙ lower-other u n), inl (n, refl))
      ]

  -- so a fork makes no cycle
  pub fork-forest : NoCycle g → NoCycle h
  fork-forest forest = splitting same tells middle h l2 n2 message child second (splitting same tells g middle n1 l1 p message first forest)
