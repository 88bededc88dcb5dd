-- The channel that a command names, against the table.
use Rattle.std.proofs.Common.{◌≡◌, ◌∙◌, refl, sym, ap, subst, Bool, true, false, if◌then◌else◌, Option, Some, None, true≢false}
use Rattle.campl_tree.specs.declared.place.Place.{Place}
use Rattle.campl_tree.specs.declared.place.Ident.{Ident}
use Rattle.campl_tree.specs.declared.service.Side.{Side}
use Rattle.campl_tree.specs.declared.service.Side.TheVariants.{Input, Output}
use Rattle.campl_tree.specs.Side.{opposite}
use Rattle.campl_tree.specs.Plain.SeqType.{SeqType}
use Rattle.campl_tree.specs.Plain.ChanType.{ChanType, Neg}
use Rattle.campl_types.specs.Names.{Name, same_name, found}
use Rattle.campl_types.specs.SameTest.{same_chan}
use Rattle.campl_types.specs.World.{World}
use Rattle.campl_types.specs.Polarity.{Choices, Deed, Puts, Gets, Forks, Splits, Picks, Offers, Ends, deed}
use Rattle.campl_types.specs.Held.{Channel, On, Held}
use Rattle.campl_types.specs.Linear.{AreNew, AreJoined}
use Rattle.campl_types.proofs.SameType.{chan-same, same-chan}
use Rattle.campl_seqcheck.specs.Judged.{Fine, fine, Is, Fails}
use Rattle.campl_linear.specs.Faults.{LeftOver}
use Rattle.campl_linear.specs.Holding.{Holding, as_held, given_up}
use Rattle.campl_linear.specs.Channels.{held_at, Used, allowed_of, used, to_put, to_get, to_pick, to_split, to_fork, to_end, to_offer, new_name, two_new, same_side, fit_together, joined}
use Rattle.campl_linear.proofs.Turns.{in-turn}
use Rattle.campl_linear.proofs.Lists.{held-given-up}
use Rattle.campl_types.proofs.Truth.{and-first, and-second, and-both}

pub held-is : (x : Ident) (held : Holding) (c : Channel) → held_at x held ≡ Is c → found x.name held ≡ Some c
held-is x held c i = go (found x.name held) refl
  where
    go : (o : Option Channel) → found x.name held ≡ o → found x.name held ≡ Some c
    go None e = absurd (cc (rw e at i))
    go (Some d) e = let k : Is d ≡ Is c = rw e at i in let l : d ≡ c = cc k in e ∙ ap (λ z. Some z) l

pub record UsedSo {A : Type 0} (w : World) (x : Name) (wants : Deed → Option A) (held : Holding) (u : Used A) : Type 0 where
  pub is_held : found x held ≡ Some (On u.side u.held_type)
  pub allows : wants (deed w u.side u.held_type) ≡ Some u.may

so-used : {A : Type 0} → (w : World) (at : Place) (x : Ident) (wants : Deed → Option A) (held : Holding) (u : Used A) (c : Channel)
    → found x.name held ≡ Some c → allowed_of w at x.name wants c ≡ Is u → UsedSo w x.name wants held u
so-used w at x wants held u (On s t) e i = go (wants (deed w s t)) refl
  where
    go : (o : Option _) → wants (deed w s t) ≡ o → UsedSo w x.name wants held u
    go None k = absurd (cc (rw k at i))
    go (Some a) k =
        let l : Is (record { side = s; held_type = t; may = a }) ≡ Is u = rw k at i in
        let m : record { side = s; held_type = t; may = a } ≡ u = cc l in
        subst (λ v. UsedSo w x.name wants held v) m (record { is_held = e; allows = k })

pub used-so : {A : Type 0} → (w : World) (at : Place) (x : Ident) (wants : Deed → Option A) (held : Holding) (u : Used A) → used w at x wants held ≡ Is u → UsedSo w x.name wants held u
used-so w at x wants held u i =
    let j = in-turn (held_at x held) (allowed_of w at x.name wants) u i in
    so-used w at x wants held u j.0 (held-is x held j.0 j.1) j.2

pub is-used : {A : Type 0} → (w : World) (at : Place) (x : Ident) (wants : Deed → Option A) (held : Holding) (s : Side) (t : ChanType) (a : A)
    → found x.name held ≡ Some (On s t) → wants (deed w s t) ≡ Some a → used w at x wants held ≡ Is (record { side = s; held_type = t; may = a })
is-used w at x wants held s t a i j = rw (i, j) refl

-- What each command wants

pub puts : (d : Deed) (p : SeqType × ChanType) → to_put d ≡ Some p → d ≡ Puts p.0 p.1
puts (Puts t y) p i = let e : (t, y) ≡ p = cc i in ap (λ (q : SeqType × ChanType). Puts q.0 q.1) e
puts _ p i = absurd (cc i)

pub gets : (d : Deed) (p : SeqType × ChanType) → to_get d ≡ Some p → d ≡ Gets p.0 p.1
gets (Gets t y) p i = let e : (t, y) ≡ p = cc i in ap (λ (q : SeqType × ChanType). Gets q.0 q.1) e
gets _ p i = absurd (cc i)

pub picks : (k : Name) (d : Deed) (y : ChanType) → to_pick k d ≡ Some y → (cs : Choices) × (d ≡ Picks cs) × (found k cs ≡ Some y)
picks k (Picks cs) y i = (cs, refl, i)
picks k _ y i = absurd (cc i)

pub splits : (d : Deed) (p : ChanType × ChanType) → to_split d ≡ Some p → d ≡ Splits p.0 p.1
splits (Splits t y) p i = let e : (t, y) ≡ p = cc i in ap (λ (q : ChanType × ChanType). Splits q.0 q.1) e
splits _ p i = absurd (cc i)

pub forks : (d : Deed) (p : ChanType × ChanType) → to_fork d ≡ Some p → d ≡ Forks p.0 p.1
forks (Forks t y) p i = let e : (t, y) ≡ p = cc i in ap (λ (q : ChanType × ChanType). Forks q.0 q.1) e
forks _ p i = absurd (cc i)

pub ends : (d : Deed) (f : Fine) → to_end d ≡ Some f → d ≡ Ends
ends Ends f i = refl
ends _ f i = absurd (cc i)

pub offers : (d : Deed) (cs : Choices) → to_offer d ≡ Some cs → d ≡ Offers cs
offers (Offers bs) cs i = let e : bs ≡ cs = cc i in ap Offers e
offers _ cs i = absurd (cc i)

-- New names

pub is-new : (y : Ident) (held : Holding) (f : Fine) → new_name y held ≡ Is f → found y.name held ≡ None
is-new y held f i = go (found y.name held) refl
  where
    go : (o : Option Channel) → found y.name held ≡ o → found y.name held ≡ None
    go None e = e
    go (Some c) e = absurd (cc (rw e at i))

pub new-name : (y : Ident) (held : Holding) → found y.name held ≡ None → new_name y held ≡ Is fine
new-name y held i = rw i refl

-- of two, behind a channel that is given up
pub record TwoNew (y z : Name) (held : Holding) : Type 0 where
  pub first : found y held ≡ None
  pub second : found z held ≡ None
  pub differ : same_name y z ≡ false

pub two-are-new : (y z : Ident) (held : Holding) (f : Fine) → two_new y z held ≡ Is f → TwoNew y.name z.name held
two-are-new y z held f i =
    let j = in-turn (new_name y held) (λ _. if same_name y.name z.name then Fails (LeftOver z.place z.name) else new_name z held) f i in
    go (is-new y held j.0 j.1) (same_name y.name z.name) refl j.2
  where
    go : found y.name held ≡ None → (b : Bool) → same_name y.name z.name ≡ b → (if b then Fails (LeftOver z.place z.name) else new_name z held) ≡ Is f → TwoNew y.name z.name held
    go new true e k = absurd (cc k)
    go new false e k = record { first = new; second = is-new z held f k; differ = e }

pub two-new : (y z : Ident) (held : Holding) → TwoNew y.name z.name held → two_new y z held ≡ Is fine
two-new y z held n = rw (n.first, n.differ, n.second) refl

pub are-new : (x : Name) (y z : Ident) (held : Holding) → TwoNew y.name z.name (given_up x held) → AreNew x y.name z.name (as_held held)
are-new x y z held n =
    let e = held-given-up x held in
    (ap (λ (h : Held). h y.name) (sym e) ∙ n.first, ap (λ (h : Held). h z.name) (sym e) ∙ n.second, n.differ)

pub new-are : (x : Name) (y z : Ident) (held : Holding) → AreNew x y.name z.name (as_held held) → TwoNew y.name z.name (given_up x held)
new-are x y z held n =
    let e = held-given-up x held in
    record { first = ap (λ (h : Held). h y.name) e ∙ n.0; second = ap (λ (h : Held). h z.name) e ∙ n.1; differ = n.2 }

-- Sides, and identity

pub side-is : (r s : Side) → same_side r s ≡ true → r ≡ s
side-is Input Input i = refl
side-is Output Output i = refl
side-is Input Output i = absurd (true≢false (sym i))
side-is Output Input i = absurd (true≢false (sym i))

pub side-same : (s : Side) → same_side s s ≡ true
side-same Input = refl
side-same Output = refl

pub is-joined : (at : Place) (x : Name) (negated : Bool) (y : Name) (s r : Side) (t u : ChanType) (f : Fine)
    → joined at x negated y (On s t) (On r u) ≡ Is f → (same_name x y ≡ false) × AreJoined negated s r t u
is-joined at x negated y s r t u f i = go (same_name x y) refl
  where
    fit : (n : Bool) → fit_together n (On s t) (On r u) ≡ true → AreJoined n s r t u
    fit false k = (side-is r (opposite s) (and-first _ _ k), chan-same t u (and-second (same_side r (opposite s)) (same_chan t u) k))
    fit true k = (side-is r s (and-first _ _ k), chan-same t (Neg u) (and-second (same_side r s) (same_chan t (Neg u)) k))

    go : (b : Bool) → same_name x y ≡ b → (same_name x y ≡ false) × AreJoined negated s r t u
    go true e = absurd (cc (rw e at i))
    go false e = (e, more (fit_together negated (On s t) (On r u)) refl)
      where
        more : (b : Bool) → fit_together negated (On s t) (On r u) ≡ b → AreJoined negated s r t u
        more true k = fit negated k
        more false k = absurd (cc (rw (e, k) at i))

pub joins : (at : Place) (x : Name) (negated : Bool) (y : Name) (s r : Side) (t u : ChanType) → same_name x y ≡ false → AreJoined negated s r t u
    → joined at x negated y (On s t) (On r u) ≡ Is fine
joins at x negated y s r t u e j = let k : fit_together negated (On s t) (On r u) ≡ true = fit negated j in rw (e, k) refl
  where
    same : (a c : Side) → a ≡ c → same_side a c ≡ true
    same a c i = ap (λ z. same_side z c) i ∙ side-same c

    fit : (n : Bool) → AreJoined n s r t u → fit_together n (On s t) (On r u) ≡ true
    fit false k = and-both (same_side r (opposite s)) (same_chan t u) (same r (opposite s) k.0) (same-chan t u k.1)
    fit true k = and-both (same_side r s) (same_chan t (Neg u)) (same r s k.0) (same-chan t (Neg u) k.1)
