-- Views that wait for a message, and those that don't.
use Rattle.std.proofs.Common.{◌≡◌, ℕ, zero, suc, List, [], ◌∷◌, ◌⊎◌, inl, inr, refl, sym, ap, subst, ◌∙◌, Option, Some, None, map, slice_get}
use Rattle.campl_tree.specs.declared.service.Side.{Side}
use Rattle.campl_tree.specs.declared.service.Side.TheVariants.{Input, Output}
use Rattle.campl_tree.specs.Plain.SeqType.{SeqType}
use Rattle.campl_tree.specs.Plain.ChanType as c
use Rattle.campl_tree.specs.Plain.ChanType.{ChanType}
use Rattle.campl_tree.specs.Plain.Decl.{ProtocolConstructor, CoprotocolConstructor}
use Rattle.campl_types.specs.Names.{Name}
use Rattle.campl_types.specs.SameType.{bare, bare_chan, all_bare}
use Rattle.campl_types.specs.Substitution.{list_of}
use Rattle.campl_types.specs.World.{World, TypeEntry, DataType, ProtocolType, CoprotocolType, type_named}
use Rattle.campl_types.specs.Polarity.{Deed, Puts, Gets, Forks, Splits, Picks, Offers, Ends, IsLinked, Choices, deed, of_named, protocol_choices, coprotocol_choices}
use Rattle.campl_types.specs.Held.{Channel, On}
use Rattle.campl_types.specs.Views.{View, turned, deed_of, side_of}
use Rattle.campl_types.proofs.Turned.{answered, deed-of-turned}
use Rattle.campl_meaning.specs.States.{Message}
use Rattle.campl_meaning.specs.Views.{view_of, view_in, taken_at, TakesAll}

-- a receipt
abbrev pub IsWaiting : Deed → Type 0
IsWaiting (Puts t x) = ⊥
IsWaiting (Gets t x) = Unit {0}
IsWaiting (Forks x y) = ⊥
IsWaiting (Splits x y) = Unit {0}
IsWaiting (Picks cs) = ⊥
IsWaiting (Offers cs) = Unit {0}
IsWaiting Ends = ⊥
IsWaiting IsLinked = ⊥

abbrev pub Waits : World → View → Type 0
Waits w v = IsWaiting (deed_of w v)

one-waits : (d : Deed) → IsWaiting d → IsWaiting (answered d) → ⊥
one-waits (Puts t x) a b = a
one-waits (Gets t x) a b = b
one-waits (Forks x y) a b = a
one-waits (Splits x y) a b = b
one-waits (Picks cs) a b = a
one-waits (Offers cs) a b = b
one-waits Ends a b = a
one-waits IsLinked a b = a

-- of a view and the same from the other side one doesn't wait
pub not-both-wait : (w : World) (v : View) → Waits w v → Waits w (turned v) → ⊥
not-both-wait w v a b = one-waits (deed_of w v) a (subst IsWaiting (deed-of-turned w v) b)

taken-waits : (w : World) (s : Side) (d : Deed) (m : Message) (next : View) → taken_at w s d m next → IsWaiting d
taken-waits w s (Puts t x) m next k = k
taken-waits w s (Gets t x) m next k = tt
taken-waits w s (Forks x y) m next k = k
taken-waits w s (Splits x y) m next k = tt
taken-waits w s (Picks cs) m next k = k
taken-waits w s (Offers cs) m next k = tt
taken-waits w s Ends m next k = k
taken-waits w s IsLinked m next k = k

-- what takes a message waits
pub takes-waits : (w : World) (v : View) (m : Message) (ms : List Message) (last : View) → TakesAll w v (m ∷ ms) last → Waits w v
takes-waits w v m ms last (next, k, more) = taken-waits w (side_of v) (deed_of w v) m next k

-- what doesn't wait takes nothing
pub still : (w : World) (v : View) (ms : List Message) (last : View) → (Waits w v → ⊥) → TakesAll w v ms last → v ≡ last
still w v [] last n k = k
still w v (m ∷ ms) last n k = absurd (n (takes-waits w v m ms last k))

-- nothing more, and what may only be closed
abbrev pub IsOver : Option Channel → Type 0
IsOver o = (o ≡ None) ⊎ ((s : Side) × (o ≡ Some (On s c.TopBot)))

over-deed : (w : World) (s : Side) → deed w s c.TopBot ≡ Ends
over-deed w Input = refl
over-deed w Output = refl

-- they don't wait
pub over-is-still : (w : World) (o : Option Channel) → IsOver o → Waits w (view_in o) → ⊥
over-is-still w o (inl i) k = subst (λ z. Waits w (view_in z)) i k
over-is-still w o (inr (s, i)) k =
    let h : IsWaiting (deed w s c.TopBot) = subst (λ z. Waits w (view_in z)) i k in
    subst IsWaiting (over-deed w s) h

-- nor do they from the other side
ends-or-linked : (w : World) (o : Option Channel) → IsOver o → (deed_of w (view_in o) ≡ Ends) ⊎ (deed_of w (view_in o) ≡ IsLinked)
ends-or-linked w o (inl i) = inr (ap (λ z. deed_of w (view_in z)) i)
ends-or-linked w o (inr (s, i)) = inl (ap (λ z. deed_of w (view_in z)) i ∙ over-deed w s)

answered-waits : (d : Deed) → IsWaiting d → (answered d ≡ Ends) ⊎ (answered d ≡ IsLinked) → ⊥
answered-waits (Puts t x) k i = k
answered-waits (Gets t x) k i = elim i [ inl j ↦ cc j | inr j ↦ cc j ]
answered-waits (Forks x y) k i = k
answered-waits (Splits x y) k i = elim i [ inl j ↦ cc j | inr j ↦ cc j ]
answered-waits (Picks cs) k i = k
answered-waits (Offers cs) k i = elim i [ inl j ↦ cc j | inr j ↦ cc j ]
answered-waits Ends k i = k
answered-waits IsLinked k i = k

pub over-turned : (w : World) (o : Option Channel) (v : View) → IsOver o → view_in o ≡ turned v → Waits w v → ⊥
over-turned w o v over is k =
    let back : deed_of w (view_in o) ≡ answered (deed_of w v) = ap (deed_of w) is ∙ deed-of-turned w v in
    answered-waits (deed_of w v) k (elim (ends-or-linked w o over) [ inl i ↦ inl (sym back ∙ i) | inr i ↦ inr (sym back ∙ i) ])

-- Places change no receipt

-- the second is the same receipt as the first
abbrev pub Alike : Deed → Deed → Type 0
Alike (Gets t y) d = (u : SeqType) × (x : ChanType) × (d ≡ Gets u x)
Alike (Splits x y) d = (u : ChanType) × (v : ChanType) × (d ≡ Splits u v)
Alike (Offers cs) d = (ds : Choices) × (d ≡ Offers ds) × ((n : ℕ) (x : Name) (t : ChanType) → slice_get ds n ≡ Some (x, t) → (u : ChanType) × (slice_get cs n ≡ Some (x, u)))
Alike (Puts t y) d = Unit {0}
Alike (Forks x y) d = Unit {0}
Alike (Picks cs) d = Unit {0}
Alike Ends d = Unit {0}
Alike IsLinked d = Unit {0}

-- two lists of choices with the same names
both-mapped : {A : Type 0} (name : A → Name) (f g : A → ChanType) (ks : List A) (n : ℕ) (x : Name) (t : ChanType) →
    slice_get (map (λ k. let z : Name × ChanType = (name k, f k) in z) ks) n ≡ Some (x, t) → (u : ChanType) × (slice_get (map (λ k. let z : Name × ChanType = (name k, g k) in z) ks) n ≡ Some (x, u))
both-mapped name f g [] n x t i = absurd (cc i)
both-mapped name f g (k ∷ ks) zero x t i =
    let q : ◌≡◌ {A = Name × ChanType} (name k, f k) (x, t) = cc i in
    let e : name k ≡ x = ap (λ (z : Name × ChanType). z.0) q in
    (g k, ap (λ y. let z : Option (Name × ChanType) = Some (y, g k) in z) e)
both-mapped name f g (k ∷ ks) (suc n) x t i = both-mapped name f g ks n x t i

named-alike : (o : Option TypeEntry) (s : Side) (ts us : List SeqType) → Alike (of_named o s ts) (of_named o s us)
named-alike (Some (ProtocolType d)) Output ts us = tt
named-alike (Some (ProtocolType d)) Input ts us = (protocol_choices d us, refl, both-mapped (λ (k : ProtocolConstructor). k.name.name) _ _ d.constructors)
named-alike (Some (CoprotocolType d)) Output ts us = (coprotocol_choices d us, refl, both-mapped (λ (k : CoprotocolConstructor). k.name.name) _ _ d.constructors)
named-alike (Some (CoprotocolType d)) Input ts us = tt
named-alike (Some (DataType d)) s ts us = tt
named-alike None s ts us = tt

pub alike : (w : World) (s : Side) (u : ChanType) → Alike (deed w s u) (deed_of w (view_of s u))
alike w Output (c.Put t x) = tt
alike w Input (c.Put t x) = (bare t, bare_chan x, refl)
alike w Output (c.Get t x) = (bare t, bare_chan x, refl)
alike w Input (c.Get t x) = tt
alike w Output (c.Tensor x y) = tt
alike w Input (c.Tensor x y) = (bare_chan x, bare_chan y, refl)
alike w Output (c.Par x y) = (bare_chan x, bare_chan y, refl)
alike w Input (c.Par x y) = tt
alike w Output c.TopBot = tt
alike w Input c.TopBot = tt
alike w Output (c.Neg x) = tt
alike w Input (c.Neg x) = tt
alike w Output (c.Named at x ts) = named-alike (type_named w x) Output (list_of ts) (list_of (all_bare ts))
alike w Input (c.Named at x ts) = named-alike (type_named w x) Input (list_of ts) (list_of (all_bare ts))
