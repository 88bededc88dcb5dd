-- What typing holds is among the channels that have numbers.
use Rattle.std.proofs.Common.{◌≡◌, ◌∙◌, refl, sym, ap, subst, ℕ, Bool, true, false, List, [], ◌∷◌, Option, Some, None, if◌then◌else◌, true≢false}
use Rattle.campl_tree.specs.declared.place.Ident.{Ident}
use Rattle.campl_tree.specs.declared.service.Side.{Side}
use Rattle.campl_tree.specs.Plain.ChanType.{ChanType}
use Rattle.campl_types.specs.Names.{Name, same_name, found}
use Rattle.campl_types.proofs.Names.{same-is, same-turned}
use Rattle.campl_types.specs.Held.{On, Held, Channel, with, only}
use Rattle.campl_types.specs.Held as typed
use Rattle.campl_types.specs.Linear.{AreHanded}
use Rattle.campl_peel.specs.Terms.{those}
use Rattle.campl_code_bodies.specs.Bodies.{Channels, without}
use Rattle.campl_code_bodies.specs.BodyNeeds.{IsHeld, AreHeld}

abbrev pub HeldAs : Held → Channels → Type 0
HeldAs held cs = (x : Name) (ch : Channel) → held x ≡ Some ch → IsHeld x cs

found-without : (x y : Name) (cs : Channels) → same_name x y ≡ false → found y (without x cs) ≡ found y cs
found-without x y [] h = refl
found-without x y (c ∷ cs) h = go (same_name x c.0) refl (same_name y c.0) refl (found-without x y cs h)
  where
    go : (b : Bool) → same_name x c.0 ≡ b → (d : Bool) → same_name y c.0 ≡ d → found y (without x cs) ≡ found y cs → found y (if b then without x cs else c ∷ without x cs) ≡ (if d then Some c.1 else found y cs)
    go true i true j later = absurd (true≢false (sym (subst (λ (z : Name). same_name x z ≡ true) (sym (same-is y c.0 j)) i) ∙ h))
    go true i false j later = later
    go false i true j later = ap (λ t. if t then Some c.1 else found y (without x cs)) j
    go false i false j later = ap (λ t. if t then Some c.1 else found y (without x cs)) j ∙ later

found-those : (keep : Name → Bool) (y : Name) (cs : Channels) → keep y ≡ true → found y (those keep cs) ≡ found y cs
found-those keep y [] h = refl
found-those keep y (c ∷ cs) h = go (keep c.0) refl (same_name y c.0) refl (found-those keep y cs h)
  where
    go : (b : Bool) → keep c.0 ≡ b → (d : Bool) → same_name y c.0 ≡ d → found y (those keep cs) ≡ found y cs → found y (if b then c ∷ those keep cs else those keep cs) ≡ (if d then Some c.1 else found y cs)
    go true i true j later = ap (λ t. if t then Some c.1 else found y (those keep cs)) j
    go true i false j later = ap (λ t. if t then Some c.1 else found y (those keep cs)) j ∙ later
    go false i true j later = absurd (true≢false (sym h ∙ ap keep (same-is y c.0 j) ∙ i))
    go false i false j later = later

-- a channel that is held under another type
pub held-again : (x : Name) (c d : Channel) (held : Held) (cs : Channels) → held x ≡ Some d → HeldAs held cs → HeldAs (with x (Some c) held) cs
held-again x c d held cs h all y ch i = go (same_name x y) refl i
  where
    go : (b : Bool) → same_name x y ≡ b → (if b then Some c else held y) ≡ Some ch → IsHeld y cs
    go true j i = subst (λ (z : Name). IsHeld z cs) (same-is x y j) (all x d h)
    go false j i = all y ch i

pub held-without : (x : Name) (held : Held) (cs : Channels) → HeldAs held cs → HeldAs (typed.without x held) (without x cs)
held-without x held cs all y ch i = go (same_name x y) refl i
  where
    go : (b : Bool) → same_name x y ≡ b → (if b then None else held y) ≡ Some ch → IsHeld y (without x cs)
    go true j i = absurd (cc i)
    go false j i = let r = all y ch i in (r.0, found-without x y cs j ∙ r.1)

pub held-new : (x : Name) (c : Option Channel) (n : ℕ) (held : Held) (cs : Channels) → HeldAs held cs → HeldAs (with x c held) ((x, n) ∷ cs)
held-new x c n held cs all y ch i = go (same_name x y) refl i
  where
    go : (b : Bool) → same_name x y ≡ b → (if b then c else held y) ≡ Some ch → IsHeld y ((x, n) ∷ cs)
    go true j i = (n, ap (λ t. if t then Some n else found y cs) (same-turned y x ∙ j))
    go false j i = let r = all y ch i in (r.0, ap (λ t. if t then Some n else found y cs) (same-turned y x ∙ j) ∙ r.1)

pub held-only : (keep : Name → Bool) (held : Held) (cs : Channels) → HeldAs held cs → HeldAs (only keep held) (those keep cs)
held-only keep held cs all y ch i = go (keep y) refl i
  where
    go : (b : Bool) → keep y ≡ b → (if b then held y else None) ≡ Some ch → IsHeld y (those keep cs)
    go true j i = let r = all y ch i in (r.0, found-those keep y cs j ∙ r.1)
    go false j i = absurd (cc i)

-- the same, where what is held is kept by another test
pub held-kept : (keep : Name → Bool) (held kept : Held) (cs : Channels) → ((y : Name) (ch : Channel) → kept y ≡ Some ch → (keep y ≡ true) × (held y ≡ Some ch)) → HeldAs held cs → HeldAs kept (those keep cs)
held-kept keep held kept cs h all y ch i = let k = h y ch i in let r = all y ch k.1 in (r.0, found-those keep y cs k.0 ∙ r.1)

pub handed-held : (held : Held) (side : Side) (xs : List Ident) (ts : List ChanType) (cs : Channels) → HeldAs held cs → AreHanded held side xs ts → AreHeld xs cs
handed-held held side [] [] cs all h = tt
handed-held held side (x ∷ xs) (t ∷ ts) cs all h = (all x.name (On side h.0) h.1, handed-held held side xs ts cs all h.3)
handed-held held side [] (t ∷ ts) cs all h = absurd h
handed-held held side (x ∷ xs) [] cs all h = absurd h
