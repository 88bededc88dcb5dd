-- Peeling the last part of a plug leaves a plug, and a body that is well formed with its share.
use Rattle.std.proofs.Common.{◌≡◌, ◌⊎◌, inl, inr, refl, sym, subst, ℕ, ◌+◌, ◌≤◌, arith, Bool, true, false, ◌||◌, if◌then◌else◌, Option, Some, None}
use Rattle.std.proofs.Math.Path.{fun_ext}
use Rattle.campl_tree.specs.declared.service.Side.TheVariants.{Input, Output}
use Rattle.campl_tree.specs.Plain.ChanType.{ChanType}
use Rattle.campl_tree.specs.Plain.Process.{Body, Link, Header, Parts, no_parts, part_then}
use Rattle.campl_types.specs.Names.{Name, same_name, is_among}
use Rattle.campl_types.specs.World.{World, names_of}
use Rattle.campl_types.specs.Fits.{Vars}
use Rattle.campl_types.specs.Held.{Channel, On, Held}
use Rattle.campl_types.specs.Headers.{Links, times, times_in, times_out, IsUsed, share}
use Rattle.campl_types.specs.Linear.{IsWellFormed, PartsAreWellFormed, PlugIsWellFormed}
use Rattle.campl_types.proofs.Names.{same-itself, split-names}
use Rattle.campl_peel.specs.Plugging.{stands_in, held_by_child, held_by_rest}
use Rattle.campl_types.proofs.Truth.{split, no-both, or-none}
use Rattle.campl_types.proofs.Times.{among-some, among-none, once}
use Rattle.campl_peel.proofs.Standing.{stands-some, stands-none}

pub none-or : {A : Type 0} (o : Option A) → (o ≡ None) ⊎ ((v : A) × (o ≡ Some v))
none-or None = inl refl
none-or (Some v) = inr (v, refl)

-- a link's uses
pub link-uses : (t : ChanType) (held : Option Channel) (o i : ℕ) → IsUsed (Some t) held o i → (held ≡ None) × (o ≡ 1) × (i ≡ 1)
link-uses t None o i u = (refl, u.0, u.1)
link-uses t (Some c) o i u = absurd u

-- a name that is no link stands at most once
pub held-uses : (held : Option Channel) (o i : ℕ) → IsUsed None held o i → o + i ≤ 1
held-uses None o i u = omega (arith, u.0, u.1)
held-uses (Some (On Output t)) o i u = omega (arith, u.0, u.1)
held-uses (Some (On Input t)) o i u = omega (arith, u.0, u.1)

-- what is held stands somewhere
held-stands : (held : Option Channel) (o i : ℕ) → IsUsed None held o i → o ≡ 0 → i ≡ 0 → held ≡ None
held-stands None o i u a b = refl
held-stands (Some (On Output t)) o i u a b = absurd (omega (arith, u.0, a))
held-stands (Some (On Input t)) o i u a b = absurd (omega (arith, u.1, b))

-- a name that doesn't stand in the last part is used as before
still-used : (link : Option ChanType) (held : Option Channel) (o i p q : ℕ) → o ≡ 0 → i ≡ 0 → IsUsed link held (o + p) (i + q) → IsUsed link held p q
still-used (Some t) None o i p q a b u = (omega (arith, a, u.0), omega (arith, b, u.1))
still-used (Some t) (Some c) o i p q a b u = absurd u
still-used None (Some (On Output t)) o i p q a b u = (omega (arith, a, u.0), omega (arith, b, u.1))
still-used None (Some (On Input t)) o i p q a b u = (omega (arith, a, u.0), omega (arith, b, u.1))
still-used None None o i p q a b u = (omega (arith, a, u.0), omega (arith, b, u.1))

-- and a held name that stands there isn't used any more
not-used : (held : Option Channel) (o i p q : ℕ) → 1 ≤ i + o → IsUsed None held (o + p) (i + q) → IsUsed None None p q
not-used held o i p q a u = let h : (o + p) + (i + q) ≤ 1 = held-uses held (o + p) (i + q) u in (omega (arith, h, a), omega (arith, h, a))

-- the links without one
abbrev pub but : Name → Links → Links
but x links y = if same_name x y then None else links y

module _ (w : World) (vs : Vars) (links : Links) (held : Held) (h : Header) (body : Body) (rest : Parts) (l : Link)
    (plug : PlugIsWellFormed w vs links held (part_then h body rest))
    (link : links l.name.name ≡ Some l.channel_type)
    (here : stands_in h l.name.name ≡ true)
    (alone : (y : Name) (u : ChanType) → same_name l.name.name y ≡ false → links y ≡ Some u → stands_in h y ≡ false) where
  x : Name
  x = l.name.name

  used : (y : Name) → IsUsed (links y) (held y) (times y h.outputs + times_out y rest) (times y h.inputs + times_in y rest)
  used = plug.0.0

  few : (y : Name) → times y h.inputs + times y h.outputs ≤ 1
  few y = once y h.inputs h.outputs plug.0.1.0

  -- the link stands once on each side, and once in the part
  sides : (times l.name.name h.outputs + times_out l.name.name rest ≡ 1) × (times l.name.name h.inputs + times_in l.name.name rest ≡ 1)
  sides =
      let (a, b, c) = link-uses l.channel_type (held l.name.name) _ _ (subst (λ o. IsUsed o (held l.name.name) (times l.name.name h.outputs + times_out l.name.name rest) (times l.name.name h.inputs + times_in l.name.name rest)) link (used l.name.name)) in
      (b, c)

  -- and isn't held
  pub link-new : held l.name.name ≡ None
  link-new =
      let (a, b, c) = link-uses l.channel_type (held l.name.name) _ _ (subst (λ o. IsUsed o (held l.name.name) (times l.name.name h.outputs + times_out l.name.name rest) (times l.name.name h.inputs + times_in l.name.name rest)) link (used l.name.name)) in
      a

  in-one : 1 ≤ times l.name.name h.inputs + times l.name.name h.outputs
  in-one = stands-some l.name.name h here

  -- the part's share
  same-child : (y : Name) → share links held h y ≡ held_by_child h l held y
  same-child y = elim (split-names l.name.name y) [
    | inl e ↦ subst (λ z. share links held h z ≡ held_by_child h l held z) e (at-link (is_among l.name.name (names_of h.outputs)) (is_among l.name.name (names_of h.inputs)) refl refl)
    | inr off ↦ rw off (elim (none-or (links y)) [
      | inl n ↦ rw n (other (is_among y (names_of h.outputs)) (is_among y (names_of h.inputs)) (held y))
      | inr s ↦
          let (u, n) = s in
          let (a, b) = or-none (is_among y (names_of h.inputs)) (is_among y (names_of h.outputs)) (alone y u off n) in
          rw (n, a, b) refl
    ])
  ]
    where
      other : (o i : Bool) (c : Option Channel) → (if o then c else (if i then c else None)) ≡ (if i || o then c else None)
      other true true c = refl
      other true false c = refl
      other false true c = refl
      other false false c = refl

      at-link : (o i : Bool) → is_among l.name.name (names_of h.outputs) ≡ o → is_among l.name.name (names_of h.inputs) ≡ i → share links held h l.name.name ≡ held_by_child h l held l.name.name
      at-link true i eo ei = rw (same-itself l.name.name, link, eo) refl
      at-link false true eo ei = rw (same-itself l.name.name, link, eo, ei) refl
      at-link false false eo ei = absurd (
          let a : times l.name.name h.outputs ≡ 0 = among-none l.name.name h.outputs eo in
          let b : times l.name.name h.inputs ≡ 0 = among-none l.name.name h.inputs ei in
          omega (arith, a, b, in-one))

  -- the part that is peeled is well formed
  pub child-is-well-formed : IsWellFormed w vs (held_by_child h l held) body
  child-is-well-formed = subst (λ g. IsWellFormed w vs g body) (fun_ext same-child) plug.1.0

  -- the other parts use each name as they should
  rest-used : (y : Name) → IsUsed (but l.name.name links y) (held_by_rest h l held y) (times_out y rest) (times_in y rest)
  rest-used y = elim (split-names l.name.name y) [
    | inl e ↦ subst (λ z. IsUsed (but l.name.name links z) (held_by_rest h l held z) (times_out z rest) (times_in z rest)) e (at-link (is_among l.name.name (names_of h.outputs)) refl)
    | inr off ↦ rw off (elim (split (stands_in h y)) [
      | inr out ↦ rw out (let (a, b) = stands-none y h out in still-used (links y) (held y) _ _ _ _ b a (used y))
      | inl there ↦ rw there (elim (none-or (links y)) [
        | inl n ↦ rw n (not-used (held y) _ _ _ _ (stands-some y h there) (subst (λ o. IsUsed o (held y) (times y h.outputs + times_out y rest) (times y h.inputs + times_in y rest)) n (used y)))
        | inr s ↦ let (u, n) = s in absurd (no-both (stands_in h y) there (alone y u off n))
      ])
    ])
  ]
    where
      at-link : (o : Bool) → is_among l.name.name (names_of h.outputs) ≡ o → IsUsed (but l.name.name links l.name.name) (held_by_rest h l held l.name.name) (times_out l.name.name rest) (times_in l.name.name rest)
      at-link true eo = rw (same-itself l.name.name, eo) (
          let a : 1 ≤ times l.name.name h.outputs = among-some l.name.name h.outputs eo in
          let f : times l.name.name h.inputs + times l.name.name h.outputs ≤ 1 = few l.name.name in
          let (b, c) = sides in
          (omega (arith, a, b), omega (arith, a, c, f)))
      at-link false eo = rw (same-itself l.name.name, eo) (
          let a : times l.name.name h.outputs ≡ 0 = among-none l.name.name h.outputs eo in
          let (b, c) = sides in
          (omega (arith, a, b), omega (arith, a, c, in-one)))

  -- each other part holds what it held
  same-share : (g : Header) → ((y : Name) → (times y g.outputs ≤ times_out y rest) × (times y g.inputs ≤ times_in y rest))
      → (y : Name) → share links held g y ≡ share (but l.name.name links) (held_by_rest h l held) g y
  same-share g part y = elim (split-names l.name.name y) [
    | inl e ↦ subst (λ z. share links held g z ≡ share (but l.name.name links) (held_by_rest h l held) g z) e
        (at-link (is_among l.name.name (names_of g.outputs)) (is_among l.name.name (names_of g.inputs)) (is_among l.name.name (names_of h.outputs)) refl refl refl)
    | inr off ↦ rw off (elim (none-or (links y)) [
      | inr s ↦ let (u, n) = s in rw n refl
      | inl n ↦ rw n (elim (split (stands_in h y)) [
        | inr out ↦ rw out refl
        | inl there ↦ rw there (unheld there n (is_among y (names_of g.outputs)) (is_among y (names_of g.inputs)) refl refl)
      ])
    ])
  ]
    where
      at-link : (o i p : Bool) → is_among l.name.name (names_of g.outputs) ≡ o → is_among l.name.name (names_of g.inputs) ≡ i → is_among l.name.name (names_of h.outputs) ≡ p
          → share links held g l.name.name ≡ share (but l.name.name links) (held_by_rest h l held) g l.name.name
      at-link true i true eo ei ep = absurd (
          let a : 1 ≤ times l.name.name g.outputs = among-some l.name.name g.outputs eo in
          let b : 1 ≤ times l.name.name h.outputs = among-some l.name.name h.outputs ep in
          let (c, d) = part l.name.name in
          omega (arith, a, b, c, sides.0))
      at-link true i false eo ei ep = rw (same-itself l.name.name, link, eo, ep) refl
      at-link false true true eo ei ep = rw (same-itself l.name.name, link, eo, ei, ep) refl
      at-link false true false eo ei ep = absurd (
          let a : 1 ≤ times l.name.name g.inputs = among-some l.name.name g.inputs ei in
          let b : times l.name.name h.outputs ≡ 0 = among-none l.name.name h.outputs ep in
          let (c, d) = part l.name.name in
          omega (arith, a, b, d, sides.1, in-one))
      at-link false false p eo ei ep = rw (eo, ei) refl

      unheld : stands_in h y ≡ true → links y ≡ None → (o i : Bool) → is_among y (names_of g.outputs) ≡ o → is_among y (names_of g.inputs) ≡ i
          → (if o then held y else (if i then held y else None)) ≡ (if o then None else (if i then None else None))
      unheld there n true i eo ei = absurd (
          let a : 1 ≤ times y g.outputs = among-some y g.outputs eo in
          let b : 1 ≤ times y h.inputs + times y h.outputs = stands-some y h there in
          let c : (times y h.outputs + times_out y rest) + (times y h.inputs + times_in y rest) ≤ 1 = held-uses (held y) _ _ (subst (λ o. IsUsed o (held y) (times y h.outputs + times_out y rest) (times y h.inputs + times_in y rest)) n (used y)) in
          let (d, e) = part y in
          omega (arith, a, b, c, d))
      unheld there n false true eo ei = absurd (
          let a : 1 ≤ times y g.inputs = among-some y g.inputs ei in
          let b : 1 ≤ times y h.inputs + times y h.outputs = stands-some y h there in
          let c : (times y h.outputs + times_out y rest) + (times y h.inputs + times_in y rest) ≤ 1 = held-uses (held y) _ _ (subst (λ o. IsUsed o (held y) (times y h.outputs + times_out y rest) (times y h.inputs + times_in y rest)) n (used y)) in
          let (d, e) = part y in
          omega (arith, a, b, c, e))
      unheld there n false false eo ei = refl

  rest-parts : (parts : Parts) → ((y : Name) → (times_out y parts ≤ times_out y rest) × (times_in y parts ≤ times_in y rest)) → PartsAreWellFormed w vs links held parts
      → PartsAreWellFormed w vs (but l.name.name links) (held_by_rest h l held) parts
  rest-parts no_parts part fine = tt
  rest-parts (part_then g c parts) part fine = (
    subst (λ k. IsWellFormed w vs k c) (fun_ext (same-share g (λ y. let (a, b) = part y in (omega (arith, a), omega (arith, b))))) fine.0,
    rest-parts parts (λ y. let (a, b) = part y in (omega (arith, a), omega (arith, b))) fine.1,
  )

  -- the parts left are a plug
  pub rest-is-plug : PlugIsWellFormed w vs (but l.name.name links) (held_by_rest h l held) rest
  rest-is-plug = ((rest-used, plug.0.1.1), rest-parts rest (λ y. (omega arith, omega arith)) plug.1.1)

-- A last part holds all that is held
module _ (w : World) (vs : Vars) (links : Links) (held : Held) (h : Header) (body : Body) (plug : PlugIsWellFormed w vs links held (part_then h body no_parts)) where
  all-held : (y : Name) → share links held h y ≡ held y
  all-held y = elim (none-or (links y)) [
    | inr s ↦
        let (u, n) = s in
        let (a, b, c) = link-uses u (held y) _ _ (subst (λ o. IsUsed o (held y) (times y h.outputs + 0) (times y h.inputs + 0)) n (plug.0.0 y)) in
        absurd (let f : times y h.inputs + times y h.outputs ≤ 1 = once y h.inputs h.outputs plug.0.1.0 in omega (arith, b, c, f))
    | inl n ↦ rw n (go (is_among y (names_of h.outputs)) (is_among y (names_of h.inputs)) refl refl (subst (λ o. IsUsed o (held y) (times y h.outputs + 0) (times y h.inputs + 0)) n (plug.0.0 y)))
  ]
    where
      go : (o i : Bool) → is_among y (names_of h.outputs) ≡ o → is_among y (names_of h.inputs) ≡ i → IsUsed None (held y) (times y h.outputs + 0) (times y h.inputs + 0)
          → (if o then held y else (if i then held y else None)) ≡ held y
      go true i eo ei u = refl
      go false true eo ei u = refl
      go false false eo ei u = sym (held-stands (held y) _ _ u
          (let a : times y h.outputs ≡ 0 = among-none y h.outputs eo in omega (arith, a))
          (let a : times y h.inputs ≡ 0 = among-none y h.inputs ei in omega (arith, a)))

  pub last-is-well-formed : IsWellFormed w vs held body
  last-is-well-formed = subst (λ g. IsWellFormed w vs g body) (fun_ext all-held) plug.1.0

pub last_try : (n : ℕ) → n ≡ n
last_try n = refl
