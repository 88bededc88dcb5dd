-- A well formed plug whose parts are a tree is a well formed plug of which nothing is peeled.
use Rattle.std.proofs.Common.{◌≡◌, ◌∙◌, inl, inr, refl, sym, ap, subst, ℕ, zero, suc, ◌<◌, ◌≤◌, arith, Bool, true, false, ◌&&◌, if◌then◌else◌, List, [], ◌∷◌, Option, Some, None, map, take, take_all, length, reverse, option_map}
use Rattle.std.proofs.lemmas.List.{reverse-append}
use Rattle.std.specs.List.{slice_get, AllByRecursion}
use Rattle.std.proofs.lemmas.Bool.{cases_eq, and_parts}
use Rattle.std.proofs.lemmas.Option.{slice_get_within, slice_get-map}
use Rattle.campl_plug.specs.declared.plug.Link.{Link}
use Rattle.campl_plug.specs.Links.{IsWithin, Joins}
use Rattle.campl_plug.specs.Tree.{IsTree}
use Rattle.campl_plug.specs.Order.{IsBreadthFirst, IsLinkBack}
use Rattle.campl_plug.proofs.Places.{get-there, get-one, take-one-more}
use Rattle.campl_plug.proofs.Peeled.{starts-at-one, has-one-link-back}
use Rattle.campl_tree.specs.Plain.ChanType.{ChanType}
use Rattle.campl_tree.specs.Plain.Process as b
use Rattle.campl_tree.specs.Plain.Process.{Body, Header, Parts, no_parts, part_then}
use Rattle.campl_types.specs.Names.{Name, same_name, is_among}
use Rattle.campl_types.specs.World.{names_of}
use Rattle.campl_types.specs.Held.{Held}
use Rattle.campl_types.specs.Headers.{links_in, times, times_in, times_out, IsUsed, Divide, count}
use Rattle.campl_types.proofs.Names.{same-itself}
use Rattle.campl_peel.specs.Plugging.{stands_in, stands_among, links_to, HasOneLinkTo, EachHasOneLink}
use Rattle.campl_peel.specs.Numbered.{part_at, add_part, picked, number_of, outputs_in, inputs_in, joined_by, joined_parts}
use Rattle.campl_types.proofs.Truth.{split, no-both, or-split, or-second}
use Rattle.campl_types.proofs.Choices.{get-mapped}
use Rattle.campl_peel.proofs.Peeling.{link-uses}
use Rattle.campl_peel.proofs.Numbers.{same-pair, weight, weight-out, weight-in, there, numbered, one-number}

-- of the links one joins the part to those parts where exactly one passes the test
module _ (parts : Parts) (h : Header) where
  none-to : (links : List b.Link) → ((j : ℕ) (m : b.Link) → slice_get links j ≡ Some m → (stands_in h m.name.name && stands_among parts m.name.name) ≡ true → ⊥) → links_to parts h links ≡ []
  none-to [] f = refl
  none-to (m ∷ links) f = elim (split (stands_in h m.name.name && stands_among parts m.name.name)) [
    | inl t ↦ absurd (f 0 m refl t)
    | inr t ↦ rw t (none-to links (λ j. f (suc j)))
  ]

  one-to : (links : List b.Link) (i : ℕ) (l : b.Link) → slice_get links i ≡ Some l → (stands_in h l.name.name && stands_among parts l.name.name) ≡ true
      → ((j : ℕ) (m : b.Link) → slice_get links j ≡ Some m → (stands_in h m.name.name && stands_among parts m.name.name) ≡ true → j ≡ i) → links_to parts h links ≡ l ∷ []
  one-to [] i l e t f = absurd (let no : ⊥ = cc in no)
  one-to (m ∷ links) zero l e t f =
      let s : m ≡ l = cc in
      rw (subst (λ (z : b.Link). (stands_in h z.name.name && stands_among parts z.name.name) ≡ true) (sym s) t)
      (subst (λ z. m ∷ links_to parts h links ≡ z ∷ []) s
      (ap (λ ls. m ∷ ls) (none-to links (λ j n a c. let no : suc j ≡ 0 = f (suc j) n a c in absurd (omega (arith, no))))))
  one-to (m ∷ links) (suc i) l e t f = elim (split (stands_in h m.name.name && stands_among parts m.name.name)) [
    | inl u ↦ absurd (let no : 0 ≡ suc i = f 0 m refl u in omega (arith, no))
    | inr u ↦ rw u (one-to links i l e t (λ j n a c. let s : suc j ≡ suc i = f (suc j) n a c in omega (arith, s)))
  ]

-- a link is found under its name
pub found-there : (links : List b.Link) (j : ℕ) (m : b.Link) → slice_get links j ≡ Some m → (u : ChanType) × (links_in links m.name.name ≡ Some u)
found-there [] j m e = absurd (let no : ⊥ = cc in no)
found-there (l ∷ links) zero m e = let s : l ≡ m = cc in subst (λ (z : b.Link). (u : ChanType) × (links_in (l ∷ links) z.name.name ≡ Some u)) s (l.channel_type, rw (same-itself l.name.name) refl)
found-there (l ∷ links) (suc j) m e = let (u, f) = found-there links j m e in go (same_name m.name.name l.name.name) u f
  where
    go : (c : Bool) (u : ChanType) → links_in links m.name.name ≡ Some u → (v : ChanType) × ((if c then Some l.channel_type else links_in links m.name.name) ≡ Some v)
    go true u f = (l.channel_type, refl)
    go false u f = (u, f)

-- with the parts of a prefix of the order
reverse-more : (order : List ℕ) (i q : ℕ) → slice_get order i ≡ Some q → reverse (take (suc i) order) ≡ q ∷ reverse (take i order)
reverse-more order i q e = ap reverse (take-one-more order i q e) ∙ reverse-append (take i order) (q ∷ [])

module _ (parts : Parts) (order : List ℕ) (x : Name) where
  -- where a name stands among the first parts of the order
  stands-before : (i : ℕ) → i ≤ length order → stands_among (picked parts (reverse (take i order))) x ≡ true
      → (u : ℕ) × (p : ℕ) × (h : Header) × (c : Body) × (u < i) × (slice_get order u ≡ Some p) × (part_at parts p ≡ Some (h, c)) × (stands_in h x ≡ true)
  stands-before zero small t = absurd (no-both false t refl)
  stands-before (suc i) small t =
      let (q, e) = get-there order i (omega (arith, small)) in
      go q e (part_at parts q) refl (subst (λ z. stands_among (picked parts z) x ≡ true) (reverse-more order i q e) t) (stands-before i (omega (arith, small)))
    where
      go : (q : ℕ) → slice_get order i ≡ Some q → (o : Option (Header × Body)) → part_at parts q ≡ o → stands_among (add_part o (picked parts (reverse (take i order)))) x ≡ true
          → (stands_among (picked parts (reverse (take i order))) x ≡ true → (u : ℕ) × (p : ℕ) × (h : Header) × (c : Body) × (u < i) × (slice_get order u ≡ Some p) × (part_at parts p ≡ Some (h, c)) × (stands_in h x ≡ true))
          → (u : ℕ) × (p : ℕ) × (h : Header) × (c : Body) × (u < suc i) × (slice_get order u ≡ Some p) × (part_at parts p ≡ Some (h, c)) × (stands_in h x ≡ true)
      go q e None f t r = let (u, p, h, c, a, d, g, s) = r t in (u, p, h, c, omega (arith, a), d, g, s)
      go q e (Some o) f t r = elim (or-split (stands_in o.0 x) (stands_among (picked parts (reverse (take i order))) x) t) [
        | inl s ↦ (i, q, o.0, o.1, omega arith, e, f, s)
        | inr s ↦ let (u, p, h, c, a, d, g, k) = r s in (u, p, h, c, omega (arith, a), d, g, k)
      ]

  before-stands : (i : ℕ) → i ≤ length order → (u p : ℕ) (h : Header) (c : Body) → u < i → slice_get order u ≡ Some p → part_at parts p ≡ Some (h, c) → stands_in h x ≡ true
      → stands_among (picked parts (reverse (take i order))) x ≡ true
  before-stands zero small u p h c less e f s = absurd (omega (arith, less))
  before-stands (suc i) small u p h c less e f s =
      let (q, d) = get-there order i (omega (arith, small)) in
      subst (λ z. stands_among (picked parts z) x ≡ true) (sym (reverse-more order i q d))
      (elim (cases_eq u i) [
        | inl same ↦
            let g : p ≡ q = get-one order i p q (subst (λ z. slice_get order z ≡ Some p) same e) d in
            rw (subst (λ z. part_at parts z ≡ Some (h, c)) g f, s) refl
        | inr other ↦ later (part_at parts q) (before-stands i (omega (arith, small)) u p h c (omega (arith, less, other)) e f s)
      ])
    where
      later : (o : Option (Header × Body)) → stands_among (picked parts (reverse (take i order))) x ≡ true → stands_among (add_part o (picked parts (reverse (take i order)))) x ≡ true
      later None t = t
      later (Some o) t = or-second (stands_in o.0 x) (stands_among (picked parts (reverse (take i order))) x) t

-- A plug whose links are used
module _ (links : List b.Link) (held : Held) (parts : Parts) (divide : Divide (links_in links) held parts) where
  pairs : List Link
  pairs = joined_parts links parts

  -- a link stands once on each side
  once-each : (j : ℕ) (m : b.Link) → slice_get links j ≡ Some m
      → (weight (λ h. times m.name.name (outputs_in h)) parts ≡ 1) × (weight (λ h. times m.name.name (inputs_in h)) parts ≡ 1)
  once-each j m e =
      let (u, f) = found-there links j m e in
      let (new, o, i) = link-uses u (held m.name.name) _ _ (subst (λ z. IsUsed z (held m.name.name) (times_out m.name.name parts) (times_in m.name.name parts)) f (divide.0 m.name.name)) in
      (sym (weight-out m.name.name parts) ∙ o, sym (weight-in m.name.name parts) ∙ i)

  within-each : (j : ℕ) (m : b.Link) → slice_get links j ≡ Some m → IsWithin (count parts) (joined_by parts m)
  within-each j m e =
      let (o, i) = once-each j m e in
      let (h, c, at, t, part) = numbered outputs_in m.name.name parts (omega (arith, o)) in
      let (g, d, at', t', part') = numbered inputs_in m.name.name parts (omega (arith, i)) in
      record { a_part = part; b_part = part' }

  -- its two parts are parts of the plug
  pub pairs-within : AllByRecursion (IsWithin (count parts)) (joined_parts links parts)
  pairs-within = go links within-each
    where
      go : (ls : List b.Link) → ((j : ℕ) (m : b.Link) → slice_get ls j ≡ Some m → IsWithin (count parts) (joined_by parts m)) → AllByRecursion (IsWithin (count parts)) (map (joined_by parts) ls)
      go [] f = tt
      go (m ∷ ls) f = (f 0 m refl, go ls (λ j. f (suc j)))

  module _ (some : 1 ≤ count parts) (tree : IsTree (count parts) (joined_parts links parts)) (order : List ℕ) (first : IsBreadthFirst (count parts) (joined_parts links parts) order) where
    module _ (i q : ℕ) (at : slice_get order i ≡ Some q) (h : Header) (c : Body) (is : part_at parts q ≡ Some (h, c)) where
      small : i ≤ length order
      small = let e : i < length order = slice_get_within order i q at in omega (arith, e)

      earlier : Parts
      earlier = picked parts (reverse (take i order))

      -- a link that stands in the part and before it joins it to a part before it
      is-back : (j : ℕ) (m : b.Link) → slice_get links j ≡ Some m → (stands_in h m.name.name && stands_among (picked parts (reverse (take i order))) m.name.name) ≡ true
          → IsLinkBack (joined_parts links parts) order q j
      is-back j m e t =
          let (here, there) = and_parts (stands_in h m.name.name) (stands_among (picked parts (reverse (take i order))) m.name.name) t in
          let (u, p, g, d, less, pos, isp, stands) = stands-before parts order m.name.name i small there in
          let (o, n) = once-each j m e in
          let apart : p ≡ q → ⊥ = (λ s. let z : u ≡ i = first.once u i q (pos ∙ ap Some s) at in omega (arith, z, less)) in
          (joined_by parts m, p, slice_get-map (joined_by parts) links j ∙ ap (option_map (joined_by parts)) e, joins p g d isp stands o n apart here, (u, i, less, pos, at))
        where
          joins : (p : ℕ) (g : Header) (d : Body) → part_at parts p ≡ Some (g, d) → stands_in g m.name.name ≡ true
              → weight (λ z. times m.name.name (outputs_in z)) parts ≡ 1 → weight (λ z. times m.name.name (inputs_in z)) parts ≡ 1 → (p ≡ q → ⊥) → stands_in h m.name.name ≡ true
              → Joins (joined_by parts m) p q
          joins p g d isp stands o n apart here = elim (or-split (is_among m.name.name (names_of h.inputs)) (is_among m.name.name (names_of h.outputs)) here) [
            | inl hi ↦
                let a : q ≡ number_of inputs_in m.name.name parts = one-number inputs_in m.name.name parts (omega (arith, n)) q h c is hi in
                elim (or-split (is_among m.name.name (names_of g.inputs)) (is_among m.name.name (names_of g.outputs)) stands) [
                  | inl gi ↦ absurd (apart (one-number inputs_in m.name.name parts (omega (arith, n)) p g d isp gi ∙ sym a))
                  | inr go ↦ inl (sym (one-number outputs_in m.name.name parts (omega (arith, o)) p g d isp go), sym a)
                ]
            | inr ho ↦
                let a : q ≡ number_of outputs_in m.name.name parts = one-number outputs_in m.name.name parts (omega (arith, o)) q h c is ho in
                elim (or-split (is_among m.name.name (names_of g.inputs)) (is_among m.name.name (names_of g.outputs)) stands) [
                  | inl gi ↦ inr (sym a, sym (one-number inputs_in m.name.name parts (omega (arith, n)) p g d isp gi))
                  | inr go ↦ absurd (apart (one-number outputs_in m.name.name parts (omega (arith, o)) p g d isp go ∙ sym a))
                ]
          ]

      -- and the other way round
      back-is : (j : ℕ) → IsLinkBack (joined_parts links parts) order q j
          → (m : b.Link) × (slice_get links j ≡ Some m) × ((stands_in h m.name.name && stands_among (picked parts (reverse (take i order))) m.name.name) ≡ true)
      back-is j (pair, p, e, joins, (u, v, less, pos, pos')) =
          let (m, f, same) = get-mapped (joined_by parts) links j pair e in
          let z : v ≡ i = first.once v i q pos' at in
          let (o, n) = once-each j m f in
          let (ho, co, ato, to, parto) = numbered outputs_in m.name.name parts (omega (arith, o)) in
          let (hi, ci, ati, ti, parti) = numbered inputs_in m.name.name parts (omega (arith, n)) in (
            m,
            f,
            elim joins [
              | inl w ↦
                  let a : number_of outputs_in m.name.name parts ≡ p = ap (λ (k : Link). k.a) same ∙ w.0 in
                  let d : number_of inputs_in m.name.name parts ≡ q = ap (λ (k : Link). k.b) same ∙ w.1 in
                  let here : hi ≡ h = (same-pair (hi, ci) (h, c) (sym (subst (λ k. part_at parts k ≡ Some (hi, ci)) d ati) ∙ is)).0 in
                  rw (
                    subst (λ k. stands_in k m.name.name ≡ true) here (rw ti refl),
                    before-stands parts order m.name.name i small u p ho co (omega (arith, less, z)) pos (subst (λ k. part_at parts k ≡ Some (ho, co)) a ato) (or-second (is_among m.name.name (names_of ho.inputs)) (is_among m.name.name (names_of ho.outputs)) to),
                  ) refl
              | inr w ↦
                  let a : number_of outputs_in m.name.name parts ≡ q = ap (λ (k : Link). k.a) same ∙ w.0 in
                  let d : number_of inputs_in m.name.name parts ≡ p = ap (λ (k : Link). k.b) same ∙ w.1 in
                  let here : ho ≡ h = (same-pair (ho, co) (h, c) (sym (subst (λ k. part_at parts k ≡ Some (ho, co)) a ato) ∙ is)).0 in
                  rw (
                    subst (λ k. stands_in k m.name.name ≡ true) here (or-second (is_among m.name.name (names_of ho.inputs)) (is_among m.name.name (names_of ho.outputs)) to),
                    before-stands parts order m.name.name i small u p hi ci (omega (arith, less, z)) pos (subst (λ k. part_at parts k ≡ Some (hi, ci)) d ati) (rw ti refl),
                  ) refl
            ],
          )

      -- so exactly one link joins it to those before it
      one-back : 0 < i → HasOneLinkTo (picked parts (reverse (take i order))) h links
      one-back pos =
          let ne : q ≡ 1 → ⊥ = (λ s. let z : i ≡ 0 = first.once i 0 1 (at ∙ ap Some s) (starts-at-one (count parts) (joined_parts links parts) order first pairs-within some) in omega (arith, z, pos)) in
          let (j, back, alone) = has-one-link-back (count parts) (joined_parts links parts) order first pairs-within some tree q (first.parts_alone i q at) ne in
          let (l, e, t) = back-is j back in
          go (picked parts (reverse (take i order))) (l, one-to (picked parts (reverse (take i order))) h links j l e t (λ n m f s. alone n (is-back n m f s)))
        where
          go : (ps : Parts) → (l : b.Link) × (links_to ps h links ≡ l ∷ []) → HasOneLinkTo ps h links
          go no_parts one = tt
          go (part_then g d ps) one = one

    each-back : (i : ℕ) → i ≤ length order → EachHasOneLink links (picked parts (reverse (take i order)))
    each-back zero small = tt
    each-back (suc i) small =
        let (q, at) = get-there order i (omega (arith, small)) in
        let (h, c, is) = there parts q (first.parts_alone i q at) in
        subst (λ z. EachHasOneLink links (picked parts z)) (sym (reverse-more order i q at))
        (rw is (one i q at h c is, each-back i (omega (arith, small))))
      where
        one : (i q : ℕ) → (at : slice_get order i ≡ Some q) → (h : Header) (c : Body) → (is : part_at parts q ≡ Some (h, c)) → HasOneLinkTo (picked parts (reverse (take i order))) h links
        one zero q at h c is = tt
        one (suc i) q at h c is = one-back (suc i) q at h c is (omega arith)

    pub each-has-one : EachHasOneLink links (picked parts (reverse order))
    each-has-one = subst (λ z. EachHasOneLink links (picked parts (reverse z))) (take_all (length order) order (omega arith)) (each-back (length order) (omega arith))
