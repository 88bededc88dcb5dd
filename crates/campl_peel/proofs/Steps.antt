-- The laws over plugs and their peeling.
use Rattle.std.proofs.Common.{◌≡◌, ◌∙◌, inl, inr, refl, sym, ap, subst, ℕ, ◌+◌, ◌≤◌, arith, true, false, List, [], ◌∷◌, ◌++◌, Option, Some, None, reverse}
use Rattle.std.specs.Prelude.{All}
use Rattle.std.specs.List.{slice_get}
use Rattle.std.proofs.lemmas.List.{reverse-append}
use Rattle.std.proofs.lemmas.List.Elements.{All-from_recursion}
use Rattle.campl_plug.specs.Links.{IsWithin}
use Rattle.campl_plug.specs.Order.{IsBreadthFirst}
use Rattle.campl_plug.proofs.Peeled.{starts-at-one}
use Rattle.campl_tree.specs.declared.place.Place.{Place}
use Rattle.campl_tree.specs.declared.service.Side.TheVariants.{Input, Output}
use Rattle.campl_tree.specs.Side.{opposite}
use Rattle.campl_tree.specs.Plain.ChanType.{ChanType}
use Rattle.campl_tree.specs.Plain.Process as b
use Rattle.campl_tree.specs.Plain.Process.{Body, Header, Parts, no_parts, part_then}
use Rattle.campl_types.specs.Names.{Name, same_name, is_among}
use Rattle.campl_types.specs.World.{World, names_of}
use Rattle.campl_types.specs.Fits.{Vars}
use Rattle.campl_types.specs.Held.{Held}
use Rattle.campl_types.specs.Headers.{links_in, link_names, times, times_in, times_out, IsUsed, Divide, count}
use Rattle.campl_types.specs.Linear.{IsWellFormed, PlugIsWellFormed}
use Rattle.campl_types.proofs.Names.{same-turned}
use Rattle.campl_plug.specs.TreeOrder.{tree_order_of}
use Rattle.campl_peel.specs.Numbered.{part_at, add_part, picked, joined_parts, outputs_in, inputs_in, PlugIsTree, last_first}
use Rattle.campl_peel.specs.Plugging.{stands_in, stands_among, links_to, side_in, without_link, held_by_rest, PluggingIsWellFormed}
use Rattle.campl_peel.specs.Peel.{Peel, peel_by, peel_of, side_among, first_part, PeelKeepsTyping}
use Rattle.campl_types.proofs.Truth.{split, no-both, or-split}
use Rattle.campl_types.proofs.Times.{among-some, among-none, once}
use Rattle.campl_peel.proofs.Standing.{stands-some, parts-none}
use Rattle.campl_peel.proofs.Peeling.{link-uses, child-is-well-formed, rest-is-plug, last-is-well-formed}
use Rattle.campl_peel.proofs.LinksLeft.{first-link, each-link, links-but, distinct-kept, one-link-kept}
use Rattle.campl_peel.proofs.Numbers.{weight, weight-out, weight-in, weight-count, weight-all, there, names-picked, fine-picked}
use Rattle.campl_peel.proofs.Plugged.{pairs-within, each-has-one}
use Rattle.campl_plug.proofs.Ordered.{order-is-breadth-first}

-- A plug of which nothing is peeled

pub links-join-parts : (links : List b.Link) (held : Held) (parts : Parts) → Divide (links_in links) held parts → All (IsWithin (count parts)) (joined_parts links parts)
links-join-parts links held parts divide = All-from_recursion (IsWithin (count parts)) (joined_parts links parts) (pairs-within links held parts divide)

module _ (w : World) (vs : Vars) (held : Held) (at : Place) (links : List b.Link) (parts : Parts) (well : IsWellFormed w vs held (b.Plug at links parts)) where
  some-parts : 1 ≤ count parts
  some-parts = let low : 2 ≤ count parts = well.0.0 in omega (arith, low)

  -- each part is there once
  pub count-kept : PlugIsTree links parts → count (last_first links parts) ≡ count parts
  count-kept tree =
      let order : List ℕ = tree_order_of (count parts) (joined_parts links parts) in
      let first : IsBreadthFirst (count parts) (joined_parts links parts) order = order-is-breadth-first (count parts) (joined_parts links parts) (pairs-within links held parts well.2) some-parts tree.reached in
      weight-count (last_first links parts) ∙ weight-all (λ h. 1) parts order first.parts_alone first.once first.each_part ∙ sym (weight-count parts)

  -- in whatever breadth-first order
  plugged-in : PlugIsTree links parts → (order : List ℕ) → IsBreadthFirst (count parts) (joined_parts links parts) order → PluggingIsWellFormed w vs held links (picked parts (reverse order))
  plugged-in tree order first = record {
    some = let e : count (picked parts (reverse order)) ≡ count parts = weight-count (picked parts (reverse order)) ∙ all (λ h. 1) ∙ sym (weight-count parts) in omega (arith, e, some-parts);
    distinct = well.1;
    plug = (
      (
        λ x. subst (λ n. IsUsed (links_in links x) (held x) n (times_in x (picked parts (reverse order)))) (sym (out x)) (subst (λ n. IsUsed (links_in links x) (held x) (times_out x parts) n) (sym (in_ x)) (well.2.0 x)),
        names-picked parts well.2.1 (reverse order),
      ),
      fine-picked w vs (links_in links) held parts well.3 (reverse order),
    );
    one_link = each-has-one links held parts well.2 some-parts tree order first;
  }
    where
      all : (f : Header → ℕ) → weight f (picked parts (reverse order)) ≡ weight f parts
      all f = weight-all f parts order first.parts_alone first.once first.each_part

      out : (x : Name) → times_out x (picked parts (reverse order)) ≡ times_out x parts
      out x = weight-out x (picked parts (reverse order)) ∙ all (λ h. times x (outputs_in h)) ∙ sym (weight-out x parts)

      in_ : (x : Name) → times_in x (picked parts (reverse order)) ≡ times_in x parts
      in_ x = weight-in x (picked parts (reverse order)) ∙ all (λ h. times x (inputs_in h)) ∙ sym (weight-in x parts)

  pub plug-begins : PlugIsTree links parts → PluggingIsWellFormed w vs held links (last_first links parts)
  plug-begins tree =
      plugged-in tree (tree_order_of (count parts) (joined_parts links parts))
      (order-is-breadth-first (count parts) (joined_parts links parts) (pairs-within links held parts well.2) some-parts tree.reached)

  -- the part that is left in the end is part 1
  pub begins-with-first : PlugIsTree links parts → first_part (last_first links parts) ≡ part_at parts 1
  begins-with-first tree =
      let order : List ℕ = tree_order_of (count parts) (joined_parts links parts) in
      let first : IsBreadthFirst (count parts) (joined_parts links parts) order = order-is-breadth-first (count parts) (joined_parts links parts) (pairs-within links held parts well.2) some-parts tree.reached in
      let (h, c, e) = there parts 1 (record { low = omega arith; high = some-parts }) in
      go order (starts-at-one (count parts) (joined_parts links parts) order first (pairs-within links held parts well.2) some-parts) h c e
    where
      on_top : (o : Option (Header × Body)) (p : Header × Body) (ps : Parts) → first_part ps ≡ Some p → first_part (add_part o ps) ≡ Some p
      on_top None p ps e = e
      on_top (Some o) p no_parts e = absurd (let no : ⊥ = cc in no)
      on_top (Some o) p (part_then h c ps) e = e

      under : (ps : List ℕ) (p : Header × Body) → part_at parts 1 ≡ Some p → first_part (picked parts (ps ++ 1 ∷ [])) ≡ Some p
      under [] p e = rw e refl
      under (q ∷ ps) p e = on_top (part_at parts q) p (picked parts (ps ++ 1 ∷ [])) (under ps p e)

      go : (order : List ℕ) → slice_get order 0 ≡ Some 1 → (h : Header) (c : Body) → part_at parts 1 ≡ Some (h, c) → first_part (picked parts (reverse order)) ≡ part_at parts 1
      go [] s h c e = absurd (let no : ⊥ = cc in no)
      go (q ∷ order) s h c e =
          let is : q ≡ 1 = cc in
          ap (λ z. first_part (picked parts z)) (reverse-append (q ∷ []) order)
          ∙ (subst (λ z. first_part (picked parts (reverse order ++ z ∷ [])) ≡ Some (h, c)) (sym is) (under (reverse order) (h, c) e) ∙ sym e)

-- One step

-- parts that have a name on one side only have it on that side
side-input : (x : Name) (parts : Parts) → times_out x parts ≡ 0 → side_among parts x ≡ Input
side-input x no_parts e = refl
side-input x (part_then h body parts) e = elim (split (stands_in h x)) [
  | inr out ↦ rw out (side-input x parts (omega (arith, e)))
  | inl t ↦ rw t (elim (split (is_among x (names_of h.outputs))) [
    | inl o ↦ absurd (let a : 1 ≤ times x h.outputs = among-some x h.outputs o in omega (arith, a, e))
    | inr o ↦ rw o refl
  ])
]

side-output : (x : Name) (parts : Parts) → times_in x parts ≡ 0 → stands_among parts x ≡ true → side_among parts x ≡ Output
side-output x no_parts e t = absurd (no-both false t refl)
side-output x (part_then h body parts) e t = elim (or-split (stands_in h x) (stands_among parts x) t) [
  | inl s ↦ rw s (elim (or-split (is_among x (names_of h.inputs)) (is_among x (names_of h.outputs)) s) [
    | inl i ↦ absurd (let a : 1 ≤ times x h.inputs = among-some x h.inputs i in omega (arith, a, e))
    | inr o ↦ rw o refl
  ])
  | inr s ↦ elim (split (stands_in h x)) [
    | inr out ↦ rw out (side-output x parts (omega (arith, e)) s)
    | inl u ↦ rw u (elim (or-split (is_among x (names_of h.inputs)) (is_among x (names_of h.outputs)) u) [
      | inl i ↦ absurd (let a : 1 ≤ times x h.inputs = among-some x h.inputs i in omega (arith, a, e))
      | inr o ↦ rw o refl
    ])
  ]
]

module _ (w : World) (vs : Vars) (held : Held) (links : List b.Link) (h : Header) (body : Body) (g : Header) (c : Body) (more : Parts)
    (well : PluggingIsWellFormed w vs held links (part_then h body (part_then g c more)))
    (l : b.Link) (one : links_to (part_then g c more) h links ≡ l ∷ []) where
  pub found : (links_in links l.name.name ≡ Some l.channel_type) × (stands_in h l.name.name ≡ true) × (stands_among (part_then g c more) l.name.name ≡ true)
  found = first-link (part_then g c more) h links l [] one

  pub uses-of : (y : Name) (u : ChanType) → links_in links y ≡ Some u
      → (held y ≡ None) × (times y h.outputs + times_out y (part_then g c more) ≡ 1) × (times y h.inputs + times_in y (part_then g c more) ≡ 1)
  uses-of y u e = link-uses u (held y) _ _ (subst (λ o. IsUsed o (held y) (times y h.outputs + times_out y (part_then g c more)) (times y h.inputs + times_in y (part_then g c more))) e (well.plug.0.0 y))

  pub few : (y : Name) → times y h.inputs + times y h.outputs ≤ 1
  few y = once y h.inputs h.outputs well.plug.0.1.0

  -- the part has no other link
  pub alone : (y : Name) (u : ChanType) → same_name l.name.name y ≡ false → links_in links y ≡ Some u → stands_in h y ≡ false
  alone y u off e = elim (split (stands_in h y)) [
    | inr out ↦ out
    | inl here ↦ absurd (elim (split (stands_among (part_then g c more) y)) [
      | inl t ↦ elim (or-split (same_name y l.name.name) false (subst (λ z. is_among y (link_names z) ≡ true) one (each-link (part_then g c more) h links y u e (rw (here, t) refl)))) [
        | inl s ↦ no-both (same_name l.name.name y) (same-turned l.name.name y ∙ s) off
        | inr s ↦ no-both false s refl
      ]
      | inr t ↦
          let (a, b) = parts-none y (part_then g c more) t in
          let (new, o, i) = uses-of y u e in
          let f : times y h.inputs + times y h.outputs ≤ 1 = few y in
          absurd (omega (arith, a, b, o, i, f))
    ])
  ]

  pub in-one : 1 ≤ times l.name.name h.inputs + times l.name.name h.outputs
  in-one = stands-some l.name.name h found.1

  sides-of : side_among (part_then g c more) l.name.name ≡ opposite (side_in h l.name.name)
  sides-of =
      let (new, o, i) = uses-of l.name.name l.channel_type found.0 in
      elim (split (is_among l.name.name (names_of h.outputs))) [
        | inl t ↦ rw t (side-input l.name.name (part_then g c more) (let a : 1 ≤ times l.name.name h.outputs = among-some l.name.name h.outputs t in omega (arith, a, o)))
        | inr t ↦ rw t (side-output l.name.name (part_then g c more) (let a : times l.name.name h.outputs ≡ 0 = among-none l.name.name h.outputs t in omega (arith, a, i, in-one)) found.2)
      ]

  pub keeps : PeelKeepsTyping w vs held (record { header = h; body = body; link = l; links = without_link l.name.name links; parts = part_then g c more })
  keeps = record {
    new = (uses-of l.name.name l.channel_type found.0).0;
    sides = sides-of;
    child = child-is-well-formed w vs (links_in links) held h body (part_then g c more) l well.plug found.0 found.1 alone;
    rest = record {
      some = omega arith;
      distinct = distinct-kept l.name.name links well.distinct;
      plug = subst (λ k. PlugIsWellFormed w vs k (held_by_rest h l held) (part_then g c more)) (sym (links-but l.name.name links))
          (rest-is-plug w vs (links_in links) held h body (part_then g c more) l well.plug found.0 found.1 alone);
      one_link = one-link-kept l.name.name links (part_then g c more)
          (let (new, o, i) = uses-of l.name.name l.channel_type found.0 in omega (arith, o, i, in-one)) well.one_link.1;
    };
  }

pub peeling-keeps-typing : (w : World) (vs : Vars) (held : Held) (links : List b.Link) (parts : Parts) → PluggingIsWellFormed w vs held links parts → 2 ≤ count parts
    → (p : Peel) × (peel_of links parts ≡ Some p) × PeelKeepsTyping w vs held p
peeling-keeps-typing w vs held links no_parts well two = absurd (omega (arith, two))
peeling-keeps-typing w vs held links (part_then h body no_parts) well two = absurd (omega (arith, two))
peeling-keeps-typing w vs held links (part_then h body (part_then g c more)) well two =
    let (l, one) = well.one_link.0 in
    (record { header = h; body = body; link = l; links = without_link l.name.name links; parts = part_then g c more }, rw one refl, keeps w vs held links h body g c more well l one)

-- the last part that is left
pub last-part : (w : World) (vs : Vars) (held : Held) (links : List b.Link) (h : Header) (body : Body) → PluggingIsWellFormed w vs held links (part_then h body no_parts)
    → IsWellFormed w vs held body
last-part w vs held links h body well = last-is-well-formed w vs (links_in links) held h body well.plug

-- a peel takes the last part away
pub peel-takes-last : (links : List b.Link) (parts : Parts) (p : Peel) → peel_of links parts ≡ Some p
    → (parts ≡ part_then p.header p.body p.parts) × (first_part p.parts ≡ first_part parts)
peel-takes-last links no_parts p e = absurd (let no : ⊥ = cc in no)
peel-takes-last links (part_then h body no_parts) p e = absurd (let no : ⊥ = cc in no)
peel-takes-last links (part_then h body (part_then g c more)) p e = go (links_to (part_then g c more) h links) e
  where
    go : (ls : List b.Link) → peel_by h body links (part_then g c more) ls ≡ Some p
        → (part_then h body (part_then g c more) ≡ part_then p.header p.body p.parts) × (first_part p.parts ≡ first_part (part_then g c more))
    go [] i = absurd (let no : ⊥ = cc in no)
    go (l ∷ ls) i =
        let q : Peel = record { header = h; body = body; link = l; links = without_link l.name.name links; parts = part_then g c more } in
        let s : q ≡ p = cc in
        subst (λ (z : Peel). (part_then h body (part_then g c more) ≡ part_then z.header z.body z.parts) × (first_part z.parts ≡ first_part (part_then g c more))) s (refl, refl)
