-- The parts that are left, with the links that are left, form a tree.
use Rattle.std.proofs.Common.{◌≡◌, ◌∙◌, ◌⊎◌, inl, inr, refl, sym, ap, subst, ℕ, zero, suc, ◌+◌, ◌≤◌, arith, Bool, true, false, not, ◌&&◌, List, [], ◌∷◌, Some, length}
use Rattle.std.proofs.lemmas.List.{length-map}
use Rattle.std.specs.List.{slice_get}
use Rattle.std.proofs.lemmas.Bool.{and_parts}
use Rattle.campl_plug.specs.Links.{IsPart, Joins, Linked, Path, Joined}
use Rattle.campl_plug.specs.Tree.{IsTree}
use Rattle.campl_plug.proofs.Paths.{linked-parts, joined-here, joined-more, joined-one, joined-on, joined-turned}
use Rattle.campl_tree.specs.Plain.ChanType.{ChanType}
use Rattle.campl_tree.specs.Plain.Process as b
use Rattle.campl_tree.specs.Plain.Process.{Body, Header, Parts, no_parts, part_then}
use Rattle.campl_types.specs.Names.{Name, same_name, is_among, are_distinct}
use Rattle.campl_types.specs.World.{World, names_of}
use Rattle.campl_types.specs.Fits.{Vars}
use Rattle.campl_types.specs.Held.{Held}
use Rattle.campl_types.specs.Headers.{links_in, link_names, times, times_in, times_out, IsUsed, count}
use Rattle.campl_types.proofs.Names.{same-is}
use Rattle.campl_peel.specs.Numbered.{one_up, number_of, outputs_in, inputs_in, joined_by, joined_parts, PlugIsTree}
use Rattle.campl_peel.specs.Plugging.{stands_in, stands_among, links_to, without_link, held_by_rest, PluggingIsWellFormed}
use Rattle.campl_types.proofs.Truth.{split, no-both, or-none, not-true}
use Rattle.campl_types.proofs.Times.{among-some, among-none, once}
use Rattle.campl_peel.proofs.Peeling.{link-uses}
use Rattle.campl_peel.proofs.Numbers.{weight-out, weight-in, numbered}
use Rattle.campl_peel.proofs.Plugged.{found-there, pairs-within}
use Rattle.campl_peel.proofs.Steps.{found, uses-of, few, alone, keeps}

up-suc : (n : ℕ) → 1 ≤ n → one_up n ≡ suc n
up-suc zero h = absurd (omega (arith, h))
up-suc (suc n) h = refl

-- One link fewer

same-without : (x : Name) (links : List b.Link) → is_among x (link_names links) ≡ false → without_link x links ≡ links
same-without x [] i = refl
same-without x (m ∷ links) i = let (a, c) = or-none (same_name x m.name.name) (is_among x (link_names links)) i in rw a (ap (λ ls. m ∷ ls) (same-without x links c))

one-fewer : (x : Name) (links : List b.Link) → are_distinct (link_names links) ≡ true → (u : ChanType) → links_in links x ≡ Some u → suc (length (without_link x links)) ≡ length links
one-fewer x [] i u e = absurd (let no : ⊥ = cc in no)
one-fewer x (m ∷ links) i u e =
    let (a, c) = and_parts (not (is_among m.name.name (link_names links))) (are_distinct (link_names links)) i in
    elim (split (same_name x m.name.name)) [
      | inl s ↦
          let free : is_among x (link_names links) ≡ false = subst (λ z. is_among z (link_names links) ≡ false) (sym (same-is x m.name.name s)) (not-true (is_among m.name.name (link_names links)) a) in
          rw s (ap (λ ls. suc (length ls)) (same-without x links free))
      | inr s ↦ rw s (let r : suc (length (without_link x links)) ≡ length links = one-fewer x links c u (rw s at e) in omega (arith, r))
    ]

-- the link that joins them is there
link-at : (parts : Parts) (h : Header) (links : List b.Link) (l : b.Link) (more : List b.Link) → links_to parts h links ≡ l ∷ more → (j : ℕ) × (slice_get links j ≡ Some l)
link-at parts h [] l more e = absurd (let no : ⊥ = cc in no)
link-at parts h (m ∷ links) l more e = elim (split (stands_in h m.name.name && stands_among parts m.name.name)) [
  | inl t ↦
      let f : m ∷ links_to parts h links ≡ l ∷ more = rw t at e in
      let s : m ≡ l = cc in
      (0, ap Some s)
  | inr t ↦
      let f : links_to parts h links ≡ l ∷ more = rw t at e in
      let (j, g) = link-at parts h links l more f in
      (suc j, g)
]

-- Numbers rise by one where a part is put in front

module _ (h : Header) (body : Body) (rest : Parts) (x : Name) (p q : ℕ) (low : 1 ≤ p) (low' : 1 ≤ q) where
  moved : (m : b.Link) → stands_in h m.name.name ≡ false → Joins (joined_by rest m) p q → Joins (joined_by (part_then h body rest) m) (suc p) (suc q)
  moved m i j =
      let (a, c) = or-none (is_among m.name.name (names_of h.inputs)) (is_among m.name.name (names_of h.outputs)) i in
      rw (a, c) (elim j [
        | inl k ↦ inl (ap one_up k.0 ∙ up-suc p low, ap one_up k.1 ∙ up-suc q low')
        | inr k ↦ inr (ap one_up k.0 ∙ up-suc q low', ap one_up k.1 ∙ up-suc p low)
      ])

  shifted : (links : List b.Link) → ((j : ℕ) (m : b.Link) → slice_get links j ≡ Some m → same_name x m.name.name ≡ false → stands_in h m.name.name ≡ false)
      → Linked (joined_parts (without_link x links) rest) p q → Linked (joined_parts links (part_then h body rest)) (suc p) (suc q)
  shifted [] f k = absurd k
  shifted (m ∷ links) f k = elim (split (same_name x m.name.name)) [
    | inl s ↦ inr (shifted links (λ j. f (suc j)) (rw s at k))
    | inr s ↦
        let t : Joins (joined_by rest m) p q ⊎ Linked (joined_parts (without_link x links) rest) p q = rw s at k in
        elim t [
          | inl j ↦ inl (moved m (f 0 m refl s) j)
          | inr j ↦ inr (shifted links (λ j. f (suc j)) j)
        ]
  ]

module _ (w : World) (vs : Vars) where
  -- one part has no link
  no-links : (held : Held) (links : List b.Link) (h : Header) (body : Body) → PluggingIsWellFormed w vs held links (part_then h body no_parts) → links ≡ []
  no-links held [] h body well = refl
  no-links held (m ∷ links) h body well =
      let (u, e) = found-there (m ∷ links) 0 m refl in
      let (new, o, i) = link-uses u (held m.name.name) _ _ (subst (λ z. IsUsed z (held m.name.name) (times m.name.name h.outputs + 0) (times m.name.name h.inputs + 0)) e (well.plug.0.0 m.name.name)) in
      absurd (let f : times m.name.name h.inputs + times m.name.name h.outputs ≤ 1 = once m.name.name h.inputs h.outputs well.plug.0.1.0 in omega (arith, o, i, f))

  module _ (held : Held) (links : List b.Link) (h : Header) (body : Body) (g : Header) (c : Body) (more : Parts)
      (well : PluggingIsWellFormed w vs held links (part_then h body (part_then g c more)))
      (l : b.Link) (one : links_to (part_then g c more) h links ≡ l ∷ [])
      (tree : IsTree (count (part_then g c more)) (joined_parts (without_link l.name.name links) (part_then g c more))) where
    apart : (j : ℕ) (m : b.Link) → slice_get links j ≡ Some m → same_name l.name.name m.name.name ≡ false → stands_in h m.name.name ≡ false
    apart j m e off = let (u, f) = found-there links j m e in alone w vs held links h body g c more well l one m.name.name u off f

    -- the link joins the last part to one of the others
    joint : (q : ℕ) × IsPart (count (part_then g c more)) q × Linked (joined_parts links (part_then h body (part_then g c more))) 1 (suc q)
    joint =
        let (in_links, stands, among) = found w vs held links h body g c more well l one in
        let (new, o, i) = uses-of w vs held links h body g c more well l one l.name.name l.channel_type in_links in
        let (j, at) = link-at (part_then g c more) h links l [] one in
        let most : times l.name.name h.inputs + times l.name.name h.outputs ≤ 1 = few w vs held links h body g c more well l one l.name.name in
        go j at o i most stands (is_among l.name.name (names_of h.outputs)) (is_among l.name.name (names_of h.inputs)) refl refl
      where
        spot : (j : ℕ) → slice_get links j ≡ Some l → (q : ℕ) → Joins (joined_by (part_then h body (part_then g c more)) l) 1 (suc q) → Linked (joined_parts links (part_then h body (part_then g c more))) 1 (suc q)
        spot j at q = there links j at
          where
            there : (ls : List b.Link) (j : ℕ) → slice_get ls j ≡ Some l → Joins (joined_by (part_then h body (part_then g c more)) l) 1 (suc q) → Linked (joined_parts ls (part_then h body (part_then g c more))) 1 (suc q)
            there [] j e k = absurd (let no : ⊥ = cc in no)
            there (m ∷ ls) zero e k = let s : m ≡ l = cc in inl (subst (λ z. Joins (joined_by (part_then h body (part_then g c more)) z) 1 (suc q)) (sym s) k)
            there (m ∷ ls) (suc j) e k = inr (there ls j e k)

        go : (j : ℕ) → slice_get links j ≡ Some l
            → times l.name.name h.outputs + times_out l.name.name (part_then g c more) ≡ 1 → times l.name.name h.inputs + times_in l.name.name (part_then g c more) ≡ 1
            → times l.name.name h.inputs + times l.name.name h.outputs ≤ 1 → stands_in h l.name.name ≡ true
            → (a d : Bool) → is_among l.name.name (names_of h.outputs) ≡ a → is_among l.name.name (names_of h.inputs) ≡ d
            → (q : ℕ) × IsPart (count (part_then g c more)) q × Linked (joined_parts links (part_then h body (part_then g c more))) 1 (suc q)
        go j at o i most stands true true ea ed = absurd (
            let s : 1 ≤ times l.name.name h.outputs = among-some l.name.name h.outputs ea in
            let t : 1 ≤ times l.name.name h.inputs = among-some l.name.name h.inputs ed in
            omega (arith, s, t, most))
        go j at o i most stands true false ea ed =
            let t : times l.name.name h.inputs ≡ 0 = among-none l.name.name h.inputs ed in
            let (k, d, e, s, part) = numbered inputs_in l.name.name (part_then g c more) (let v : times_in l.name.name (part_then g c more) ≡ _ = weight-in l.name.name (part_then g c more) in omega (arith, i, t, v)) in
            (number_of inputs_in l.name.name (part_then g c more), part, spot j at _ (rw (ea, ed) (inl (refl, up-suc _ part.low))))
        go j at o i most stands false true ea ed =
            let t : times l.name.name h.outputs ≡ 0 = among-none l.name.name h.outputs ea in
            let (k, d, e, s, part) = numbered outputs_in l.name.name (part_then g c more) (let v : times_out l.name.name (part_then g c more) ≡ _ = weight-out l.name.name (part_then g c more) in omega (arith, o, t, v)) in
            (number_of outputs_in l.name.name (part_then g c more), part, spot j at _ (rw (ea, ed) (inr (up-suc _ part.low, refl))))
        go j at o i most stands false false ea ed = absurd (no-both (stands_in h l.name.name) stands (rw (ea, ed) refl))

    rest-well : PluggingIsWellFormed w vs (held_by_rest h l held) (without_link l.name.name links) (part_then g c more)
    rest-well = (keeps w vs held links h body g c more well l one).rest

    -- what is joined among the others is joined
    lifted : (n p q : ℕ) → Path (joined_parts (without_link l.name.name links) (part_then g c more)) n p q
        → Joined (joined_parts links (part_then h body (part_then g c more))) (suc p) (suc q)
    lifted zero p q e = (0, ap suc e)
    lifted (suc n) p q (r, path, last) =
        let (a, d) = linked-parts (count (part_then g c more)) (joined_parts (without_link l.name.name links) (part_then g c more))
        (pairs-within (without_link l.name.name links) (held_by_rest h l held) (part_then g c more) rest-well.plug.0) r q last in
        joined-more (joined_parts links (part_then h body (part_then g c more))) (suc p) (suc r) (suc q) (lifted n p r path)
        (shifted h body (part_then g c more) l.name.name r q a.low d.low links apart last)

    more-tree : IsTree (count (part_then h body (part_then g c more))) (joined_parts links (part_then h body (part_then g c more)))
    more-tree = record {
      count =
          let (in_links, stands, among) = found w vs held links h body g c more well l one in
          let a : suc (length (without_link l.name.name links)) ≡ length links = one-fewer l.name.name links well.distinct l.channel_type in_links in
          let d : length (joined_parts links (part_then h body (part_then g c more))) ≡ length links = length-map links (joined_by (part_then h body (part_then g c more))) in
          let e : length (joined_parts (without_link l.name.name links) (part_then g c more)) ≡ length (without_link l.name.name links) = length-map (without_link l.name.name links) (joined_by (part_then g c more)) in
          omega (arith, a, d, e, tree.count);
      reached = λ p part. go p part;
    }
      where
        go : (p : ℕ) → IsPart (count (part_then h body (part_then g c more))) p → Joined (joined_parts links (part_then h body (part_then g c more))) 1 p
        go zero part = absurd (let low : 1 ≤ 0 = part.low in omega (arith, low))
        go (suc zero) part = joined-here (joined_parts links (part_then h body (part_then g c more))) 1
        go (suc (suc p)) part =
            let (q, is, link) = joint in
            let (n, to-q) = tree.reached q is in
            let (m, to-p) = tree.reached (suc p) (record { low = omega arith; high = let high : suc (suc p) ≤ 1 + (1 + count more) = part.high in omega (arith, high) }) in
            joined-on (joined_parts links (part_then h body (part_then g c more))) 1 2 (suc (suc p))
            (joined-on (joined_parts links (part_then h body (part_then g c more))) 1 (suc q) 2
            (joined-one (joined_parts links (part_then h body (part_then g c more))) 1 (suc q) link)
            (joined-turned (joined_parts links (part_then h body (part_then g c more))) 2 (suc q) (lifted n 1 q to-q)))
            (lifted m 1 (suc p) to-p)

  pub left-is-tree : (parts : Parts) (held : Held) (links : List b.Link) → PluggingIsWellFormed w vs held links parts → PlugIsTree links parts
  left-is-tree no_parts held links well = absurd (let some : 1 ≤ 0 = well.some in omega (arith, some))
  left-is-tree (part_then h body no_parts) held links well = rw (no-links held links h body well) (record {
    count = refl;
    reached = λ p part. (0, (let low : 1 ≤ p = part.low in let high : p ≤ 1 = part.high in omega (arith, low, high)));
  })
  left-is-tree (part_then h body (part_then g c more)) held links well =
      let (l, one) = well.one_link.0 in
      more-tree held links h body g c more well l one
      (left-is-tree (part_then g c more) (held_by_rest h l held) (without_link l.name.name links) (keeps w vs held links h body g c more well l one).rest)
