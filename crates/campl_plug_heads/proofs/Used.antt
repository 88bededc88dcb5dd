-- Links that are used twice, and held channels that are used.
use Rattle.std.proofs.Common.{◌≡◌, ◌∙◌, inl, inr, refl, sym, ap, ℕ, ◌+◌, ◌≤◌, arith, nat_le, Bool, true, false, not, ◌||◌, ◌&&◌, if◌then◌else◌, List, [], ◌∷◌, ◌++◌, true≢false}
use Rattle.std.proofs.lemmas.Bool.{le-leb, leb-true}
use Rattle.campl_tree.specs.declared.place.Place.{Place}
use Rattle.campl_tree.specs.declared.place.Ident.{Ident}
use Rattle.campl_tree.specs.Plain.Process.{Link, Header, Parts, no_parts, part_then}
use Rattle.campl_types.specs.Names.{Name, is_among}
use Rattle.campl_types.specs.World.{names_of}
use Rattle.campl_types.specs.Headers.{Links, times, times_in, times_out}
use Rattle.campl_types.proofs.Names.{among-append}
use Rattle.campl_types.proofs.Times.{among-some, among-none}
use Rattle.campl_types.proofs.Truth.{or-split, or-none}
use Rattle.campl_peel.specs.Numbered.{inputs_in, outputs_in}
use Rattle.campl_names.specs.NameSet.{HaveSame}
use Rattle.campl_names.specs.Scope.{with_names}
use Rattle.campl_seqcheck.specs.Judged.{fine, Is, Fails, and_then}
use Rattle.campl_linear.specs.Faults.{PlugUse, LeftOver}
use Rattle.campl_linear.specs.Holding.{Holding, those}
use Rattle.campl_linear.specs.Channels.{none_left}
use Rattle.campl_linear.specs.Plugs.{uses, links_are_used, all_are_used}
use Rattle.campl_linear.proofs.Standing.{on, on-in, on-out}
use Rattle.campl_linear.proofs.Headers.{Stand}
use Rattle.campl_plug_heads.specs.Heads.{Numbered, names_in, marked, numbered, all_names, links_join}
use Rattle.campl_plug_heads.proofs.Names.{names-marked, names-append, same-set}

-- a test that is the same as another
le-is : (m n : ℕ) (c : Bool) → (c ≡ true → m ≤ n) → (c ≡ false → m ≤ n → ⊥) → nat_le m n ≡ c
le-is m n true f g = le-leb m n (f refl)
le-is m n false f g = go (nat_le m n) refl
  where
    go : (b : Bool) → nat_le m n ≡ b → b ≡ false
    go true e = absurd (g refl (leb-true m n e))
    go false e = refl

-- A name in the list of one side stands on that side

module _ (side : Header → List Ident) (x : Name) where
  first-or : (n : ℕ) (h : Header) (es : Numbered) → is_among x (names_in (marked n (side h) ++ es)) ≡ (is_among x (names_of (side h)) || is_among x (names_in es))
  first-or n h es =
      ap (is_among x) (names-append (marked n (side h)) es ∙ ap (λ z. z ++ names_in es) (names-marked n (side h)))
      ∙ among-append x (names_of (side h)) (names_in es)

  stands-some : (n : ℕ) (parts : Parts) → is_among x (names_in (numbered side n parts)) ≡ true → 1 ≤ on side x parts
  stands-some n no_parts i = absurd (true≢false (sym i))
  stands-some n (part_then h body parts) i = elim (or-split (is_among x (names_of (side h))) (is_among x (names_in (numbered side (n + 1) parts))) (sym (first-or n h (numbered side (n + 1) parts)) ∙ i)) [
    | inl j ↦ let k : 1 ≤ times x (side h) = among-some x (side h) j in omega (arith, k)
    | inr j ↦ let k : 1 ≤ on side x parts = stands-some (n + 1) parts j in omega (arith, k)
  ]

  stands-none : (n : ℕ) (parts : Parts) → is_among x (names_in (numbered side n parts)) ≡ false → on side x parts ≡ 0
  stands-none n no_parts i = refl
  stands-none n (part_then h body parts) i =
      let j = or-none (is_among x (names_of (side h))) (is_among x (names_in (numbered side (n + 1) parts))) (sym (first-or n h (numbered side (n + 1) parts)) ∙ i) in
      let k : times x (side h) ≡ 0 = among-none x (side h) j.0 in
      let l : on side x parts ≡ 0 = stands-none (n + 1) parts j.1 in
      omega (arith, k, l)

-- Links

module _ (links : Links) (held : Holding) (parts : Parts) (stand : Stand links held [] [] parts) where
  twice-is : (x : Name) → nat_le 2 (uses x parts) ≡ (is_among x (names_in (numbered inputs_in 1 parts)) && is_among x (names_in (numbered outputs_in 1 parts)))
  twice-is x = le-is 2 (uses x parts) _ (go (is_among x (names_in (numbered inputs_in 1 parts))) refl (is_among x (names_in (numbered outputs_in 1 parts))) refl).0 (go (is_among x (names_in (numbered inputs_in 1 parts))) refl (is_among x (names_in (numbered outputs_in 1 parts))) refl).1
    where
      ins : times_in x parts ≡ on inputs_in x parts
      ins = on-in x parts

      outs : times_out x parts ≡ on outputs_in x parts
      outs = on-out x parts

      ins-most : on inputs_in x parts ≤ 1
      ins-most = stand.on_inputs.most x

      outs-most : on outputs_in x parts ≤ 1
      outs-most = stand.on_outputs.most x

      go : (a : Bool) → is_among x (names_in (numbered inputs_in 1 parts)) ≡ a → (b : Bool) → is_among x (names_in (numbered outputs_in 1 parts)) ≡ b
          → ((a && b) ≡ true → 2 ≤ times_in x parts + times_out x parts) × ((a && b) ≡ false → 2 ≤ times_in x parts + times_out x parts → ⊥)
      go true i true j = (
        (λ k.
            let m : 1 ≤ on inputs_in x parts = stands-some inputs_in x 1 parts i in
            let n : 1 ≤ on outputs_in x parts = stands-some outputs_in x 1 parts j in
            omega (arith, ins, outs, m, n)),
        (λ k. absurd (true≢false k)),
      )
      go true i false j = ((λ k. absurd (true≢false (sym k))), (λ k l. let n : on outputs_in x parts ≡ 0 = stands-none outputs_in x 1 parts j in omega (arith, ins, outs, ins-most, n, l)))
      go false i b j = ((λ k. absurd (true≢false (sym k))), (λ k l. let n : on inputs_in x parts ≡ 0 = stands-none inputs_in x 1 parts i in omega (arith, ins, outs, outs-most, n, l)))

  pub links-join : (ls : List Link) → links_are_used ls parts ≡ links_join (numbered inputs_in 1 parts) (numbered outputs_in 1 parts) ls
  links-join [] = refl
  links-join (l ∷ ls) =
      ap (λ (z : Bool). if z then links_are_used ls parts else Fails (PlugUse l.name.place l.name.name)) (twice-is l.name.name)
      ∙ go (is_among l.name.name (names_in (numbered inputs_in 1 parts)) && is_among l.name.name (names_in (numbered outputs_in 1 parts))) (links-join ls)
    where
      go : (b : Bool) → links_are_used ls parts ≡ links_join (numbered inputs_in 1 parts) (numbered outputs_in 1 parts) ls
          → (if b then links_are_used ls parts else Fails (PlugUse l.name.place l.name.name))
          ≡ and_then (if b then Is fine else Fails (PlugUse l.name.place l.name.name)) (λ _. links_join (numbered inputs_in 1 parts) (numbered outputs_in 1 parts) ls)
      go true i = i
      go false i = refl

-- Held channels

all-or : (x : Name) (h : Header) (ns : List Name) → is_among x ((names_of h.outputs ++ names_of h.inputs) ++ ns) ≡ ((is_among x (names_of h.outputs) || is_among x (names_of h.inputs)) || is_among x ns)
all-or x h ns = among-append x (names_of h.outputs ++ names_of h.inputs) ns ∙ ap (λ z. z || is_among x ns) (among-append x (names_of h.outputs) (names_of h.inputs))

all-some : (x : Name) (parts : Parts) → is_among x (all_names parts) ≡ true → 1 ≤ times_in x parts + times_out x parts
all-some x no_parts i = absurd (true≢false (sym i))
all-some x (part_then h body parts) i = elim (or-split (is_among x (names_of h.outputs) || is_among x (names_of h.inputs)) (is_among x (all_names parts)) (sym (all-or x h (all_names parts)) ∙ i)) [
  | inl j ↦ elim (or-split (is_among x (names_of h.outputs)) (is_among x (names_of h.inputs)) j) [
    | inl k ↦ let m : 1 ≤ times x h.outputs = among-some x h.outputs k in omega (arith, m)
    | inr k ↦ let m : 1 ≤ times x h.inputs = among-some x h.inputs k in omega (arith, m)
  ]
  | inr j ↦ let m : 1 ≤ times_in x parts + times_out x parts = all-some x parts j in omega (arith, m)
]

all-none : (x : Name) (parts : Parts) → is_among x (all_names parts) ≡ false → times_in x parts + times_out x parts ≡ 0
all-none x no_parts i = refl
all-none x (part_then h body parts) i =
    let j = or-none (is_among x (names_of h.outputs) || is_among x (names_of h.inputs)) (is_among x (all_names parts)) (sym (all-or x h (all_names parts)) ∙ i) in
    let k = or-none (is_among x (names_of h.outputs)) (is_among x (names_of h.inputs)) j.0 in
    let o : times x h.outputs ≡ 0 = among-none x h.outputs k.0 in
    let n : times x h.inputs ≡ 0 = among-none x h.inputs k.1 in
    let l : times_in x parts + times_out x parts ≡ 0 = all-none x parts j.1 in
    omega (arith, o, n, l)

used-is : (x : Name) (parts : Parts) → nat_le 1 (uses x parts) ≡ is_among x (all_names parts)
used-is x parts = le-is 1 (uses x parts) (is_among x (all_names parts)) (all-some x parts) (λ i l. let z : times_in x parts + times_out x parts ≡ 0 = all-none x parts i in omega (arith, z, l))

-- the first held channel in no header is the first of those that are in none
all-used : (at : Place) (parts : Parts) (used : List Name) → HaveSame used (all_names parts) → (held : Holding)
    → all_are_used at held parts ≡ none_left at (those (λ x. not (is_among x used)) held)
all-used at parts used same [] = refl
all-used at parts used same (e ∷ es) =
    ap (λ (z : Bool). if z then all_are_used at es parts else Fails (LeftOver at e.0)) (used-is e.0 parts ∙ sym (same e.0))
    ∙ go (is_among e.0 used) (all-used at parts used same es)
  where
    go : (b : Bool) → all_are_used at es parts ≡ none_left at (those (λ x. not (is_among x used)) es)
        → (if b then all_are_used at es parts else Fails (LeftOver at e.0)) ≡ none_left at (if not b then e ∷ those (λ x. not (is_among x used)) es else those (λ x. not (is_among x used)) es)
    go true i = i
    go false i = refl

pub all-used-by : (at : Place) (parts : Parts) (used : List Name) (held : Holding) → used ≡ with_names [] (all_names parts)
    → all_are_used at held parts ≡ none_left at (those (λ x. not (is_among x used)) held)
all-used-by at parts used held i = all-used at parts used (λ x. ap (is_among x) i ∙ same-set (all_names parts) x) held
