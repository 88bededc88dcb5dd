-- Peeling keeps a process's term well formed.
use Rattle.std.proofs.Common.{◌≡◌, ◌∙◌, inl, inr, refl, sym, subst, ℕ, zero, suc, ◌≤◌, arith, Bool, true, false, if◌then◌else◌, List, [], ◌∷◌, Option, Some, None, reverse}
use Rattle.std.proofs.Math.Path.{fun_ext}
use Rattle.campl_tree.specs.Plain.Process as b
use Rattle.campl_tree.specs.Plain.Process.{Body, Link, Header, Parts, no_parts, part_then}
use Rattle.campl_types.specs.Names.{Name, same_name, found}
use Rattle.campl_types.specs.World.{World}
use Rattle.campl_types.specs.Fits.{Vars}
use Rattle.campl_types.specs.Held.{Channel, Held, with, only}
use Rattle.campl_types.specs.Headers.{count}
use Rattle.campl_types.proofs.Names.{same-itself, same-turned, split-names}
use Rattle.campl_peel.specs.Numbered.{part_at, add_part, picked, last_first, joined_parts}
use Rattle.campl_plug.specs.TreeOrder.{tree_order_of}
use Rattle.campl_peel.specs.Plugging.{held_by_rest, PluggingIsWellFormed}
use Rattle.campl_peel.specs.Peel.{Peel, peel_of, PeelKeepsTyping}
use Rattle.campl_peel.specs.Trees.{PlugsAreTrees, PartsHaveTrees}
use Rattle.campl_peel.specs.Terms.{Term, Doing, Plugging, is_plug, peel_in, left, TermIsWellFormed, TermPeels, those, held_ends}
use Rattle.campl_types.proofs.Truth.{split, no-both}
use Rattle.campl_peel.proofs.Numbers.{same-pair}
use Rattle.campl_peel.proofs.Steps.{plug-begins, count-kept, peeling-keeps-typing, peel-takes-last, last-part}

-- The trees inside of the parts

trees-one : (parts : Parts) → PartsHaveTrees parts → (p : ℕ) (h : Header) (c : Body) → part_at parts p ≡ Some (h, c) → PlugsAreTrees c
trees-one no_parts t p h c e = absurd (let no : ⊥ = cc in no)
trees-one (part_then g d parts) t zero h c e = absurd (let no : ⊥ = cc in no)
trees-one (part_then g d parts) t (suc zero) h c e = subst PlugsAreTrees (same-pair (g, d) (h, c) e).1 t.0
trees-one (part_then g d parts) t (suc (suc p)) h c e = trees-one parts t.1 (suc p) h c e

trees-picked : (parts : Parts) → PartsHaveTrees parts → (ps : List ℕ) → PartsHaveTrees (picked parts ps)
trees-picked parts t [] = tt
trees-picked parts t (p ∷ ps) = added (part_at parts p) (trees-picked parts t ps) (λ h c e. trees-one parts t p h c e)
  where
    added : (o : Option (Header × Body)) → PartsHaveTrees (picked parts ps) → ((h : Header) (c : Body) → o ≡ Some (h, c) → PlugsAreTrees c) → PartsHaveTrees (add_part o (picked parts ps))
    added None r f = r
    added (Some q) r f = (f q.0 q.1 refl, r)

module _ (w : World) (vs : Vars) where
  left-is-well-formed : (held : Held) (links : List Link) (parts : Parts) → PluggingIsWellFormed w vs held links parts → PartsHaveTrees parts → TermIsWellFormed w vs held (left links parts)
  left-is-well-formed held links no_parts well trees = absurd (let some : 1 ≤ 0 = well.some in omega (arith, some))
  left-is-well-formed held links (part_then h c no_parts) well trees = (last-part w vs held links h c well, trees.0)
  left-is-well-formed held links (part_then h c (part_then g d parts)) well trees = (omega arith, well, trees)

  module _ (held : Held) where
    step : (links : List Link) (parts : Parts) → PluggingIsWellFormed w vs held links parts → 2 ≤ count parts → PartsHaveTrees parts
        → (p : Peel) × (peel_of links parts ≡ Some p) × PeelKeepsTyping w vs held p × PlugsAreTrees p.body × PartsHaveTrees p.parts
    step links parts well two trees =
        let (p, e, k) = peeling-keeps-typing w vs held links parts well two in
        let taken : parts ≡ part_then p.header p.body p.parts = (peel-takes-last links parts p e).0 in
        let t : PartsHaveTrees (part_then p.header p.body p.parts) = subst PartsHaveTrees taken trees in
        (p, e, k, t.0, t.1)

    peels : (term : Term) (links : List Link) (parts : Parts) → peel_in term ≡ peel_of links parts → PluggingIsWellFormed w vs held links parts → 2 ≤ count parts → PartsHaveTrees parts
        → (p : Peel) × TermPeels w vs held term p
    peels term links parts same well two trees =
        let (p, e, k, child, rest) = step links parts well two trees in (
          p,
          record {
            peels = same ∙ e;
            new = k.new;
            sides = k.sides;
            child = (k.child, child);
            rest = left-is-well-formed (held_by_rest p.header p.link held) p.links p.parts k.rest rest;
          },
        )

    -- a well formed plug peels, and keeps its typing
    pub term-peels : (term : Term) → TermIsWellFormed w vs held term → is_plug term ≡ true → (p : Peel) × TermPeels w vs held term p
    term-peels (Plugging links parts) well is = peels (Plugging links parts) links parts refl well.1 well.0 well.2
    term-peels (Doing (b.Plug at links parts)) well is =
        peels (Doing (b.Plug at links parts)) links (last_first links parts) refl (plug-begins w vs held at links parts well.0 well.1.0)
        (subst (λ n. 2 ≤ n) (sym (count-kept w vs held at links parts well.0 well.1.0)) well.0.0.0)
        (trees-picked parts well.1.1 (reverse (tree_order_of (count parts) (joined_parts links parts))))
    term-peels (Doing (b.Then a rest)) well is = absurd (no-both false is refl)
    term-peels (Doing (b.Halt at x)) well is = absurd (no-both false is refl)
    term-peels (Doing (b.Hcase at x rows)) well is = absurd (no-both false is refl)
    term-peels (Doing (b.Fork at x y l z r)) well is = absurd (no-both false is refl)
    term-peels (Doing (b.Race at rows)) well is = absurd (no-both false is refl)
    term-peels (Doing (b.Case at a rows)) well is = absurd (no-both false is refl)
    term-peels (Doing (b.Identity at x negated y)) well is = absurd (no-both false is refl)
    term-peels (Doing (b.Call at x args inputs outputs)) well is = absurd (no-both false is refl)

-- Ends

pub found-those : {E : Type 0} → (keep : Name → Bool) (es : List (Name × E)) (y : Name) → found y (those keep es) ≡ (if keep y then found y es else None)
found-those keep [] y = elim (split (keep y)) [ inl i ↦ rw i refl | inr i ↦ rw i refl ]
found-those keep (e ∷ es) y = elim (split-names y e.0) [
  | inl s ↦ elim (split (keep e.0)) [
    | inl k ↦ rw (k, subst (λ z. same_name y z ≡ true) s (same-itself y), subst (λ z. keep z ≡ true) (sym s) k) refl
    | inr k ↦ rw k (found-those keep es y ∙ rw (subst (λ z. keep z ≡ false) (sym s) k) refl)
  ]
  | inr s ↦ elim (split (keep e.0)) [
    | inl k ↦ rw (k, s) (found-those keep es y)
    | inr k ↦ rw (k, s) (found-those keep es y)
  ]
]

-- a new end, and those whose names are kept
pub ends-with : {E : Type 0} → (channel : E → Option Channel) (keep : Name → Bool) (x : Name) (k : E) (es : List (Name × E))
    → held_ends channel ((x, k) ∷ those keep es) ≡ with x (channel k) (only keep (held_ends channel es))
ends-with {E} channel keep x k es = fun_ext go
  where
    rest : (y : Name) → held_ends channel (those keep es) y ≡ (if keep y then held_ends channel es y else None)
    rest y = elim (split (keep y)) [
      | inl i ↦ rw (found-those keep es y, i) refl
      | inr i ↦ rw (found-those keep es y, i) refl
    ]

    go : (y : Name) → held_ends channel ((x, k) ∷ those keep es) y ≡ with x (channel k) (only keep (held_ends channel es)) y
    go y = elim (split (same_name x y)) [
      | inl i ↦ rw (i, same-turned y x ∙ i) refl
      | inr i ↦ rw (i, same-turned y x ∙ i) (rest y)
    ]
