-- A whole plug that is well formed, and what its peel gives:
--
--     plug c :: TopBot of
--         => c -> do halt c
--         c => -> do halt c
use Rattle.std.proofs.Common.{◌≡◌, inl, inr, refl, sym, subst, arith, false, List, [], ◌∷◌, Some, None, codes}
use Rattle.campl_plug.specs.Links.{IsPart}
use Rattle.campl_tree.specs.declared.place.Place.{Place}
use Rattle.campl_tree.specs.declared.place.Ident.{Ident}
use Rattle.campl_tree.specs.declared.service.Side.TheVariants.{Input, Output}
use Rattle.campl_tree.specs.Plain.ChanType.{TopBot}
use Rattle.campl_tree.specs.Plain.Process as b
use Rattle.campl_tree.specs.Plain.Process.{Header, Parts, no_parts, part_then}
use Rattle.campl_types.specs.Names.{Name, same_name}
use Rattle.campl_types.specs.Held.{On, nothing_held, HoldsOnly}
use Rattle.campl_types.specs.Headers.{links_in, IsUsed, times_in, times_out, share}
use Rattle.campl_types.specs.Linear.{IsWellFormed}
use Rattle.campl_types.proofs.Names.{split-names}
use Rattle.campl_peel.specs.Numbered.{PlugIsTree}
use Rattle.campl_peel.specs.Plugging.{held_by_child, held_by_rest}
use Rattle.campl_peel.specs.Peel.{Peel}
use Rattle.campl_peel.specs.Terms.{Doing, left_behind, TermIsWellFormed, TermPeels}
use Rattle.campl_types.proofs.Truth.{or-none}
use Rattle.campl_plug.proofs.Faulted.{tree-exactly}
use Rattle.campl_peel.proofs.Terms.{term-peels}

abbrev at : Place
at = record { line = 1; column = 1 }

abbrev c : Ident
c = record { place = at; name = codes "c" }

abbrev links : List b.Link
links = record { name = c; channel_type = TopBot } ∷ []

abbrev giver : Header
giver = record { place = at; inputs = []; outputs = c ∷ [] }

abbrev taker : Header
taker = record { place = at; inputs = c ∷ []; outputs = [] }

abbrev halt : b.Body
halt = b.Halt at (Some c)

abbrev parts : Parts
parts = part_then giver halt (part_then taker halt no_parts)

abbrev body : b.Body
body = b.Plug at links parts

-- the link is used once on each side, and no other name stands
used : (x : Name) → IsUsed (links_in links x) (nothing_held x) (times_out x parts) (times_in x parts)
used x = elim (split-names x (codes "c")) [
  | inl e ↦ subst (λ z. IsUsed (links_in links z) (nothing_held z) (times_out z parts) (times_in z parts)) (sym e) (refl, refl)
  | inr i ↦ rw i (refl, refl)
]

only-c : (h : Header) → ((y : Name) → same_name y (codes "c") ≡ false → share (links_in links) nothing_held h y ≡ None) → HoldsOnly (codes "c" ∷ []) (share (links_in links) nothing_held h)
only-c h f y i = f y (or-none (same_name y (codes "c")) false i).0

fine : IsWellFormed [] [] nothing_held body
fine = (
  (omega arith, omega arith),
  refl,
  (used, (refl, (refl, tt))),
  ((Output, TopBot, refl, refl, only-c giver (λ y i. rw i refl)), ((Input, TopBot, refl, refl, only-c taker (λ y i. rw i refl)), tt)),
)

one-two : IsPart 2 1 × IsPart 2 2
one-two = (record { low = omega arith; high = omega arith }, record { low = omega arith; high = omega arith })

tree : PlugIsTree links parts
tree = (tree-exactly 2 (record { a = 1; b = 2 } ∷ []) (record { a_part = one-two.0; b_part = one-two.1 }, tt) (omega arith)).1 refl

whole : TermIsWellFormed [] [] nothing_held (Doing body)
whole = (fine, (tree, (tt, (tt, tt))))

peel : (p : Peel) × TermPeels [] [] nothing_held (Doing body) p
peel = term-peels [] [] nothing_held (Doing body) whole refl

-- the taker is born, and the process goes on as the giver, each with its half alone
by-peel : (p : Peel) → TermPeels [] [] nothing_held (Doing body) p
    → (p.header ≡ taker) × (left_behind p ≡ Doing halt) × (held_by_child p.header p.link nothing_held (codes "c") ≡ Some (On Input TopBot)) × (held_by_rest p.header p.link nothing_held (codes "c") ≡ Some (On Output TopBot))
by-peel p t =
    let q : Peel = record { header = taker; body = halt; link = record { name = c; channel_type = TopBot }; links = []; parts = part_then giver halt no_parts } in
    let s : Some q ≡ Some p = t.peels in
    let e : q ≡ p = cc in
    subst (λ (z : Peel). (z.header ≡ taker) × (left_behind z ≡ Doing halt) × (held_by_child z.header z.link nothing_held (codes "c") ≡ Some (On Input TopBot)) × (held_by_rest z.header z.link nothing_held (codes "c") ≡ Some (On Output TopBot))) e
    (refl, refl, refl, refl)
