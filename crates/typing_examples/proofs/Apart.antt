-- Sources whose plugs' parts form no tree. That is no matter of typing, so both are typed.
use Rattle.std.proofs.Common.{◌≡◌, ◌⊎◌, inl, inr, refl, sym, subst, arith, false, List, [], ◌∷◌, None, Some, codes}
use Rattle.campl_tree.specs.declared.place.Ident.{Ident}
use Rattle.campl_tree.specs.Plain.ChanType.{TopBot}
use Rattle.campl_tree.specs.Plain.Process as b
use Rattle.campl_tree.specs.Plain.Decl.{Program}
use Rattle.campl_linear.proofs.Lists.{only-before}
use Rattle.campl_types.specs.Names.{Name, same_name}
use Rattle.campl_types.specs.World.{world_of}
use Rattle.campl_types.specs.Held.{nothing_held}
use Rattle.campl_types.specs.Headers.{links_in, share, IsUsed, times_in, times_out}
use Rattle.campl_types.specs.Linear.{IsWellFormed}
use Rattle.campl_types.specs.Typed.{IsTyped}
use Rattle.campl_types.proofs.Names.{split-names}
use Rattle.typing_examples.proofs.Sources.{place, ident, process}

abbrev c : Ident
c = ident 2 17 (codes "c")

abbrev d : Ident
d = ident 2 30 (codes "d")

abbrev link : Ident → b.Link
link x = record { name = x; channel_type = TopBot }

abbrev part : (inputs outputs : List Ident) → b.Body → b.Parts → b.Parts
part inputs outputs = b.part_then (record { place = place 3 9; inputs = inputs; outputs = outputs })

abbrev halts : Ident → b.Body
halts x = b.Halt (place 5 13) (Some x)

-- proc run :: | => where
--     | => -> plug c :: TopBot of
--         => c -> halt c
--         c => -> halt c
--         => -> halt
-- has a third part apart
abbrev one-apart : b.Parts
one-apart = part [] (c ∷ []) (halts c) (part (c ∷ []) [] (halts c) (part [] [] (b.Halt (place 5 15) None) b.no_parts))

abbrev apart : Program
apart = process 1 (codes "run") [] [] (b.Plug (place 2 13) (link c ∷ []) one-apart) ∷ []

used-once : (x : Name) → IsUsed (links_in (link c ∷ []) x) None (times_out x one-apart) (times_in x one-apart)
used-once x = go (split-names x (codes "c"))
  where
    go : (x ≡ codes "c") ⊎ (same_name x (codes "c") ≡ false) → IsUsed (links_in (link c ∷ []) x) None (times_out x one-apart) (times_in x one-apart)
    go (inl i) = subst (λ y. IsUsed (links_in (link c ∷ []) y) None (times_out y one-apart) (times_in y one-apart)) (sym i) (refl, refl)
    go (inr i) = rw i (refl, refl)

apart-well-formed : IsWellFormed (world_of apart) [] nothing_held (b.Plug (place 2 13) (link c ∷ []) one-apart)
apart-well-formed = (
  (omega arith, omega arith),
  refl,
  (used-once, (refl, (refl, (refl, tt)))),
  ((_, _, refl, refl, λ y i. rw i refl), ((_, _, refl, refl, λ y i. rw i refl), (λ y i. refl, tt))),
)

apart-typed : IsTyped apart
apart-typed = record { declared = refl; functions = (tt, tt); processes = ((refl, refl, refl, refl, (λ x s t i. absurd (cc i)), apart-well-formed), tt) }

-- proc run :: | => where
--     | => -> plug c :: TopBot, d :: TopBot of
--         => c, d -> do
--             close c
--             halt d
--         c, d => -> do
--             close c
--             halt d
-- has two parts that share two links
abbrev closes : b.Body
closes = b.Then (b.Close (place 4 13) c) (halts d)

abbrev outputs : b.Header
outputs = record { place = place 3 9; inputs = []; outputs = c ∷ d ∷ [] }

abbrev inputs : b.Header
inputs = record { place = place 6 9; inputs = c ∷ d ∷ []; outputs = [] }

abbrev both : b.Parts
both = b.part_then outputs closes (b.part_then inputs closes b.no_parts)

abbrev links : List b.Link
links = link c ∷ link d ∷ []

abbrev cycle : Program
cycle = process 1 (codes "run") [] [] (b.Plug (place 2 13) links both) ∷ []

each-used-once : (x : Name) → IsUsed (links_in links x) None (times_out x both) (times_in x both)
each-used-once x = go (split-names x (codes "c")) (split-names x (codes "d"))
  where
    go : (x ≡ codes "c") ⊎ (same_name x (codes "c") ≡ false) → (x ≡ codes "d") ⊎ (same_name x (codes "d") ≡ false) → IsUsed (links_in links x) None (times_out x both) (times_in x both)
    go (inl i) other = subst (λ y. IsUsed (links_in links y) None (times_out y both) (times_in y both)) (sym i) (refl, refl)
    go (inr i) (inl j) = subst (λ y. IsUsed (links_in links y) None (times_out y both) (times_in y both)) (sym j) (refl, refl)
    go (inr i) (inr j) = rw (i, j) (refl, refl)

cycle-well-formed : IsWellFormed (world_of cycle) [] nothing_held (b.Plug (place 2 13) links both)
cycle-well-formed = (
  (omega arith, omega arith),
  refl,
  (each-used-once, (refl, (refl, tt))),
  (
    (_, _, refl, refl, (_, _, refl, refl, only-before (codes "c") (codes "d" ∷ []) (share (links_in links) nothing_held outputs) (λ y i. rw i refl))),
    ((_, _, refl, refl, (_, _, refl, refl, only-before (codes "c") (codes "d" ∷ []) (share (links_in links) nothing_held inputs) (λ y i. rw i refl))), tt),
  ),
)

cycle-typed : IsTyped cycle
cycle-typed = record { declared = refl; functions = (tt, tt); processes = ((refl, refl, refl, refl, (λ x s t i. absurd (cc i)), cycle-well-formed), tt) }
