-- Worked free names.
use Rattle.std.proofs.Common.{◌≡◌, refl, true, false, [], ◌∷◌, Some, codes}
use Rattle.campl_tree.specs.declared.place.Ident.{Ident}
use Rattle.campl_tree.specs.declared.service.Side.TheVariants.{Input}
use Rattle.campl_tree.specs.Plain.ChanType.{TopBot}
use Rattle.campl_tree.specs.Plain.Process as b
use Rattle.campl_types.specs.World.{World}
use Rattle.campl_types.specs.Held.{Held, On, nothing_held, with}
use Rattle.campl_types.specs.Linear.{IsWellFormed}
use Rattle.campl_types.specs.Free.{is_free}
use Rattle.typing_examples.proofs.Sources.{place, ident, protocol, protocol_decl}

abbrev a : Ident
a = ident 1 1 (codes "a")

abbrev p : Ident
p = ident 1 1 (codes "p")

abbrev q : Ident
q = ident 1 1 (codes "q")

-- split p into p, q
-- close p
-- halt q
abbrev splits : b.Body
splits = b.Then (b.Split (place 1 1) p p q) (b.Then (b.Close (place 2 1) p) (b.Halt (place 3 1) (Some q)))

-- `split` names p before it binds it
names-p : is_free (codes "p") splits ≡ true
names-p = refl

hides-q : is_free (codes "q") splits ≡ false
hides-q = refl

-- plug q :: TopBot of
--     => q -> halt q
--     q => p -> do
--         close q
--         halt p
abbrev plugs : b.Body
plugs =
    b.Plug (place 1 1) (record { name = q; channel_type = TopBot } ∷ [])
    (b.part_then (record { place = place 2 5; inputs = []; outputs = q ∷ [] }) (b.Halt (place 2 13) (Some q))
    (b.part_then (record { place = place 3 5; inputs = q ∷ []; outputs = p ∷ [] }) (b.Then (b.Close (place 4 9) q) (b.Halt (place 5 9) (Some p))) b.no_parts))

-- close q
-- plug .., whose link q hides another q
abbrev closes-outside : b.Body
closes-outside = b.Then (b.Close (place 1 1) q) plugs

plug-hides-its-link : is_free (codes "q") plugs ≡ false
plug-hides-its-link = refl

plug-names-p : is_free (codes "p") plugs ≡ true
plug-names-p = refl

names-q-outside : is_free (codes "q") closes-outside ≡ true
names-q-outside = refl

-- fork p as
--     a -> do
--         close q
--         halt a
--     q -> halt q
abbrev forks : b.Body
forks =
    b.Fork (place 1 1) p a (b.Then (b.Close (place 3 9) q) (b.Halt (place 4 9) (Some a))) q (b.Halt (place 5 10) (Some q))

fork-names-its-channel : is_free (codes "p") forks ≡ true
fork-names-its-channel = refl

-- a is bound in the first body
fork-binds-a : is_free (codes "a") forks ≡ false
fork-binds-a = refl

-- q is bound in the second body, and free in the first
fork-binds-q-in-one : is_free (codes "q") forks ≡ true
fork-binds-q-in-one = refl

-- a protocol without constructors, and one who holds q while he takes a choice of none
empty : World
empty = protocol_decl 1 (ident 1 10 (codes "Never")) [] (ident 1 19 (codes "S")) [] ∷ []

holds-more : Held
holds-more = with (codes "p") (Some (On Input (protocol 1 1 (codes "Never")))) (with (codes "q") (Some (On Input TopBot)) nothing_held)

-- his body doesn't name q, and would hold it without end: an `hcase` has a row
takes-nothing : IsWellFormed empty [] holds-more (b.Hcase (place 2 1) p b.no_hcase_rows) → ⊥
takes-nothing (s, u, cs, i, j, each, rows, some) = cc some

names-no-q : is_free (codes "q") (b.Hcase (place 2 1) p b.no_hcase_rows) ≡ false
names-no-q = refl
