-- Worked plugs: what the functions compute.
use Rattle.std.proofs.Common.{◌≡◌, refl, ℕ, ◌&&◌, nat_le, IsTrue, List, [], ◌∷◌, Some, None, codes, arith}
use Rattle.campl_plug.specs.declared.plug.Link.{Link}
use Rattle.campl_plug.specs.declared.plug.PlugFault.TheVariants.{Cycle, Apart}
use Rattle.campl_plug.specs.Links.{IsPart, IsWithin}
use Rattle.campl_plug.specs.Tree.{IsTree}
use Rattle.campl_tree.specs.declared.place.Place.{Place}
use Rattle.campl_tree.specs.declared.place.Ident.{Ident}
use Rattle.campl_tree.specs.Plain.ChanType.{TopBot}
use Rattle.campl_tree.specs.Plain.Process as b
use Rattle.campl_tree.specs.Plain.Process.{Header, Parts, no_parts, part_then}
use Rattle.campl_plug.specs.TreeOrder.{tree_order_of}
use Rattle.campl_plug.specs.FirstFault.{fault_of}
use Rattle.campl_peel.specs.Numbered.{joined_parts, last_first}
use Rattle.campl_peel.specs.Peel.{peel_of}
use Rattle.campl_plug.proofs.Faulted.{tree-exactly}

abbrev link : ℕ → ℕ → Link
link p q = record { a = p; b = q }

chain : tree_order_of 3 (link 1 3 ∷ link 3 2 ∷ []) ≡ 1 ∷ 3 ∷ 2 ∷ []
chain = refl

-- neighbours by their number, whichever end of a link is named first
star : tree_order_of 5 (link 5 1 ∷ link 1 3 ∷ link 3 4 ∷ link 2 5 ∷ []) ≡ 1 ∷ 3 ∷ 5 ∷ 4 ∷ 2 ∷ []
star = refl

whole : fault_of 5 (link 5 1 ∷ link 1 3 ∷ link 3 4 ∷ link 2 5 ∷ []) ≡ None
whole = refl

-- so its parts are a tree: the test is computed
inside : (p q : ℕ) → IsTrue (nat_le 1 p && nat_le p 5) → IsTrue (nat_le 1 q && nat_le q 5) → IsWithin 5 (link p q)
inside p q a c = record { a_part = part p a; b_part = part q c }
  where
    part : (p : ℕ) → IsTrue (nat_le 1 p && nat_le p 5) → IsPart 5 p
    part p a = record { low = grind (arith, a); high = grind (arith, a) }

star-is-tree : IsTree 5 (link 5 1 ∷ link 1 3 ∷ link 3 4 ∷ link 2 5 ∷ [])
star-is-tree = (tree-exactly 5 (link 5 1 ∷ link 1 3 ∷ link 3 4 ∷ link 2 5 ∷ []) (inside 5 1 refl refl, (inside 1 3 refl refl, (inside 3 4 refl refl, (inside 2 5 refl refl, tt)))) (omega arith)).1 refl

-- two links between one pair of parts, beside a lone part
doubled : fault_of 3 (link 1 2 ∷ link 1 2 ∷ []) ≡ Some (Cycle 1)
doubled = refl

itself : fault_of 2 (link 2 2 ∷ link 1 2 ∷ []) ≡ Some (Cycle 0)
itself = refl

lone : fault_of 4 (link 1 4 ∷ link 2 3 ∷ []) ≡ Some (Apart 2)
lone = refl

-- x joins part 1 to part 3, and y part 3 to part 2; k is held
abbrev at : Place
at = record { line = 1; column = 1 }

abbrev ident : List ℕ → Ident
ident x = record { place = at; name = x }

abbrev x : List ℕ
x = codes "x"

abbrev y : List ℕ
y = codes "y"

abbrev k : List ℕ
k = codes "k"

abbrev links : List b.Link
links = record { name = ident x; channel_type = TopBot } ∷ record { name = ident y; channel_type = TopBot } ∷ []

abbrev first : Header
first = record { place = at; inputs = []; outputs = ident x ∷ [] }

abbrev second : Header
second = record { place = at; inputs = ident y ∷ ident k ∷ []; outputs = [] }

abbrev third : Header
third = record { place = at; inputs = ident x ∷ []; outputs = ident y ∷ [] }

abbrev body : b.Body
body = b.Halt at None

abbrev parts : Parts
parts = part_then first body (part_then second body (part_then third body no_parts))

pairs : joined_parts links parts ≡ link 1 3 ∷ link 3 2 ∷ []
pairs = refl

turned : last_first links parts ≡ part_then second body (part_then third body (part_then first body no_parts))
turned = refl

-- y is peeled first, and then x
peeled : peel_of links (last_first links parts)
    ≡ Some (record { header = second; body = body; link = record { name = ident y; channel_type = TopBot }; links = record { name = ident x; channel_type = TopBot } ∷ []; parts = part_then third body (part_then first body no_parts) })
peeled = refl
