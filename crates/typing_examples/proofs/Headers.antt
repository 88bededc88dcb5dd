-- What the header of a part says, in a plug with the link c that holds the input k and the output t.
use Rattle.std.proofs.Common.{◌≡◌, refl, [], ◌∷◌, Some, None, codes}
use Rattle.campl_tree.specs.declared.place.Ident.{Ident}
use Rattle.campl_tree.specs.declared.service.Side.TheVariants.{Input, Output}
use Rattle.campl_tree.specs.Plain.SeqType as s
use Rattle.campl_tree.specs.Plain.ChanType.{Put, TopBot}
use Rattle.campl_tree.specs.Plain.Process as b
use Rattle.campl_types.specs.Held.{On, Held, nothing_held, with}
use Rattle.campl_types.specs.Headers.{Links, links_in, share, count, times_in, times_out, IsUsed}
use Rattle.typing_examples.proofs.Sources.{place, ident}

abbrev c : Ident
c = ident 1 6 (codes "c")

abbrev k : Ident
k = ident 1 20 (codes "k")

abbrev t : Ident
t = ident 1 23 (codes "t")

abbrev links : Links
links = links_in (record { name = c; channel_type = Put s.Int TopBot } ∷ [])

abbrev held : Held
held = with (codes "k") (Some (On Input TopBot)) (with (codes "t") (Some (On Output TopBot)) nothing_held)

-- => c, t -> ..
abbrev sender : b.Header
sender = record { place = place 2 5; inputs = []; outputs = c ∷ t ∷ [] }

-- c, k => -> ..
abbrev receiver : b.Header
receiver = record { place = place 3 5; inputs = c ∷ k ∷ []; outputs = [] }

abbrev parts : b.Parts
parts = b.part_then sender (b.Halt (place 2 16) None) (b.part_then receiver (b.Halt (place 3 16) None) b.no_parts)

two-parts : count parts ≡ 2
two-parts = refl

-- of the link each part has the half on its side, and of what is held what it names
sender-shares : (share links held sender (codes "c") ≡ Some (On Output (Put s.Int TopBot))) × (share links held sender (codes "t") ≡ Some (On Output TopBot)) × (share links held sender (codes "k") ≡ None)
sender-shares = (refl, refl, refl)

receiver-shares : (share links held receiver (codes "c") ≡ Some (On Input (Put s.Int TopBot))) × (share links held receiver (codes "k") ≡ Some (On Input TopBot)) × (share links held receiver (codes "t") ≡ None)
receiver-shares = (refl, refl, refl)

-- c stands once on each side, t and k on their own
times : (times_out (codes "c") parts ≡ 1) × (times_in (codes "c") parts ≡ 1) × (times_out (codes "t") parts ≡ 1) × (times_in (codes "t") parts ≡ 0)
times = (refl, refl, refl, refl)

link-used : IsUsed (links (codes "c")) (held (codes "c")) 1 1
link-used = (refl, refl)

output-used : IsUsed (links (codes "t")) (held (codes "t")) 1 0
output-used = (refl, refl)

input-used : IsUsed (links (codes "k")) (held (codes "k")) 0 1
input-used = (refl, refl)

nothing-used : IsUsed (links (codes "x")) (held (codes "x")) 0 0
nothing-used = (refl, refl)
