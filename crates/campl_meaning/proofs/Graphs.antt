-- Nodes of a configuration's graph are told apart, and so are its ends.
use Rattle.std.proofs.Common.{◌≡◌, ap, Bool, true, false}
use Rattle.campl_machine.specs.Names.{TellsApart, same_end, same_who}
use Rattle.campl_machine.proofs.Same.{same_end-is, same_end-refl, same_who-is, same_who-refl}
use Rattle.campl_meaning.specs.Apart.{Node, Holder, Pair}

-- two nodes are the same
abbrev pub same_node : Node → Node → Bool
same_node (Holder u) (Holder v) = same_who u v
same_node (Pair e) (Pair f) = same_end e f
same_node (Holder u) (Pair f) = false
same_node (Pair e) (Holder v) = false

node-is : (u v : Node) → same_node u v ≡ true → u ≡ v
node-is (Holder u) (Holder v) i = ap Holder (same_who-is u v i)
node-is (Pair e) (Pair f) i = ap Pair (same_end-is e f i)
node-is (Holder u) (Pair f) i = absurd (cc i)
node-is (Pair e) (Holder v) i = absurd (cc i)

node-own : (u : Node) → same_node u u ≡ true
node-own (Holder u) = same_who-refl u
node-own (Pair e) = same_end-refl e

pub nodes-apart : TellsApart same_node
nodes-apart = record { is = node-is; own = node-own }
