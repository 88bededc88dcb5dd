-- The graph of the ends that have partners.
use Rattle.std.proofs.Common.{◌≡◌, ◌⊎◌, ◌∙◌, inl, inr, refl, ap, Bool, true, false, List, [], ◌∷◌, ◌++◌, Option, Some, None}
use Rattle.campl_machine.specs.Names.{TellsApart, End, Who, same_end, same_who}
use Rattle.campl_machine.specs.Graph.{Graph, NoCycle}
use Rattle.campl_machine.proofs.Same.{same_end-is, same_end-refl, same_who-is, same_who-refl}
use Rattle.campl_machine.proofs.Updates.{split}
use Rattle.campl_machine.proofs.Shapes.{removal}
use Rattle.campl_meaning.specs.States.{Message, Word, Pick, EndPair}
use Rattle.campl_meaning.specs.Reductions.{Configuration}
use Rattle.campl_frame.proofs.Leaving.{ends-apart}
use Rattle.campl_meaning.specs.Apart.{Place, At, In, Gone, Node, Holder, Pair, owes_pair, node_of, graph}

-- where an end stands that has a partner
abbrev pub standing : Option End → Option Node → Option Node
standing None n = None
standing (Some f) n = n

abbrev pub masked : Configuration → (End → Place) → Graph End Node
masked c place = record { partner = c.partner; at = λ e. standing (c.partner e) (node_of (place e) e (c.owed e)) }

stood : (o : Option End) (n : Option Node) (u : Node) → standing o n ≡ Some u → n ≡ Some u
stood None n u i = absurd (cc i)
stood (Some f) n u i = i

pub standing-some : (o : Option End) (f : End) (n : Option Node) → o ≡ Some f → standing o n ≡ n
standing-some o f n i = rw i refl

pub standing-none : (o : Option End) (n : Option Node) → o ≡ None → standing o n ≡ None
standing-none o n i = rw i refl

-- a graph has a cycle only where its ends with partners have one
pub mask : (c : Configuration) (place : End → Place) → NoCycle (graph c place) → NoCycle (masked c place)
mask c place = removal same_end ends-apart (graph c place) (masked c place) (λ e f u v l. record {
  there = l.there;
  back = l.back;
  from = stood (c.partner e) (node_of (place e) e (c.owed e)) u l.from;
  to = stood (c.partner f) (node_of (place f) f (c.owed f)) v l.to;
})

pub unmask : (c : Configuration) (place : End → Place) → NoCycle (masked c place) → NoCycle (graph c place)
unmask c place = removal same_end ends-apart (masked c place) (graph c place) (λ e f u v l. record {
  there = l.there;
  back = l.back;
  from = standing-some (c.partner e) f (node_of (place e) e (c.owed e)) l.there ∙ l.from;
  to = standing-some (c.partner f) e (node_of (place f) f (c.owed f)) l.back ∙ l.to;
})

pub at-holder : (pl : Place) (e : End) (ms : List Message) (v : Who) → node_of pl e ms ≡ Some (Holder v) → pl ≡ At v
at-holder (At who) e ms v i = let j : Holder who ≡ Holder v = cc i in ap At (cc j)
at-holder (In z) e ms v i = let j : Pair z ≡ Holder v = cc i in absurd (cc j)
at-holder Gone e ms v i = elim (split (owes_pair ms)) [
  | inl o ↦ let j : ◌≡◌ {A = Option Node} (Some (Pair e)) (Some (Holder v)) = rw o at i in let k : Pair e ≡ Holder v = cc j in absurd (cc k)
  | inr o ↦ let j : ◌≡◌ {A = Option Node} None (Some (Holder v)) = rw o at i in absurd (cc j)
]

pub at-pair : (pl : Place) (e : End) (ms : List Message) (z : End) → node_of pl e ms ≡ Some (Pair z) → (pl ≡ In z) ⊎ ((pl ≡ Gone) × (e ≡ z))
at-pair (At who) e ms z i = let j : Holder who ≡ Pair z = cc i in absurd (cc j)
at-pair (In y) e ms z i = let j : Pair y ≡ Pair z = cc i in inl (ap In (cc j))
at-pair Gone e ms z i = elim (split (owes_pair ms)) [
  | inl o ↦ let j : ◌≡◌ {A = Option Node} (Some (Pair e)) (Some (Pair z)) = rw o at i in let k : Pair e ≡ Pair z = cc j in inr (refl, cc k)
  | inr o ↦ let j : ◌≡◌ {A = Option Node} None (Some (Pair z)) = rw o at i in absurd (cc j)
]

pub node-at : (pl : Place) (e : End) (ms : List Message) (v : Who) → pl ≡ At v → node_of pl e ms ≡ Some (Holder v)
node-at pl e ms v i = rw i refl

pub node-in : (pl : Place) (e : End) (ms : List Message) (z : End) → pl ≡ In z → node_of pl e ms ≡ Some (Pair z)
node-in pl e ms z i = rw i refl

pub node-gone : (pl : Place) (e : End) (ms : List Message) → pl ≡ Gone → owes_pair ms ≡ true → node_of pl e ms ≡ Some (Pair e)
node-gone pl e ms i o = rw (i, o) refl

pub node-nowhere : (pl : Place) (e : End) (ms : List Message) → pl ≡ Gone → owes_pair ms ≡ false → node_of pl e ms ≡ None
node-nowhere pl e ms i o = rw (i, o) refl

-- Pairs in lists of messages

pub owes-last : (ms : List Message) (a b : End) → owes_pair (ms ++ (EndPair a b ∷ [])) ≡ true
owes-last [] a b = refl
owes-last (Word v ∷ ms) a b = owes-last ms a b
owes-last (Pick n ∷ ms) a b = owes-last ms a b
owes-last (EndPair f g ∷ ms) a b = refl
