-- Parts put in their slots, against the values that they have for each slot.
use Rattle.std.proofs.Common.{◌≡◌, ℕ, Bool, true, false, List, [], ◌∷◌, ◌++◌, map, Option, Some, None, is_some, if◌then◌else◌, refl, sym, ap, ◌∙◌, append-nil}
use Rattle.std.specs.Prelude.{option_and_then, All}
use Rattle.std.proofs.lemmas.List.Elements.{All-head, All-tail}
use Rattle.campl_orders.specs.Orders.{Part, Given, Give, IsValue, Writes, nothing, an_operand, apart, joined, operands_alone, at, is_slot, listed, operand, values_for}
use Rattle.campl_orders.specs.Reading as r
use Rattle.campl_orders.specs.Reading.{filled, gathered, is_value, put, put_new}
use Rattle.campl_orders.specs.declared.found.Slot.{Slot}
use Rattle.campl_orders.specs.declared.found.Slot.TheVariants.{Operand, Script, Steps, Workers}
use Rattle.campl_orders.specs.declared.reader.State.TheVariants.{Open}
use Rattle.campl_orders.proofs.Parts.{put_all, read-back, value-passes, written-puts}

-- one more value in an empty slot is one more value for it, and for no other
one-more : (x y : Slot) (value : List ℕ) (more : List (List ℕ)) (g : Given) → at y g ≡ None
    → listed (at x (filled y value g)) ++ more ≡ listed (at x g) ++ (if is_slot x y then value ∷ more else more)
one-more Operand Operand value more g e = ap (λ o. listed o ++ (value ∷ more)) (sym e)
one-more Script Script value more g e = ap (λ o. listed o ++ (value ∷ more)) (sym e)
one-more Steps Steps value more g e = ap (λ o. listed o ++ (value ∷ more)) (sym e)
one-more Workers Workers value more g e = ap (λ o. listed o ++ (value ∷ more)) (sym e)
one-more Operand Script value more g e = refl
one-more Operand Steps value more g e = refl
one-more Operand Workers value more g e = refl
one-more Script Operand value more g e = refl
one-more Script Steps value more g e = refl
one-more Script Workers value more g e = refl
one-more Steps Operand value more g e = refl
one-more Steps Script value more g e = refl
one-more Steps Workers value more g e = refl
one-more Workers Operand value more g e = refl
one-more Workers Script value more g e = refl
one-more Workers Steps value more g e = refl

own-slot : (x : Slot) → is_slot x x ≡ true
own-slot Operand = refl
own-slot Script = refl
own-slot Steps = refl
own-slot Workers = refl

-- ---- one part

pub record Put (x : Slot) (value : List ℕ) (g after : Given) : Type 0 where
  pub empty : at x g ≡ None
  pub is : filled x value g ≡ after

put-back : (x : Slot) (value : List ℕ) (g after : Given) → put x value g ≡ Some after → Put x value g after
put-back x value g after = by (is_value value) (at x g) refl
  where
    by : (b : Bool) (o : Option (List ℕ)) → at x g ≡ o → (if b then (if is_some o then None else Some (filled x value g)) else None) ≡ Some after → Put x value g after
    by true None i e = record { empty = i; is = cc }
    by true (Some old) i e = absurd (let no : ⊥ = cc in no)
    by false o i e = absurd (let no : ⊥ = cc in no)

put-forth : (x : Slot) (value : List ℕ) (g : Given) → IsValue value → at x g ≡ None → put x value g ≡ Some (filled x value g)
put-forth x value g v e = rw (value-passes value v, e) refl

-- ---- all parts

both-steps : (parts : List Part) (m : Option Given) (last : Given) → option_and_then (put_all parts) m ≡ Some last → (after : Given) × (m ≡ Some after) × (put_all parts after ≡ Some last)
both-steps parts None last e = absurd (let no : ⊥ = cc in no)
both-steps parts (Some after) last e = (after, refl, e)

placed : (parts : List Part) (g last : Given) → put_all parts g ≡ Some last → (x : Slot) → listed (at x g) ++ values_for x parts ≡ listed (at x last)
placed [] g last e x = let same : g ≡ last = cc in append-nil (listed (at x g)) ∙ ap (λ h. listed (at x h)) same
placed (p ∷ parts) g last e x =
    let s = both-steps parts (put p.0 p.1 g) last e in
    let f = put-back p.0 p.1 g s.0 s.1 in
    sym (one-more x p.0 p.1 (values_for x parts) g f.empty) ∙ ap (λ h. listed (at x h) ++ values_for x parts) f.is ∙ placed parts s.0 last s.2 x

abbrev AreValues : List Part → Type 0
AreValues [] = Unit {0}
AreValues (p ∷ parts) = IsValue p.1 × AreValues parts

empty-slot : (o last : Option (List ℕ)) (value : List ℕ) (more : List (List ℕ)) → listed o ++ (value ∷ more) ≡ listed last → o ≡ None
empty-slot None last value more e = refl
empty-slot (Some old) None value more e = absurd (let no : ⊥ = cc in no)
empty-slot (Some old) (Some new) value more e = absurd (let no : ⊥ = cc in no)

same-listed : (o last : Option (List ℕ)) → listed o ++ [] ≡ listed last → o ≡ last
same-listed None None e = refl
same-listed None (Some new) e = absurd (let no : ⊥ = cc in no)
same-listed (Some old) None e = absurd (let no : ⊥ = cc in no)
same-listed (Some old) (Some new) e = let same : old ≡ new = cc in ap Some same

places : (parts : List Part) (g last : Given) → AreValues parts → ((x : Slot) → listed (at x g) ++ values_for x parts ≡ listed (at x last)) → put_all parts g ≡ Some last
places [] g last v h =
    let a = same-listed g.operand last.operand (h Operand) in
    let b = same-listed g.script last.script (h Script) in
    let c = same-listed g.steps last.steps (h Steps) in
    let d = same-listed g.workers last.workers (h Workers) in
    λ i. Some (record { operand = a i; script = b i; steps = c i; workers = d i })
places (p ∷ parts) g last v h =
    let own : listed (at p.0 g) ++ (p.1 ∷ values_for p.0 parts) ≡ listed (at p.0 last) =
    ap (λ b. listed (at p.0 g) ++ (if b then p.1 ∷ values_for p.0 parts else values_for p.0 parts)) (sym (own-slot p.0)) ∙ h p.0 in
    let empty = empty-slot (at p.0 g) (at p.0 last) p.1 (values_for p.0 parts) own in
    ap (option_and_then (put_all parts)) (put-forth p.0 p.1 g v.0 empty)
    ∙ places parts (filled p.0 p.1 g) last v.1 (λ x. one-more x p.0 p.1 (values_for x parts) g empty ∙ h x)

operands-fine : (words : List (List ℕ)) → All IsValue words → AreValues (map operand words)
operands-fine [] h = tt
operands-fine (word ∷ words) h = (All-head IsValue word words h, operands-fine words (All-tail IsValue word words h))

written-fine : {words : List (List ℕ)} {parts : List Part} → Writes words parts → AreValues parts
written-fine nothing = tt
written-fine (an_operand word v d) = (v, written-fine d)
written-fine (apart x n value v d) = (v, written-fine d)
written-fine (joined x n value v d) = (v, written-fine d)
written-fine (operands_alone words h) = operands-fine words h

-- ---- what the words give

from-nothing : (g : Given) (parts : List Part) → ((x : Slot) → values_for x parts ≡ listed (at x g)) → (x : Slot) → listed (at x r.nothing) ++ values_for x parts ≡ listed (at x g)
from-nothing g parts h Operand = h Operand
from-nothing g parts h Script = h Script
from-nothing g parts h Steps = h Steps
from-nothing g parts h Workers = h Workers

to-nothing : (g : Given) (parts : List Part) → ((x : Slot) → listed (at x r.nothing) ++ values_for x parts ≡ listed (at x g)) → (x : Slot) → values_for x parts ≡ listed (at x g)
to-nothing g parts h Operand = h Operand
to-nothing g parts h Script = h Script
to-nothing g parts h Steps = h Steps
to-nothing g parts h Workers = h Workers

pub gathers : (words : List (List ℕ)) (g : Given) → Give words g → gathered r.nothing Open words ≡ Some g
gathers words g (parts, d, h) = written-puts d r.nothing ∙ places parts r.nothing g (written-fine d) (from-nothing g parts h)

pub gives : (words : List (List ℕ)) (g : Given) → gathered r.nothing Open words ≡ Some g → Give words g
gives words g e = let b = read-back words Open r.nothing g e in (b.parts, b.behind, to-nothing g b.parts (placed b.parts r.nothing g b.puts))
