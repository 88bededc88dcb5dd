-- Where names stand, and how often.
use Rattle.std.proofs.Common.{◌≡◌, inl, inr, refl, ◌+◌, ◌≤◌, arith, true, false}
pub use Rattle.std.proofs.lemmas.Bool.{and_parts as and-both}
use Rattle.campl_tree.specs.Plain.Process.{Header, Parts, no_parts, part_then}
use Rattle.campl_types.specs.Names.{Name, is_among}
use Rattle.campl_types.specs.World.{names_of}
use Rattle.campl_types.specs.Headers.{times, times_in, times_out}
use Rattle.campl_types.proofs.Truth.{no-both, or-split, or-none}
use Rattle.campl_types.proofs.Times.{among-some, among-none}
use Rattle.campl_peel.specs.Plugging.{stands_in, stands_among}

-- In headers

pub stands-some : (n : Name) (h : Header) → stands_in h n ≡ true → 1 ≤ times n h.inputs + times n h.outputs
stands-some n h i = elim (or-split (is_among n (names_of h.inputs)) (is_among n (names_of h.outputs)) i) [
  | inl j ↦ let e : 1 ≤ times n h.inputs = among-some n h.inputs j in omega (arith, e)
  | inr j ↦ let e : 1 ≤ times n h.outputs = among-some n h.outputs j in omega (arith, e)
]

pub stands-none : (n : Name) (h : Header) → stands_in h n ≡ false → (times n h.inputs ≡ 0) × (times n h.outputs ≡ 0)
stands-none n h i =
    let (a, b) = or-none (is_among n (names_of h.inputs)) (is_among n (names_of h.outputs)) i in
    (among-none n h.inputs a, among-none n h.outputs b)

pub parts-some : (n : Name) (parts : Parts) → stands_among parts n ≡ true → 1 ≤ times_in n parts + times_out n parts
parts-some n no_parts i = absurd (no-both false i refl)
parts-some n (part_then h body parts) i = elim (or-split (stands_in h n) (stands_among parts n) i) [
  | inl j ↦ let e : 1 ≤ times n h.inputs + times n h.outputs = stands-some n h j in omega (arith, e)
  | inr j ↦ let e : 1 ≤ times_in n parts + times_out n parts = parts-some n parts j in omega (arith, e)
]

pub parts-none : (n : Name) (parts : Parts) → stands_among parts n ≡ false → (times_in n parts ≡ 0) × (times_out n parts ≡ 0)
parts-none n no_parts i = (refl, refl)
parts-none n (part_then h body parts) i =
    let (a, b) = or-none (stands_in h n) (stands_among parts n) i in
    let (c, d) = stands-none n h a in
    let (e, f) = parts-none n parts b in
    (omega (arith, c, e), omega (arith, d, f))
