-- Parts by their numbers.
use Rattle.std.proofs.Common.{◌≡◌, ◌∙◌, inl, inr, refl, sym, ap, subst, ℕ, zero, suc, ◌+◌, ◌≤◌, arith, true, List, [], ◌∷◌, Option, Some, None, reverse}
use Rattle.std.specs.List.{slice_get}
use Rattle.campl_plug.specs.Links.{IsPart}
use Rattle.campl_tree.specs.declared.place.Ident.{Ident}
use Rattle.campl_tree.specs.Plain.Process.{Body, Header, Parts, no_parts, part_then}
use Rattle.campl_types.specs.Names.{Name, is_among}
use Rattle.campl_types.specs.World.{World, names_of}
use Rattle.campl_types.specs.Fits.{Vars}
use Rattle.campl_types.specs.Held.{Held}
use Rattle.campl_types.specs.Headers.{Links, times, times_in, times_out, NamesDiffer, share, count}
use Rattle.campl_types.specs.Linear.{IsWellFormed, PartsAreWellFormed}
use Rattle.campl_peel.specs.Numbered.{part_at, add_part, picked, one_up, number_of, outputs_in, inputs_in}
use Rattle.campl_types.proofs.Truth.{split}
use Rattle.campl_types.proofs.Times.{among-some, among-none}
use Rattle.campl_peel.proofs.Sums.{sum_of, sum_to, sum-first, sum-reverse, sum-some}

pub same-pair : (p q : Header × Body) → Some p ≡ Some q → (p.0 ≡ q.0) × (p.1 ≡ q.1)
same-pair p q e = let s : p ≡ q = cc in (ap (λ (z : Header × Body). z.0) s, ap (λ (z : Header × Body). z.1) s)

-- Weights

-- the sum of what each header weighs
abbrev pub weight : (Header → ℕ) → Parts → ℕ
weight f no_parts = 0
weight f (part_then h body parts) = f h + weight f parts

pub weight-out : (x : Name) (parts : Parts) → times_out x parts ≡ weight (λ h. times x (outputs_in h)) parts
weight-out x no_parts = refl
weight-out x (part_then h body parts) = ap (λ n. times x h.outputs + n) (weight-out x parts)

pub weight-in : (x : Name) (parts : Parts) → times_in x parts ≡ weight (λ h. times x (inputs_in h)) parts
weight-in x no_parts = refl
weight-in x (part_then h body parts) = ap (λ n. times x h.inputs + n) (weight-in x parts)

pub weight-count : (parts : Parts) → count parts ≡ weight (λ h. 1) parts
weight-count no_parts = refl
weight-count (part_then h body parts) = ap (λ n. 1 + n) (weight-count parts)

abbrev weight_in : (Header → ℕ) → Option (Header × Body) → ℕ
weight_in f None = 0
weight_in f (Some p) = f p.0

weight-added : (f : Header → ℕ) (o : Option (Header × Body)) (parts : Parts) → weight f (add_part o parts) ≡ weight_in f o + weight f parts
weight-added f None parts = omega arith
weight-added f (Some p) parts = refl

weight-picked : (f : Header → ℕ) (parts : Parts) (ps : List ℕ) → weight f (picked parts ps) ≡ sum_of (λ p. weight_in f (part_at parts p)) ps
weight-picked f parts [] = refl
weight-picked f parts (p ∷ ps) = weight-added f (part_at parts p) (picked parts ps) ∙ ap (λ n. weight_in f (part_at parts p) + n) (weight-picked f parts ps)

pub count-next : (h : Header) (body : Body) (parts : Parts) → count (part_then h body parts) ≡ suc (count parts)
count-next h body parts = omega arith

same-sums : (g f : ℕ → ℕ) (k : ℕ) → ((p : ℕ) → g (suc p) ≡ f (suc p)) → sum_to g k ≡ sum_to f k
same-sums g f zero h = refl
same-sums g f (suc k) h = let a : g (suc k) ≡ f (suc k) = h k in let r : sum_to g k ≡ sum_to f k = same-sums g f k h in omega (arith, a, r)

weight-numbered : (f : Header → ℕ) (parts : Parts) → weight f parts ≡ sum_to (λ p. weight_in f (part_at parts p)) (count parts)
weight-numbered f no_parts = refl
weight-numbered f (part_then h body parts) =
    ap (λ n. f h + n) (weight-numbered f parts ∙ same-sums (λ p. weight_in f (part_at parts p)) (λ p. weight_in f (part_at (part_then h body parts) (suc p))) (count parts) (λ p. refl))
    ∙ sym (sum-first (λ p. weight_in f (part_at (part_then h body parts) p)) (count parts))
    ∙ ap (sum_to (λ p. weight_in f (part_at (part_then h body parts) p))) (sym (count-next h body parts))

-- each of the parts once, in any order, weighs as much as all
pub weight-all : (f : Header → ℕ) (parts : Parts) (ps : List ℕ) → ((i p : ℕ) → slice_get ps i ≡ Some p → IsPart (count parts) p)
    → ((i j p : ℕ) → slice_get ps i ≡ Some p → slice_get ps j ≡ Some p → i ≡ j) → ((q : ℕ) → IsPart (count parts) q → (i : ℕ) × (slice_get ps i ≡ Some q))
    → weight f (picked parts (reverse ps)) ≡ weight f parts
weight-all f parts ps within once each =
    weight-picked f parts (reverse ps) ∙ sum-reverse (λ p. weight_in f (part_at parts p)) ps ∙ sum-some (count parts) ps (λ p. weight_in f (part_at parts p)) within once (λ q i. inl (each q i)) ∙ sym (weight-numbered f parts)

-- Each part is there

pub there : (parts : Parts) (p : ℕ) → IsPart (count parts) p → (h : Header) × (body : Body) × (part_at parts p ≡ Some (h, body))
there no_parts p i = absurd (omega (arith, i.low, i.high))
there (part_then h body parts) zero i = absurd (let low : 1 ≤ 0 = i.low in omega (arith, low))
there (part_then h body parts) (suc zero) i = (h, body, refl)
there (part_then h body parts) (suc (suc p)) i = there parts (suc p) (record { low = omega arith; high = let high : suc (suc p) ≤ 1 + count parts = i.high in omega (arith, high) })

pub weight-part : (f : Header → ℕ) (parts : Parts) (p : ℕ) (h : Header) (body : Body) → part_at parts p ≡ Some (h, body) → f h ≤ weight f parts
weight-part f no_parts p h body e = absurd (let no : ⊥ = cc in no)
weight-part f (part_then g c parts) zero h body e = absurd (let no : ⊥ = cc in no)
weight-part f (part_then g c parts) (suc zero) h body e = let s : g ≡ h = (same-pair (g, c) (h, body) e).0 in let t : f g ≡ f h = ap f s in omega (arith, t)
weight-part f (part_then g c parts) (suc (suc p)) h body e = let r : f h ≤ weight f parts = weight-part f parts (suc p) h body e in omega (arith, r)

-- A name's number

module _ (side : Header → List Ident) (x : Name) where
  uses : Parts → ℕ
  uses parts = weight (λ h. times x (side h)) parts

  -- a name that stands on this side of a part has the part's number
  pub numbered : (parts : Parts) → 1 ≤ weight (λ h. times x (side h)) parts
      → (h : Header) × (body : Body) × (part_at parts (number_of side x parts) ≡ Some (h, body)) × (is_among x (names_of (side h)) ≡ true) × IsPart (count parts) (number_of side x parts)
  numbered no_parts some = absurd (omega (arith, some))
  numbered (part_then h body parts) some = elim (split (is_among x (names_of (side h)))) [
    | inl i ↦ rw i (h, body, refl, i, record { low = omega arith; high = omega arith })
    | inr i ↦ rw i (
        let e : times x (side h) ≡ 0 = among-none x (side h) i in
        go (number_of side x parts) (numbered parts (omega (arith, e, some))))
  ]
    where
      go : (n : ℕ) → (g : Header) × (c : Body) × (part_at parts n ≡ Some (g, c)) × (is_among x (names_of (side g)) ≡ true) × IsPart (count parts) n
          → (g : Header) × (c : Body) × (part_at (part_then h body parts) (one_up n) ≡ Some (g, c)) × (is_among x (names_of (side g)) ≡ true) × IsPart (count (part_then h body parts)) (one_up n)
      go zero (g, c, at, i, part) = absurd (let low : 1 ≤ 0 = part.low in omega (arith, low))
      go (suc n) (g, c, at, i, part) = (g, c, at, i, record { low = omega arith; high = let high : suc n ≤ count parts = part.high in omega (arith, high) })

  -- and no other
  pub one-number : (parts : Parts) → weight (λ h. times x (side h)) parts ≤ 1 → (p : ℕ) (h : Header) (body : Body) → part_at parts p ≡ Some (h, body) → is_among x (names_of (side h)) ≡ true
      → p ≡ number_of side x parts
  one-number no_parts few p h body e i = absurd (let no : ⊥ = cc in no)
  one-number (part_then g c parts) few zero h body e i = absurd (let no : ⊥ = cc in no)
  one-number (part_then g c parts) few (suc zero) h body e i =
      let s : g ≡ h = (same-pair (g, c) (h, body) e).0 in
      rw (subst (λ z. is_among x (names_of (side z)) ≡ true) (sym s) i) refl
  one-number (part_then g c parts) few (suc (suc p)) h body e i = elim (split (is_among x (names_of (side g)))) [
    | inl j ↦ absurd (
        let a : 1 ≤ times x (side g) = among-some x (side g) j in
        let b : 1 ≤ times x (side h) = among-some x (side h) i in
        let d : times x (side h) ≤ weight (λ z. times x (side z)) parts = weight-part (λ z. times x (side z)) parts (suc p) h body e in
        omega (arith, a, b, d, few))
    | inr j ↦ rw j (ap one_up (one-number parts (omega (arith, few)) (suc p) h body e i))
  ]

-- What holds of each part holds of those that are picked

names-one : (parts : Parts) → NamesDiffer parts → (p : ℕ) (h : Header) (c : Body) → part_at parts p ≡ Some (h, c) → NamesDiffer (part_then h c no_parts)
names-one no_parts d p h c e = absurd (let no : ⊥ = cc in no)
names-one (part_then g b parts) d zero h c e = absurd (let no : ⊥ = cc in no)
names-one (part_then g b parts) d (suc zero) h c e = subst (λ z. NamesDiffer (part_then z c no_parts)) (same-pair (g, b) (h, c) e).0 (d.0, tt)
names-one (part_then g b parts) d (suc (suc p)) h c e = names-one parts d.1 (suc p) h c e

pub names-picked : (parts : Parts) → NamesDiffer parts → (ps : List ℕ) → NamesDiffer (picked parts ps)
names-picked parts differ [] = tt
names-picked parts differ (p ∷ ps) = added (part_at parts p) (names-picked parts differ ps) (λ h c e. names-one parts differ p h c e)
  where
    added : (o : Option (Header × Body)) → NamesDiffer (picked parts ps) → ((h : Header) (c : Body) → o ≡ Some (h, c) → NamesDiffer (part_then h c no_parts)) → NamesDiffer (add_part o (picked parts ps))
    added None r f = r
    added (Some q) r f = ((f q.0 q.1 refl).0, r)

module _ (w : World) (vs : Vars) (links : Links) (held : Held) where
  fine-one : (parts : Parts) → PartsAreWellFormed w vs links held parts → (p : ℕ) (h : Header) (c : Body) → part_at parts p ≡ Some (h, c) → IsWellFormed w vs (share links held h) c
  fine-one no_parts d p h c e = absurd (let no : ⊥ = cc in no)
  fine-one (part_then g b parts) d zero h c e = absurd (let no : ⊥ = cc in no)
  fine-one (part_then g b parts) d (suc zero) h c e =
      let (s, t) = same-pair (g, b) (h, c) e in
      subst (λ z. IsWellFormed w vs (share links held h) z) t (subst (λ z. IsWellFormed w vs (share links held z) b) s d.0)
  fine-one (part_then g b parts) d (suc (suc p)) h c e = fine-one parts d.1 (suc p) h c e

  pub fine-picked : (parts : Parts) → PartsAreWellFormed w vs links held parts → (ps : List ℕ) → PartsAreWellFormed w vs links held (picked parts ps)
  fine-picked parts fine [] = tt
  fine-picked parts fine (p ∷ ps) = added (part_at parts p) (fine-picked parts fine ps) (λ h c e. fine-one parts fine p h c e)
    where
      added : (o : Option (Header × Body)) → PartsAreWellFormed w vs links held (picked parts ps) → ((h : Header) (c : Body) → o ≡ Some (h, c) → IsWellFormed w vs (share links held h) c)
          → PartsAreWellFormed w vs links held (add_part o (picked parts ps))
      added None r f = r
      added (Some q) r f = (f q.0 q.1 refl, r)
