-- The labels of the links so far, and the first link that closes a cycle.
use Rattle.std.proofs.Common.{◌≡◌, ℕ, zero, suc, ◌+◌, ◌<◌, ◌≤◌, inl, inr, List, [], ◌∷◌, ◌++◌, Some, length, get_or, map, take, take_all, refl, sym, subst, ◌∙◌, arith, add-one, eq-eqb}
use Rattle.std.proofs.lemmas.List.{length-map, get_or_default}
use Rattle.std.specs.List.{slice_get, slice_index}
use Rattle.std.proofs.lemmas.Bool.{cases_eq, ne_eqb}
use Rattle.std.proofs.lemmas.Option.{slice_get_within}
use Rattle.campl_plug.specs.declared.plug.Link.{Link}
use Rattle.campl_plug.specs.Links.{IsPart, IsWithin, Joined}
use Rattle.campl_plug.specs.Tree.{AreReached, ClosesCycle, HasNoCycle, IsFirstCycle, IsLeastApart}
use Rattle.campl_plug.specs.Labels.{IsLabelling, AreLabels, relabel_of}
use Rattle.campl_plug.proofs.Places.{get-one, take-one-more}
use Rattle.campl_plug.proofs.Paths.{joined-labels}
use Rattle.campl_plug.proofs.Counts.{passing, passing-some}
use Rattle.campl_plug.proofs.Labelled.{is_root, own-labelling, own-roots, new-labelling, new-roots}

-- a label that is read
pub label-read : (k : ℕ) (labels : List ℕ) → length labels ≡ k + 1 → (p : ℕ) → IsPart k p → (x : ℕ) → x ≡ get_or labels p x → x ≡ slice_index labels p
label-read k labels size p part x e = e ∙ get_or_default labels p x 0 (let h : p ≤ k = part.high in omega (arith, h, size))

-- a label of a changed list
map-index : (r : ℕ → ℕ) → r 0 ≡ 0 → (xs : List ℕ) (p : ℕ) → get_or (map r xs) p 0 ≡ r (get_or xs p 0)
map-index r e [] p = sym e
map-index r e (x ∷ xs) zero = refl
map-index r e (x ∷ xs) (suc p) = map-index r e xs p

-- no link closes a cycle up to place i, and each has left one root fewer
pub record FreeSoFar (k : ℕ) (links : List Link) (i : ℕ) (labels : List ℕ) : Type 0 where
  pub size : length labels ≡ k + 1
  pub labelling : IsLabelling k (take i links) (slice_index labels)
  pub free : (j : ℕ) → j < i → ClosesCycle links j → ⊥
  pub roots : passing (is_root (slice_index labels)) k + i ≡ k

pub free-first : (k : ℕ) (links : List Link) (labels : List ℕ) → length labels ≡ k + 1 → ((p : ℕ) → p < k + 1 → slice_index labels p ≡ p) → FreeSoFar k links 0 labels
free-first k links labels size own =
    let o : (p : ℕ) → IsPart k p → slice_index labels p ≡ p = λ p part. own p (let h : p ≤ k = part.high in omega (arith, h)) in
    let r : passing (is_root (slice_index labels)) k ≡ k = own-roots k (slice_index labels) o in
    record {
      size = size;
      labelling = own-labelling k (slice_index labels) o;
      free = λ j h. absurd (omega (arith, h));
      roots = omega (arith, r);
    }

module _ (k : ℕ) (links : List Link) (i : ℕ) (labels : List ℕ) (s : FreeSoFar k links i labels)
    (l : Link) (at : slice_get links i ≡ Some l) (w : IsWithin k l) where
  abbrev f : ℕ → ℕ
  f = slice_index labels

  -- where the labels are the same the link is the first that closes a cycle
  pub free-closes : slice_index labels l.a ≡ slice_index labels l.b → IsFirstCycle links i
  free-closes e = record {
    closes = (l, at, s.labelling.joined l.a l.b w.a_part w.b_part e);
    first = s.free;
  }

  -- and its place is below k, since some part is a root
  pub free-place : i < k
  free-place =
      let e : slice_index labels (slice_index labels l.a) ≡ slice_index labels l.a = s.labelling.own l.a w.a_part in
      let r : 1 ≤ passing (is_root (slice_index labels)) k = passing-some (is_root (slice_index labels)) k (slice_index labels l.a) (s.labelling.inside l.a w.a_part) (eq-eqb (slice_index labels (slice_index labels l.a)) (slice_index labels l.a) e) in
      omega (arith, s.roots, r)

  pub free-more : (slice_index labels l.a ≡ slice_index labels l.b → ⊥) → FreeSoFar k links (i + 1) (map (relabel_of (slice_index labels l.a) (slice_index labels l.b)) labels)
  free-more apart = record {
    size = length-map labels r ∙ s.size;
    labelling = subst (λ z. IsLabelling k z g) (sym more) (new-labelling k (take i links) f s.labelling l w apart g is);
    free = λ j h. elim (cases_eq j i) [
      | inl e ↦ λ (m, a, joined).
          let same : m ≡ l = get-one links i m l (subst (λ z. slice_get links z ≡ Some m) e a) at in
          apart (joined-labels (take i links) f s.labelling.linked l.a l.b (subst (λ z. Joined (take i links) z.a z.b) same (subst (λ z. Joined (take z links) m.a m.b) e joined)))
      | inr e ↦ s.free j (omega (arith, h, e))
    ];
    roots =
        let fewer : passing (is_root f) k ≡ suc (passing (is_root g) k) = new-roots k (take i links) f s.labelling l w apart g is in
        omega (arith, fewer, s.roots);
  }
    where
      r : ℕ → ℕ
      r = relabel_of (slice_index labels l.a) (slice_index labels l.b)

      zero-kept : r 0 ≡ 0
      zero-kept = rw (ne_eqb 0 (slice_index labels l.a) (λ e. let low : 1 ≤ slice_index labels l.a = (s.labelling.inside l.a w.a_part).low in omega (arith, low, e))) refl

      g : ℕ → ℕ
      g = slice_index (map r labels)

      is : (p : ℕ) → g p ≡ r (f p)
      is = map-index r zero-kept labels

      more : take (i + 1) links ≡ take i links ++ l ∷ []
      more = rw add-one (take-one-more links i l at)

pub free-last : (k : ℕ) (links : List Link) (labels : List ℕ) (i : ℕ) → length links ≤ i → FreeSoFar k links i labels → AreLabels k links labels × HasNoCycle links
free-last k links labels i past s = (
  record { size = s.size; labelling = subst (λ z. IsLabelling k z (slice_index labels)) (take_all i links past) s.labelling },
  λ j c. s.free j (let (l, at, joined) = c in let h : j < length links = slice_get_within links j l at in omega (arith, h, past)) c,
)

-- a part with another label than part 1 is apart
pub least-apart : (k : ℕ) (links : List Link) (labels : List ℕ) (p : ℕ) → 1 ≤ k → AreLabels k links labels → IsPart k p
    → (slice_index labels p ≡ slice_index labels 1 → ⊥) → ((q : ℕ) → IsPart k q → q < p → slice_index labels q ≡ slice_index labels 1) → IsLeastApart k links p
least-apart k links labels p some are part other least = record {
  part = part;
  apart = λ joined. other (sym (joined-labels links (slice_index labels) are.labelling.linked 1 p joined));
  least = λ q here h. are.labelling.joined 1 q (record { low = omega arith; high = some }) here (sym (least q here h));
}

pub all-reached : (k : ℕ) (links : List Link) (labels : List ℕ) → 1 ≤ k → AreLabels k links labels → ((q : ℕ) → IsPart k q → slice_index labels q ≡ slice_index labels 1) → AreReached k links
all-reached k links labels some are same p part = are.labelling.joined 1 p (record { low = omega arith; high = some }) part (sym (same p part))
