-- How many parts pass a test.
use Rattle.std.proofs.Common.{◌≡◌, ℕ, zero, suc, ◌+◌, ◌≤◌, inl, inr, Bool, true, false, refl, sym, ap, subst, arith}
use Rattle.std.proofs.lemmas.Bool.{cases_eq}
use Rattle.campl_plug.specs.Links.{IsPart}

abbrev pub one : Bool → ℕ
one true = 1
one false = 0

-- how many of the parts 1 to k pass the test
abbrev pub passing : (ℕ → Bool) → ℕ → ℕ
passing t zero = 0
passing t (suc k) = one (t (suc k)) + passing t k

pub part-up : (k p : ℕ) → IsPart k p → IsPart (suc k) p
part-up k p h = record { low = h.low; high = omega (arith, h.high) }

pub passing-same : (s t : ℕ → Bool) (k : ℕ) → ((p : ℕ) → IsPart k p → s p ≡ t p) → passing s k ≡ passing t k
passing-same s t zero h = refl
passing-same s t (suc k) h =
    let a : one (s (suc k)) ≡ one (t (suc k)) = ap one (h (suc k) (record { low = omega arith; high = omega arith })) in
    let b : passing s k ≡ passing t k = passing-same s t k (λ p i. h p (part-up k p i)) in
    omega (arith, a, b)

-- where one part more passes, there is one more
pub passing-more : (s t : ℕ → Bool) (k x : ℕ) → IsPart k x → s x ≡ false → t x ≡ true → ((p : ℕ) → IsPart k p → (p ≡ x → ⊥) → s p ≡ t p) → passing t k ≡ suc (passing s k)
passing-more s t zero x i a b h = absurd (omega (arith, i.low, i.high))
passing-more s t (suc k) x i a b h = elim (cases_eq x (suc k)) [
  | inl e ↦
      let f : one (s (suc k)) ≡ 0 = ap one (subst (λ z. s z ≡ false) e a) in
      let g : one (t (suc k)) ≡ 1 = ap one (subst (λ z. t z ≡ true) e b) in
      let r : passing s k ≡ passing t k = passing-same s t k (λ p j. h p (part-up k p j) (λ q. absurd (omega (arith, j.high, q, e)))) in
      omega (arith, f, g, r)
  | inr e ↦
      let low : x ≤ k = omega (arith, i.high, e) in
      let f : one (s (suc k)) ≡ one (t (suc k)) = ap one (h (suc k) (record { low = omega arith; high = omega arith }) (λ q. e (sym q))) in
      let r : passing t k ≡ suc (passing s k) = passing-more s t k x (record { low = i.low; high = low }) a b (λ p j. h p (part-up k p j)) in
      omega (arith, f, r)
]

pub passing-some : (t : ℕ → Bool) (k x : ℕ) → IsPart k x → t x ≡ true → 1 ≤ passing t k
passing-some t zero x i e = absurd (omega (arith, i.low, i.high))
passing-some t (suc k) x i e = elim (cases_eq x (suc k)) [
  | inl s ↦ let g : one (t (suc k)) ≡ 1 = ap one (subst (λ z. t z ≡ true) s e) in omega (arith, g)
  | inr s ↦
      let low : x ≤ k = omega (arith, i.high, s) in
      let r : 1 ≤ passing t k = passing-some t k x (record { low = i.low; high = low }) e in
      omega (arith, r)
]

pub passing-none : (k : ℕ) → passing (λ p. false) k ≡ 0
passing-none zero = refl
passing-none (suc k) = let r : passing (λ p. false) k ≡ 0 = passing-none k in omega (arith, r)

pub passing-all : (k : ℕ) → passing (λ p. true) k ≡ k
passing-all zero = refl
passing-all (suc k) = let r : passing (λ p. true) k ≡ k = passing-all k in omega (arith, r)

pub passing-within : (t : ℕ → Bool) (k : ℕ) → passing t k ≤ k
passing-within t zero = omega arith
passing-within t (suc k) = let r : passing t k ≤ k = passing-within t k in let o : one (t (suc k)) ≤ 1 = few (t (suc k)) in omega (arith, r, o)
  where
    few : (b : Bool) → one b ≤ 1
    few true = omega arith
    few false = omega arith
