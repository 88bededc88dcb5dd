-- Functions that are changed at one number, and options.
use Rattle.std.proofs.Common.{◌≡◌, ◌≢◌, ◌⊎◌, inl, inr, ℕ, Bool, true, false, List, [], ◌∷◌, ◌++◌, Option, Some, None, IsSome, IfSome, eqb, refl, sym, ap, subst, ◌∙◌, eq-eqb, ne_eqb, eqb-true, cond, true≢false}
use Rattle.std.specs.List.{AllByRecursion}
use Rattle.std.specs.Option.{IsSomeAnd}
use Rattle.campl_machine.specs.Machine.{Lies}
use Rattle.campl_cells.specs.Parts.{put, written}

pub split : (b : Bool) → (b ≡ true) ⊎ (b ≡ false)
split true = inl refl
split false = inr refl

pub same : (a b : ℕ) → (a ≡ b) ⊎ (a ≢ b)
same a b = elim (split (eqb a b)) [
  | inl e ↦ inl (eqb-true a b e)
  | inr e ↦ inr (λ k. true≢false (sym (eq-eqb a b k) ∙ e))
]

pub put-here : {A : Type 0} (i : ℕ) (x : A) (f : ℕ → A) → put i x f i ≡ x
put-here i x f = ap (λ b. cond b x (f i)) (eq-eqb i i refl)

pub put-at : {A : Type 0} (i k : ℕ) (x : A) (f : ℕ → A) → i ≡ k → put i x f k ≡ x
put-at i k x f e = ap (λ b. cond b x (f k)) (eq-eqb i k e)

pub put-else : {A : Type 0} (i k : ℕ) (x : A) (f : ℕ → A) → i ≢ k → put i x f k ≡ f k
put-else i k x f n = ap (λ b. cond b x (f k)) (ne_eqb i k n)

-- what holds at the number and elsewhere holds of the changed function
pub put-both : {A : Type 0} (P : ℕ → A → Type 0) (i : ℕ) (x : A) (f : ℕ → A) (k : ℕ) → P i x → (i ≢ k → P k (f k)) → P k (put i x f k)
put-both P i x f k h g = elim (same i k) [
  | inl e ↦ subst (P k) (sym (put-at i k x f e)) (subst (λ z. P z x) e h)
  | inr n ↦ subst (P k) (sym (put-else i k x f n)) (g n)
]

-- Options

pub if-all : {A : Type 0} (P : A → Type 0) (o : Option A) → ((a : A) → o ≡ Some a → P a) → IfSome o P
if-all P None h = tt
if-all P (Some a) h = h a refl

pub if-here : {A : Type 0} (P : A → Type 0) (o : Option A) (a : A) → o ≡ Some a → IfSome o P → P a
if-here P None a e h = absurd (cc e)
if-here P (Some b) a e h = let f : b ≡ a = cc e in subst P f h

pub if-then : {A : Type 0} (P Q : A → Type 0) (o : Option A) → ((a : A) → o ≡ Some a → P a → Q a) → IfSome o P → IfSome o Q
if-then P Q None h k = tt
if-then P Q (Some a) h k = h a refl k

pub and-then : {A : Type 0} (P Q : A → Type 0) (o : Option A) → ((a : A) → P a → Q a) → IsSomeAnd o P → IsSomeAnd o Q
and-then P Q None h k = k
and-then P Q (Some a) h k = h a k

pub and-there : {A : Type 0} (P : A → Type 0) (o : Option A) → IsSomeAnd o P → IsSome o
and-there P None k = absurd k
and-there P (Some a) k = refl

pub is-there : {A : Type 0} (o : Option A) (a : A) → o ≡ Some a → IsSome o
is-there o a e = rw e refl

-- what is in use isn't free
pub not-free : {A : Type 0} (f : ℕ → Option A) (i k : ℕ) → f i ≡ None → IsSome (f k) → i ≢ k
not-free {A} f i k e h q = let a : f k ≡ None = ap f (sym q) ∙ e in let b : IsSome {T = A} None = subst IsSome a h in let z : ⊥ = cc b in z

-- Lists

pub all-append : {A : Type 0} (P : A → Type 0) (xs ys : List A) → AllByRecursion P xs → AllByRecursion P ys → AllByRecursion P (xs ++ ys)
all-append P [] ys h k = k
all-append P (x ∷ xs) ys h k = (h.0, all-append P xs ys h.1 k)

pub all-wider : {A : Type 0} (P Q : A → Type 0) → ((x : A) → P x → Q x) → (xs : List A) → AllByRecursion P xs → AllByRecursion Q xs
all-wider P Q f [] h = tt
all-wider P Q f (x ∷ xs) h = (f x h.0, all-wider P Q f xs h.1)

-- Lists that are written

pub put-keeps : {A : Type 0} (i : ℕ) (x : A) (f : ℕ → Option A) (k : ℕ) → IsSome (f k) → IsSome (put i (Some x) f k)
put-keeps i x f k h = put-both (λ k o. IsSome (f k) → IsSome o) i (Some x) f k (λ h. refl) (λ ne h. h) h

pub put-there : {A : Type 0} (i : ℕ) (x : A) (f : ℕ → Option A) → IsSome (put i (Some x) f i)
put-there i x f = subst IsSome (sym (put-here i (Some x) f)) refl

pub written-keeps : {A : Type 0} (es : List (ℕ × A)) (f : ℕ → Option A) (k : ℕ) → IsSome (f k) → IsSome (written es f k)
written-keeps [] f k h = h
written-keeps (e ∷ es) f k h = put-keeps e.0 e.1 (written es f) k (written-keeps es f k h)

pub written-lies : {A : Type 0} (es : List (ℕ × A)) (f : ℕ → Option A) (k : ℕ) → Lies es k → IsSome (written es f k)
written-lies [] f k l = absurd l
written-lies (e ∷ es) f k (inl q) = subst (λ k. IsSome (put e.0 (Some e.1) (written es f) k)) q (put-there e.0 e.1 (written es f))
written-lies (e ∷ es) f k (inr l) = put-keeps e.0 e.1 (written es f) k (written-lies es f k l)

-- what is there was there, or is written
pub written-from : {A : Type 0} (es : List (ℕ × A)) (f : ℕ → Option A) (k : ℕ) → IsSome (written es f k) → IsSome (f k) ⊎ Lies es k
written-from [] f k h = inl h
written-from (e ∷ es) f k h = elim (same e.0 k) [
  | inl q ↦ inr (inl q)
  | inr n ↦ elim (written-from es f k (subst IsSome (put-else e.0 k (Some e.1) (written es f) n) h)) [ inl a ↦ inl a | inr l ↦ inr (inr l) ]
]

pub written-else : {A : Type 0} (es : List (ℕ × A)) (f : ℕ → Option A) (k : ℕ) → (Lies es k → ⊥) → written es f k ≡ f k
written-else [] f k n = refl
written-else (e ∷ es) f k n = put-else e.0 k (Some e.1) (written es f) (λ q. n (inl q)) ∙ written-else es f k (λ l. n (inr l))

pub written-append : {A : Type 0} (es fs : List (ℕ × A)) (f : ℕ → Option A) → written (es ++ fs) f ≡ written es (written fs f)
written-append [] fs f = refl
written-append (e ∷ es) fs f = ap (put e.0 (Some e.1)) (written-append es fs f)
