-- The order of processes and services in the run of one at a time is strict and total.
use Rattle.std.specs.Prelude.{nat_lt}
use Rattle.std.proofs.Common.{◌≡◌, ◌⊎◌, inl, inr, ◌<◌, arith, true, false, ◌&&◌, [], ◌∷◌, length, refl, sym, ap, subst, ◌∙◌, true≢false, eqb, eqb-true, eq-eqb}
use Rattle.std.proofs.lemmas.Bool.{ltb-true, lt-ltb}
use Rattle.campl_machine.specs.Names.{Birth, Path, Who, Process, Service, same_birth}
use Rattle.campl_machine.proofs.Same.{same_birth-is, same_birth-refl}
use Rattle.campl_machine.proofs.Updates.{split, both}
use Rattle.campl_meaning.specs.OneAtATime.{is_birth_before, are_births_before, is_before}
use Rattle.campl_plug.proofs.Peeled.{order-cases}
use Rattle.campl_types.proofs.Truth.{or-first, or-second, or-split, and-both}

-- Births

abbrev BirthLess : Birth → Birth → Type 0
BirthLess a b = (a.step < b.step) ⊎ ((a.step ≡ b.step) × (a.place < b.place))

birth-less : (a b : Birth) → is_birth_before a b ≡ true → BirthLess a b
birth-less a b i = elim (or-split (nat_lt a.step b.step) (eqb a.step b.step && nat_lt a.place b.place) i) [
  | inl j ↦ inl (ltb-true a.step b.step j)
  | inr j ↦ let (k, h) = both (eqb a.step b.step) (nat_lt a.place b.place) j in inr (eqb-true a.step b.step k, ltb-true a.place b.place h)
]

less-birth : (a b : Birth) → BirthLess a b → is_birth_before a b ≡ true
less-birth a b (inl i) = or-first (nat_lt a.step b.step) (eqb a.step b.step && nat_lt a.place b.place) (lt-ltb a.step b.step i)
less-birth a b (inr (i, j)) =
    or-second (nat_lt a.step b.step) (eqb a.step b.step && nat_lt a.place b.place) (and-both (eqb a.step b.step) (nat_lt a.place b.place) (eq-eqb a.step b.step i) (lt-ltb a.place b.place j))

birth-trans : (a b c : Birth) → BirthLess a b → BirthLess b c → BirthLess a c
birth-trans a b c (inl i) (inl j) = inl (omega (arith, i, j))
birth-trans a b c (inl i) (inr (j, k)) = inl (omega (arith, i, j))
birth-trans a b c (inr (i, k)) (inl j) = inl (omega (arith, i, j))
birth-trans a b c (inr (i, k)) (inr (j, h)) = inr (i ∙ j, omega (arith, k, h))

birth-itself : (a : Birth) → BirthLess a a → ⊥
birth-itself a (inl i) = omega (arith, i)
birth-itself a (inr (i, j)) = omega (arith, j)

birth-tell : (a b : Birth) → BirthLess a b ⊎ ((a ≡ b) ⊎ BirthLess b a)
birth-tell a b = elim (order-cases a.step b.step) [
  | inl i ↦ inl (inl i)
  | inr (inr i) ↦ inr (inr (inl i))
  | inr (inl i) ↦ elim (order-cases a.place b.place) [
    | inl j ↦ inl (inr (i, j))
    | inr (inr j) ↦ inr (inr (inr (sym i, j)))
    | inr (inl j) ↦ inr (inl (same_birth-is a b (and-both (eqb a.step b.step) (eqb a.place b.place) (eq-eqb a.step b.step i) (eq-eqb a.place b.place j))))
  ]
]

-- Paths

abbrev PathLess : Path → Path → Type 0
PathLess [] q = ⊥
PathLess (a ∷ p) [] = ⊥
PathLess (a ∷ p) (b ∷ q) = BirthLess a b ⊎ ((a ≡ b) × PathLess p q)

path-less : (p q : Path) → are_births_before p q ≡ true → PathLess p q
path-less [] q i = absurd (true≢false (sym i))
path-less (a ∷ p) [] i = absurd (true≢false (sym i))
path-less (a ∷ p) (b ∷ q) i = elim (or-split (is_birth_before a b) (same_birth a b && are_births_before p q) i) [
  | inl j ↦ inl (birth-less a b j)
  | inr j ↦ let (k, h) = both (same_birth a b) (are_births_before p q) j in inr (same_birth-is a b k, path-less p q h)
]

less-path : (p q : Path) → PathLess p q → are_births_before p q ≡ true
less-path [] q h = absurd h
less-path (a ∷ p) [] h = absurd h
less-path (a ∷ p) (b ∷ q) (inl h) = or-first (is_birth_before a b) (same_birth a b && are_births_before p q) (less-birth a b h)
less-path (a ∷ p) (b ∷ q) (inr (i, h)) =
    or-second (is_birth_before a b) (same_birth a b && are_births_before p q)
    (and-both (same_birth a b) (are_births_before p q) (subst (λ z. same_birth a z ≡ true) i (same_birth-refl a)) (less-path p q h))

path-trans : (p q r : Path) → PathLess p q → PathLess q r → PathLess p r
path-trans [] q r h k = absurd h
path-trans (a ∷ p) [] r h k = absurd h
path-trans (a ∷ p) (b ∷ q) [] h k = absurd k
path-trans (a ∷ p) (b ∷ q) (c ∷ r) (inl h) (inl k) = inl (birth-trans a b c h k)
path-trans (a ∷ p) (b ∷ q) (c ∷ r) (inl h) (inr (j, k)) = inl (subst (BirthLess a) j h)
path-trans (a ∷ p) (b ∷ q) (c ∷ r) (inr (i, h)) (inl k) = inl (subst (λ z. BirthLess z c) (sym i) k)
path-trans (a ∷ p) (b ∷ q) (c ∷ r) (inr (i, h)) (inr (j, k)) = inr (i ∙ j, path-trans p q r h k)

path-itself : (p : Path) → PathLess p p → ⊥
path-itself [] h = h
path-itself (a ∷ p) (inl h) = birth-itself a h
path-itself (a ∷ p) (inr (i, h)) = path-itself p h

path-tell : (p q : Path) → length p ≡ length q → PathLess p q ⊎ ((p ≡ q) ⊎ PathLess q p)
path-tell [] [] e = inr (inl refl)
path-tell [] (b ∷ q) e = absurd (cc e)
path-tell (a ∷ p) [] e = absurd (cc e)
path-tell (a ∷ p) (b ∷ q) e = elim (birth-tell a b) [
  | inl h ↦ inl (inl h)
  | inr (inr h) ↦ inr (inr (inl h))
  | inr (inl i) ↦ elim (path-tell p q (cc e)) [
    | inl h ↦ inl (inr (i, h))
    | inr (inr h) ↦ inr (inr (inr (sym i, h)))
    | inr (inl j) ↦ inr (inl (cc (i, j)))
  ]
]

-- Processes and services

abbrev pub WhoLess : Who → Who → Type 0
WhoLess (Process p) (Process q) = (length p < length q) ⊎ ((length p ≡ length q) × PathLess p q)
WhoLess (Process p) (Service n) = Unit {0}
WhoLess (Service m) (Process q) = ⊥
WhoLess (Service m) (Service n) = m < n

pub who-less : (u v : Who) → is_before u v ≡ true → WhoLess u v
who-less (Process p) (Process q) i = elim (or-split (nat_lt (length p) (length q)) (eqb (length p) (length q) && are_births_before p q) i) [
  | inl j ↦ inl (ltb-true (length p) (length q) j)
  | inr j ↦ let (k, h) = both (eqb (length p) (length q)) (are_births_before p q) j in inr (eqb-true (length p) (length q) k, path-less p q h)
]
who-less (Process p) (Service n) i = tt
who-less (Service m) (Process q) i = absurd (true≢false (sym i))
who-less (Service m) (Service n) i = ltb-true m n i

pub less-who : (u v : Who) → WhoLess u v → is_before u v ≡ true
less-who (Process p) (Process q) (inl h) = or-first (nat_lt (length p) (length q)) (eqb (length p) (length q) && are_births_before p q) (lt-ltb (length p) (length q) h)
less-who (Process p) (Process q) (inr (i, h)) =
    or-second (nat_lt (length p) (length q)) (eqb (length p) (length q) && are_births_before p q)
    (and-both (eqb (length p) (length q)) (are_births_before p q) (eq-eqb (length p) (length q) i) (less-path p q h))
less-who (Process p) (Service n) h = refl
less-who (Service m) (Process q) h = absurd h
less-who (Service m) (Service n) h = lt-ltb m n h

pub who-trans : (u v x : Who) → WhoLess u v → WhoLess v x → WhoLess u x
who-trans (Process p) (Process q) (Process r) (inl h) (inl k) = inl (omega (arith, h, k))
who-trans (Process p) (Process q) (Process r) (inl h) (inr (j, k)) = inl (omega (arith, h, j))
who-trans (Process p) (Process q) (Process r) (inr (i, h)) (inl k) = inl (omega (arith, i, k))
who-trans (Process p) (Process q) (Process r) (inr (i, h)) (inr (j, k)) = inr (i ∙ j, path-trans p q r h k)
who-trans (Process p) (Process q) (Service n) h k = tt
who-trans (Process p) (Service m) (Process r) h k = absurd k
who-trans (Process p) (Service m) (Service n) h k = tt
who-trans (Service m) (Process q) x h k = absurd h
who-trans (Service m) (Service n) (Process r) h k = absurd k
who-trans (Service m) (Service n) (Service o) h k = omega (arith, h, k)

pub who-itself : (v : Who) → WhoLess v v → ⊥
who-itself (Process p) (inl h) = omega (arith, h)
who-itself (Process p) (inr (i, h)) = path-itself p h
who-itself (Service n) h = omega (arith, h)

pub who-tell : (u v : Who) → WhoLess u v ⊎ ((u ≡ v) ⊎ WhoLess v u)
who-tell (Process p) (Process q) = elim (order-cases (length p) (length q)) [
  | inl h ↦ inl (inl h)
  | inr (inr h) ↦ inr (inr (inl h))
  | inr (inl i) ↦ elim (path-tell p q i) [
    | inl h ↦ inl (inr (i, h))
    | inr (inr h) ↦ inr (inr (inr (sym i, h)))
    | inr (inl j) ↦ inr (inl (ap Process j))
  ]
]
who-tell (Process p) (Service n) = inl tt
who-tell (Service m) (Process q) = inr (inr tt)
who-tell (Service m) (Service n) = elim (order-cases m n) [ inl h ↦ inl h | inr (inr h) ↦ inr (inr h) | inr (inl i) ↦ inr (inl (ap Service i)) ]

-- In tests

pub before-itself : (v : Who) → is_before v v ≡ false
before-itself v = elim (split (is_before v v)) [ inl i ↦ absurd (who-itself v (who-less v v i)) | inr i ↦ i ]

-- what isn't before a later one isn't before an earlier one
pub not-before : (v u x : Who) → is_before u x ≡ true → is_before v x ≡ false → is_before v u ≡ false
not-before v u x t f = elim (split (is_before v u)) [
  | inl i ↦ absurd (true≢false (sym (less-who v x (who-trans v u x (who-less v u i) (who-less u x t))) ∙ f))
  | inr i ↦ i
]

pub one-first : (u v : Who) → is_before u v ≡ false → is_before v u ≡ false → u ≡ v
one-first u v i j = elim (who-tell u v) [
  | inl h ↦ absurd (true≢false (sym (less-who u v h) ∙ i))
  | inr (inl e) ↦ e
  | inr (inr h) ↦ absurd (true≢false (sym (less-who v u h) ∙ j))
]
