-- The tests of names say whether the names are equal.
use Rattle.std.proofs.Common.{◌≡◌, ℕ, true, [], ◌∷◌, ◌&&◌, eqb, refl, ap, eq-eqb, eqb-true, ap₂}
use Rattle.campl_machine.specs.Names.{Birth, Path, Half, First, Second, End, Who, Process, Service, same_birth, same_path, same_half, same_end, same_who}
use Rattle.campl_machine.proofs.Updates.{both}

-- births that pass the test are equal
pub same_birth-is : (a b : Birth) → same_birth a b ≡ true → a ≡ b
same_birth-is a b e =
    let h : (eqb a.step b.step ≡ true) × (eqb a.place b.place ≡ true) = both _ _ e in
    let s : a.step ≡ b.step = eqb-true a.step b.step h.0 in
    let t : a.place ≡ b.place = eqb-true a.place b.place h.1 in
    λ i. record { step = s i; place = t i }

-- paths that pass the test are equal
pub same_path-is : (p q : Path) → same_path p q ≡ true → p ≡ q
same_path-is [] [] e = refl
same_path-is (x ∷ xs) (y ∷ ys) e =
    let h : (same_birth x y ≡ true) × (same_path xs ys ≡ true) = both _ _ e in
    ap₂ ◌∷◌ (same_birth-is x y h.0) (same_path-is xs ys h.1)
same_path-is [] (y ∷ ys) e = absurd (cc e)
same_path-is (x ∷ xs) [] e = absurd (cc e)

-- halves that pass the test are equal
same_half-is : (a b : Half) → same_half a b ≡ true → a ≡ b
same_half-is First First e = refl
same_half-is Second Second e = refl
same_half-is First Second e = absurd (cc e)
same_half-is Second First e = absurd (cc e)

-- ends that pass the test are equal
pub same_end-is : (a b : End) → same_end a b ≡ true → a ≡ b
same_end-is a b e =
    let h : (same_path a.bearer b.bearer ≡ true) × (eqb a.step b.step && (eqb a.channel b.channel && same_half a.half b.half) ≡ true) = both _ _ e in
    let h2 : (eqb a.step b.step ≡ true) × (eqb a.channel b.channel && same_half a.half b.half ≡ true) = both _ _ h.1 in
    let h3 : (eqb a.channel b.channel ≡ true) × (same_half a.half b.half ≡ true) = both _ _ h2.1 in
    let p : a.bearer ≡ b.bearer = same_path-is a.bearer b.bearer h.0 in
    let s : a.step ≡ b.step = eqb-true a.step b.step h2.0 in
    let t : a.channel ≡ b.channel = eqb-true a.channel b.channel h3.0 in
    let u : a.half ≡ b.half = same_half-is a.half b.half h3.1 in
    λ i. record { bearer = p i; step = s i; channel = t i; half = u i }

-- nodes that pass the test are equal
pub same_who-is : (a b : Who) → same_who a b ≡ true → a ≡ b
same_who-is (Process p) (Process q) e = ap Process (same_path-is p q e)
same_who-is (Service i) (Service j) e = ap Service (eqb-true i j e)
same_who-is (Process p) (Service j) e = absurd (cc e)
same_who-is (Service i) (Process q) e = absurd (cc e)

-- a number is itself
eqb-refl : (n : ℕ) → eqb n n ≡ true
eqb-refl n = eq-eqb n n refl

-- a path passes the test with itself
pub same_path-refl : (p : Path) → same_path p p ≡ true
same_path-refl [] = refl
same_path-refl (x ∷ xs) = rw (eqb-refl x.step, eqb-refl x.place) (same_path-refl xs)

-- so does a half
same_half-refl : (h : Half) → same_half h h ≡ true
same_half-refl First = refl
same_half-refl Second = refl

-- so does an end
pub same_end-refl : (e : End) → same_end e e ≡ true
same_end-refl e = rw (same_path-refl e.bearer, eqb-refl e.step, eqb-refl e.channel, same_half-refl e.half) refl

-- so does a node
pub same_who-refl : (w : Who) → same_who w w ≡ true
same_who-refl (Process p) = same_path-refl p
same_who-refl (Service i) = eqb-refl i

-- so does a birth
pub same_birth-refl : (b : Birth) → same_birth b b ≡ true
same_birth-refl b = rw (eqb-refl b.step, eqb-refl b.place) refl
