-- Numbers only grow with more digits.
use Rattle.std.proofs.Common.{◌≡◌, ℕ, ◌+◌, ◌*◌, ◌≤◌, ◌<◌, List, [], ◌∷◌, arith, false, refl}
use Rattle.std.specs.List.{fold}
use Rattle.std.proofs.lemmas.Bool.Decides.{nat_tests}
use lib.Utf8.{scalar}
use Rattle.std.specs.Prelude.{None}
use Rattle.campl_service.specs.Escapes.{character_of}
use Rattle.std.proofs.Math.Nat.{mul-le-mul_left}
use Rattle.std.proofs.Common.{length, get_or, drop, ap}
use Rattle.std.proofs.lemmas.List.{at_drop_more}

pub grown : (base : ℕ) (digit : ℕ → ℕ) (n : ℕ) (ds : List ℕ) → 1 ≤ base → n ≤ fold (λ m d. m * base + digit d) n ds
grown base digit n [] h = omega arith
grown base digit n (d ∷ ds) h =
    let more : n ≤ n * base + digit d = omega (arith, mul-le-mul_left n h) in
    let rest : n * base + digit d ≤ fold (λ m e. m * base + digit e) (n * base + digit d) ds = grown base digit (n * base + digit d) ds h in
    omega arith

pub no_scalar : (n : ℕ) → 0x10FFFF < n → scalar n ≡ false
no_scalar n h = grind (arith, nat_tests)

pub no_character : (n : ℕ) → 0x10FFFF < n → character_of n ≡ None
no_character n h = rw (no_scalar n h) refl

-- once a number is above a limit, more digits keep it above
pub above : (base : ℕ) (digit : ℕ → ℕ) (value x limit whole : ℕ) (ds : List ℕ) (i : ℕ) → 1 ≤ base → i < length ds → x ≡ get_or ds i x
    → fold (λ m d. m * base + digit d) value (drop i ds) ≡ whole → limit < value * base + digit x → limit < whole
above base digit value x limit whole ds i h here is e high =
    let step : fold (λ m d. m * base + digit d) value (drop i ds) ≡ fold (λ m d. m * base + digit d) (value * base + digit (get_or ds i x)) (drop (i + 1) ds) =
    at_drop_more (fold (λ m d. m * base + digit d) value) ds i x here in
    let rest : value * base + digit (get_or ds i x) ≤ fold (λ m d. m * base + digit d) (value * base + digit (get_or ds i x)) (drop (i + 1) ds) =
    grown base digit (value * base + digit (get_or ds i x)) (drop (i + 1) ds) h in
    let same : digit x ≡ digit (get_or ds i x) = ap digit is in
    omega arith
