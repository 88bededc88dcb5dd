-- What `parse` says of digits.
use Rattle.std.proofs.Common.{◌≡◌, ℕ, ◌<◌, ◌≤◌, ◌^◌, Bool, true, false, ◌&&◌, List, length, Result, Err, Option, Some, None, if◌then◌else◌, refl, sym, ap, subst, arith, ltb-true, lt-ltb, leb-true, le-leb}
use Rattle.std.specs.Prelude.{nat_lt, nat_le}
use Rattle.std.specs.Str.{all_ascii_digits}
use Rattle.std.specs.Str.Parse.{ParsesUnsigned, digits_value}
use Rattle.std.proofs.lemmas.Str.Parse.{IsNumeralModel, numerals_by_value, tells_all_ascii_digits, parse_digits}
use Rattle.std.proofs.lemmas.Bool.{and_parts}
use Rattle.campl_orders.specs.Numbers.{IsNumber, IsNumberOr, is_numeral, number_in, number_or}

own : IsNumeralModel (λ ds. all_ascii_digits ds ≡ true) (digits_value 10)
own = numerals_by_value (λ ds. all_ascii_digits ds ≡ true) tells_all_ascii_digits

not_lt : (n : ℕ) → (n < 2 ^ 32 → ⊥) → 2 ^ 32 ≤ n
not_lt n h = omega (arith, h)

-- digits that are refused write a number that doesn't fit
pub too_large : {E : Type 0} (word : List ℕ) (r : Result ℕ E) (e : E) → ParsesUnsigned 32 10 word r → r ≡ Err e → is_numeral word ≡ true → 2 ^ 32 ≤ digits_value 10 word
too_large word r e parsed is numeral =
    let outer = and_parts (nat_lt 0 (length word) && nat_le (length word) 20) (all_ascii_digits word) numeral in
    let inner = and_parts (nat_lt 0 (length word)) (nat_le (length word) 20) outer.0 in
    let refused : (0 < length word) × (digits_value 10 word < 2 ^ 32) → ⊥ = parse_digits own 32 word (Err e) (subst (ParsesUnsigned 32 10 word) is parsed) outer.1 in
    let some : 0 < length word = ltb-true 0 (length word) inner.0 in
    not_lt (digits_value 10 word) (λ fits. refused (some, fits))

-- ---- numbers in words

pub number-computes : (low high : ℕ) (word : List ℕ) (n : ℕ) → IsNumber low high word n → number_in low high word ≡ Some n
number-computes low high word n is =
    let most : digits_value 10 word ≤ high = omega (arith, is.most, is.value) in
    let least : low ≤ digits_value 10 word = omega (arith, is.least, is.value) in
    rw (lt-ltb 0 (length word) is.numeral.0, le-leb (length word) 20 is.few, own.from word is.numeral.1, le-leb low (digits_value 10 word) least, le-leb (digits_value 10 word) high most) (ap Some is.value)

pub computes-number : (low high : ℕ) (word : List ℕ) (n : ℕ) → number_in low high word ≡ Some n → IsNumber low high word n
computes-number low high word n = by _ refl
  where
    by : (b : Bool) → (is_numeral word && nat_le low (digits_value 10 word) && nat_le (digits_value 10 word) high) ≡ b → (if b then Some (digits_value 10 word) else None) ≡ Some n → IsNumber low high word n
    by false i e = absurd (let no : ⊥ = cc in no)
    by true i e =
        let outer = and_parts (is_numeral word && nat_le low (digits_value 10 word)) (nat_le (digits_value 10 word) high) i in
        let middle = and_parts (is_numeral word) (nat_le low (digits_value 10 word)) outer.0 in
        let digits = and_parts (nat_lt 0 (length word) && nat_le (length word) 20) (all_ascii_digits word) middle.0 in
        let count = and_parts (nat_lt 0 (length word)) (nat_le (length word) 20) digits.0 in
        let value : digits_value 10 word ≡ n = cc in
        let least = leb-true low (digits_value 10 word) middle.1 in
        let most = leb-true (digits_value 10 word) high outer.1 in
        record {
          numeral = (ltb-true 0 (length word) count.0, own.to word digits.1);
          few = leb-true (length word) 20 count.1;
          value = value;
          least = omega (arith, least, value);
          most = omega (arith, most, value);
        }

pub or-computes : (low high usual : ℕ) (word : Option (List ℕ)) (n : ℕ) → IsNumberOr low high usual word n → number_or low high usual word ≡ Some n
or-computes low high usual (Some word) n is = number-computes low high word n is
or-computes low high usual None n is = ap Some (sym is)

pub computes-or : (low high usual : ℕ) (word : Option (List ℕ)) (n : ℕ) → number_or low high usual word ≡ Some n → IsNumberOr low high usual word n
computes-or low high usual (Some word) n e = computes-number low high word n e
computes-or low high usual None n e = let same : usual ≡ n = cc in sym same
