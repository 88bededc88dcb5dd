-- Numbers in the words of a command line.
use Rattle.std.specs.Prelude.{◌≡◌, ℕ, ◌≤◌, Bool, ◌&&◌, nat_le, nat_lt, List, length, Option, Some, None, if◌then◌else◌}
use Rattle.std.specs.Str.{all_ascii_digits}
use Rattle.std.specs.Str.Parse.{IsNumeral, digits_value}

-- the word is one to twenty digits, whose value is the number, from `low` to `high`
pub record IsNumber (low high : ℕ) (word : List ℕ) (n : ℕ) : Type 0 where
  pub numeral : IsNumeral 10 word
  pub few : length word ≤ 20
  pub value : digits_value 10 word ≡ n
  pub least : low ≤ n
  pub most : n ≤ high

-- the same, and without a word the usual number
abbrev pub IsNumberOr : (low high usual : ℕ) → Option (List ℕ) → ℕ → Type 0
IsNumberOr low high usual (Some word) n = IsNumber low high word n
IsNumberOr low high usual None n = n ≡ usual

-- ---- computed

abbrev pub is_numeral : List ℕ → Bool
is_numeral word = nat_lt 0 (length word) && nat_le (length word) 20 && all_ascii_digits word

abbrev pub number_in : (low high : ℕ) → List ℕ → Option ℕ
number_in low high word = if is_numeral word && nat_le low (digits_value 10 word) && nat_le (digits_value 10 word) high then Some (digits_value 10 word) else None

abbrev pub number_or : (low high usual : ℕ) → Option (List ℕ) → Option ℕ
number_or low high usual (Some word) = number_in low high word
number_or low high usual None = Some usual
