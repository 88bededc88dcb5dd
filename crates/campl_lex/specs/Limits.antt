-- The limits of tokens. The constants of the code are proved to be these numbers.
use Rattle.std.specs.Prelude.{ℕ}

-- how many characters a name has at most
abbrev pub longest_name : ℕ
longest_name = 64

-- how many characters a text has at most, an escape counted as the one that it stands for
abbrev pub longest_text : ℕ
longest_text = 1024

-- the greatest number
abbrev pub greatest_number : ℕ
greatest_number = 9223372036854775807
