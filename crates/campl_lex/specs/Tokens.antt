-- The tokens of a text, as a relation between the whole text and a list of tokens or a first fault.
-- A character is its code: 9 is Tab, 10 LF, 13 CR, 32 a space, 34 ", 39 ', 45 -.
use Rattle.std.specs.Prelude.{◌≡◌, ◌≢◌, ℕ, ◌<◌, ◌≤◌, Bool, true, false, ◌==◌, not, ◌&&◌, ◌||◌, List, [], ◌∷◌, ◌++◌, length, Result, Ok, Err}
use Rattle.std.specs.Prelude.{MatchResult, Vec}
use Rattle.std.specs.List.{list_all}
use Rattle.std.specs.Str.{encode_utf8_all}
use Rattle.campl_tree.specs.declared.place.Place.{Place}
use Rattle.campl_lex.specs.Limits.{longest_name, longest_text, greatest_number}
use Rattle.campl_lex.specs.declared.token.Token.{Token}
use Rattle.campl_lex.specs.declared.spot.Spot.{Spot}
use Rattle.campl_lex.specs.declared.fault.LexFault.{LexFault}
use Rattle.campl_lex.specs.declared.fault.LexFault.TheVariants.{BadCharacter, OpenString, BadEscape, NumberTooLarge, NameTooLong, Tab, TextTooLong}
use Rattle.campl_lex.specs.declared.fault.LexFault.TheVariants.{OutOfMemory}
use Rattle.campl_lex.specs.Spot.{place_past, past, first_spot}
use Rattle.campl_lex.specs.Spelling.{is_name, is_number, number_of, is_symbol, kind_of}
use Rattle.campl_lex.specs.Literal.{IsEscape, Spells}
use Rattle.campl_lex.specs.Layout.{adds, lexeme_of}

-- the character stands first
abbrev pub begins_with : ℕ → List ℕ → Bool
begins_with c [] = false
begins_with c (x ∷ xs) = x == c

-- a space, LF, and CR directly before LF
abbrev pub is_white : ℕ → List ℕ → Bool
is_white c rest = c == 32 || c == 10 || (c == 13 && begins_with 10 rest)

-- `--` begins a comment
abbrev pub begins_comment : List ℕ → Bool
begins_comment [] = false
begins_comment (c ∷ cs) = c == 45 && begins_with 45 cs

-- the line ends before these characters
abbrev pub ends_line : List ℕ → Bool
ends_line [] = true
ends_line (c ∷ cs) = c == 10

-- characters before `rest` that are no token: one of white space, or a comment, to the end of its line
pub data IsBlank : List ℕ → List ℕ → Type 0 where
  white : (c : ℕ) (rest : List ℕ) → is_white c rest ≡ true → IsBlank (c ∷ []) rest
  comment : (w rest : List ℕ) → list_all (λ c. not (c == 10)) w ≡ true → ends_line rest ≡ true → IsBlank (45 ∷ 45 ∷ w) rest

-- the spelling of a token
pub data IsSpelling : List ℕ → Type 0 where
  name : {w : List ℕ} → is_name w ≡ true → IsSpelling w
  number : {w : List ℕ} → is_number w ≡ true → IsSpelling w
  symbol : {w : List ℕ} → is_symbol w ≡ true → IsSpelling w
  text : {w cs : List ℕ} → Spells 34 w cs → IsSpelling (34 ∷ (w ++ 34 ∷ []))
  character : {w : List ℕ} (c : ℕ) → Spells 39 w (c ∷ []) → IsSpelling (39 ∷ (w ++ 39 ∷ []))

-- w is the longest spelling that begins where it does, before `rest`
pub record IsLongest (w rest : List ℕ) : Type 0 where
  pub spelled : IsSpelling w
  pub longest : (x y : List ℕ) → x ++ y ≡ w ++ rest → IsSpelling x → length x ≤ length w

-- no limit is passed
pub record IsWithinLimits (w : List ℕ) : Type 0 where
  pub name : is_name w ≡ true → length w ≤ longest_name
  pub number : is_number w ≡ true → number_of w ≤ greatest_number
  pub text : (b cs : List ℕ) → w ≡ 34 ∷ (b ++ 34 ∷ []) → Spells 34 b cs → length cs ≤ longest_text

-- w is a token, before `rest`
pub record IsToken (w rest : List ℕ) : Type 0 where
  pub longest : IsLongest w rest
  pub no_comment : begins_comment (w ++ rest) ≡ false
  pub within : IsWithinLimits w

-- the quotes of texts and of characters
abbrev pub is_quote : ℕ → Bool
is_quote c = c == 34 || c == 39

-- the fault that stands at the front of a text, at the place p
pub data Offends (p : Place) : List ℕ → LexFault → Type 0 where
  -- a character that begins nothing
  bad_character : (c : ℕ) (rest : List ℕ) → (c == 9) ≡ false → is_quote c ≡ false → is_white c rest ≡ false → begins_comment (c ∷ rest) ≡ false
      → ((x y : List ℕ) → x ++ y ≡ c ∷ rest → IsSpelling x → ⊥) → Offends p (c ∷ rest) (BadCharacter p)
  tab : (rest : List ℕ) → Offends p (9 ∷ rest) (Tab p)
  -- in a literal: a Tab, then a backslash that begins no escape, whichever stands first
  tab_within : (q : ℕ) (w cs rest : List ℕ) → is_quote q ≡ true → Spells q w cs → Offends p (q ∷ (w ++ 9 ∷ rest)) (Tab (place_past p (q ∷ w)))
  bad_escape : (q : ℕ) (w cs rest : List ℕ) → is_quote q ≡ true → Spells q w cs → ((e y : List ℕ) (c : ℕ) → e ++ y ≡ rest → IsEscape e c → ⊥)
      → Offends p (q ∷ (w ++ 92 ∷ rest)) (BadEscape (place_past p (q ∷ w)))
  -- no closing quote on the line
  open_literal : (q : ℕ) (w cs rest : List ℕ) → is_quote q ≡ true → Spells q w cs → ends_line rest ≡ true → Offends p (q ∷ (w ++ rest)) (OpenString p)
  -- a character literal without exactly one character
  not_one_character : (w cs rest : List ℕ) → Spells 39 w cs → length cs ≢ 1 → Offends p (39 ∷ (w ++ 39 ∷ rest)) (OpenString p)
  long_text : (w cs rest : List ℕ) → Spells 34 w cs → longest_text < length cs → Offends p (34 ∷ (w ++ 34 ∷ rest)) (TextTooLong p)
  large_number : (w rest : List ℕ) → is_number w ≡ true → IsLongest w rest → greatest_number < number_of w → Offends p (w ++ rest) (NumberTooLarge p)
  long_name : (w rest : List ℕ) → is_name w ≡ true → IsLongest w rest → longest_name < length w → Offends p (w ++ rest) (NameTooLong p)

-- the token that characters are at a spot
abbrev pub token : Spot → List ℕ → Token
token s w = record { kind = kind_of w; start = s.at; stop = (past s w).at; place = s.place }

-- in the bytes of a source a token's lexeme is a spelling, which tells its kind
pub record IsSlice (source : List ℕ) (t : Token) : Type 0 where
  pub letters : List ℕ
  pub spelling : IsSpelling letters
  pub bytes_are : lexeme_of source t ≡ encode_utf8_all letters
  pub kind_is : t.kind ≡ kind_of letters

-- A text that begins at a spot has this list of tokens, or this first fault.
pub data Lexes : Spot → List ℕ → Result (List Token) LexFault → Type 0 where
  ends : {s : Spot} → Lexes s [] (Ok [])
  skips : {s : Spot} (w rest : List ℕ) {r : Result (List Token) LexFault} → IsBlank w rest → Lexes (past s w) rest r → Lexes s (w ++ rest) r
  takes : {s : Spot} (w rest : List ℕ) {r : Result (List Token) LexFault} → IsToken w rest → Lexes (past s w) rest r → Lexes s (w ++ rest) (adds (token s w ∷ []) r)
  fails : {s : Spot} {text : List ℕ} {fault : LexFault} → Offends s.place text fault → Lexes s text (Err fault)

-- what is to be answered for a text: its tokens, or its first fault; want of memory is always allowed
abbrev pub Tells : {Z : Type 0} → List ℕ → Result (Vec Token Z) LexFault → Type 0
Tells letters result = MatchResult result (λ tokens. Lexes first_spot letters (Ok tokens.items)) (λ fault. fault ≢ OutOfMemory → Lexes first_spot letters (Err fault))
