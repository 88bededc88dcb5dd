-- What an accepted line says, under any names, and that the line that is written says the same.
use Rattle.std.proofs.Common.{◌≡◌, inl, inr, refl, sym, ap, ◌∙◌, ℕ, zero, suc, ◌+◌, ◌<◌, ◌≤◌, arith, Bool, true, false, List, [], ◌∷◌, ◌++◌, length, take, drop, Option, Some, None, Ok, Err, length-append}
use Rattle.std.specs.Prelude.{◌==◌, ◌⊎◌, not, cond, nat_le, nat_lt, if◌then◌else◌, codes}
use Rattle.std.specs.List.{prefix_len}
use Rattle.std.proofs.lemmas.Bool.Decides.{nat_tests}
use Rattle.campl_value.specs.Shown.{shown_text}
use Rattle.campl_service.specs.declared.limits.TheConstants.{TEXT_MAX, NAME_MAX}
use Rattle.campl_service.specs.declared.entry.Version.{Version}
use Rattle.campl_service.specs.declared.entry.Version.TheVariants.{Two}
use Rattle.campl_service.specs.declared.entry.Entry.{Entry}
use Rattle.campl_service.specs.declared.fault.ScriptFault.TheVariants.{UnknownChannel, LineTooLong, NoColon, TooManyLines}
use Rattle.campl_service.specs.Escapes.{unescaped}
use Rattle.campl_service.specs.Reading.{Said, most_lines, most_characters, colon_at, without_space, text_meant, judged_text, judged_channel, judged_content, judged_line, place_of_any}
use Rattle.campl_service.specs.Migration.{name_of}
use Rattle.campl_migrate_laws.proofs.Unshown.{read_back, text_short}

abbrev pub entry : List ℕ → Entry
entry text = record { channel = 0; text = text }

-- the tests that a line with a text passes
pub record Speaks (v : Version) (n : ℕ) (line text : List ℕ) : Type 0 where
  pub few : nat_lt (most_lines v) n ≡ false
  pub short : nat_lt (most_characters v) (length line) ≡ false
  pub filled : (length line == 0) ≡ false
  pub colon : nat_lt (colon_at line) (length line) ≡ true
  pub name : nat_le (length (name_of line)) NAME_MAX ≡ true
  pub meant : text_meant v (without_space (drop (colon_at line + 1) line)) ≡ Some text
  pub fits : nat_le (length text) TEXT_MAX ≡ true

-- a line that is empty, and one with a text
abbrev pub View : Version → ℕ → List ℕ → Option Entry → Type 0
View v n line said = ((nat_lt (most_lines v) n ≡ false) × ((line ≡ []) × (said ≡ None))) ⊎ ((text : List ℕ) × (Speaks v n line text × (said ≡ Some (entry text))))

-- ---- an accepted line passes the tests

abbrev Fits : List ℕ → Option Entry → Type 0
Fits text said = (nat_le (length text) TEXT_MAX ≡ true) × (said ≡ Some (entry text))

abbrev Means : Option (List ℕ) → Option Entry → Type 0
Means meant said = (text : List ℕ) × ((meant ≡ Some text) × Fits text said)

by_fit : (b : Bool) (n : ℕ) (text : List ℕ) (said : Option Entry) → ◌≡◌ {A = Said} (if b then Ok (Some (entry text)) else Err (LineTooLong n)) (Ok said) → (b ≡ true) × (said ≡ Some (entry text))
by_fit true n text said h = (refl, cc)
by_fit false n text said h = absurd cc

by_meaning : (meant : Option (List ℕ)) (n : ℕ) (said : Option Entry) → judged_text n 0 meant ≡ Ok said → Means meant said
by_meaning None n said h = absurd cc
by_meaning (Some text) n said h = (text, (refl, by_fit (nat_le (length text) TEXT_MAX) n text said h))

by_name : (b : Bool) (v : Version) (n : ℕ) (rest : List ℕ) (said : Option Entry) → judged_channel v n (if b then Some 0 else None) rest ≡ Ok said → (b ≡ true) × Means (text_meant v (without_space rest)) said
by_name true v n rest said h = (refl, by_meaning (text_meant v (without_space rest)) n said h)
by_name false v n rest said h = absurd cc

abbrev Named : Version → List ℕ → Option Entry → Type 0
Named v line said = (nat_le (length (name_of line)) NAME_MAX ≡ true) × Means (text_meant v (without_space (drop (colon_at line + 1) line))) said

by_colon : (b : Bool) (v : Version) (n : ℕ) (line : List ℕ) (said : Option Entry)
    → ◌≡◌ {A = Said} (if b then judged_channel v n (place_of_any (name_of line)) (drop (colon_at line + 1) line) else Err (NoColon n)) (Ok said) → (b ≡ true) × Named v line said
by_colon true v n line said h = (refl, by_name (nat_le (length (name_of line)) NAME_MAX) v n (drop (colon_at line + 1) line) said h)
by_colon false v n line said h = absurd cc

abbrev Filled : Version → List ℕ → Option Entry → Type 0
Filled v line said = (nat_lt (colon_at line) (length line) ≡ true) × Named v line said

by_length : (b : Bool) (v : Version) (n : ℕ) (line : List ℕ) (said : Option Entry) → ◌≡◌ {A = Said} (if b then Ok None else judged_content v place_of_any n line) (Ok said) → ((b ≡ true) × (said ≡ None)) ⊎ ((b ≡ false) × Filled v line said)
by_length true v n line said h = inl (refl, cc)
by_length false v n line said h = inr (refl, by_colon (nat_lt (colon_at line) (length line)) v n line said h)

abbrev Passed : Version → ℕ → List ℕ → Option Entry → Type 0
Passed v n line said = (((length line == 0) ≡ true) × (said ≡ None)) ⊎ (((length line == 0) ≡ false) × Filled v line said)

by_short : (b : Bool) (v : Version) (n : ℕ) (line : List ℕ) (said : Option Entry)
    → ◌≡◌ {A = Said} (if b then Err (LineTooLong n) else if length line == 0 then Ok None else judged_content v place_of_any n line) (Ok said) → (b ≡ false) × Passed v n line said
by_short true v n line said h = absurd cc
by_short false v n line said h = (refl, by_length (length line == 0) v n line said h)

by_few : (b : Bool) (v : Version) (n : ℕ) (line : List ℕ) (said : Option Entry)
    → ◌≡◌ {A = Said} (if b then Err (TooManyLines n) else if nat_lt (most_characters v) (length line) then Err (LineTooLong n) else if length line == 0 then Ok None else judged_content v place_of_any n line) (Ok said)
    → (b ≡ false) × ((nat_lt (most_characters v) (length line) ≡ false) × Passed v n line said)
by_few true v n line said h = absurd cc
by_few false v n line said h = (refl, by_short (nat_lt (most_characters v) (length line)) v n line said h)

nothing_in : (line : List ℕ) → (length line == 0) ≡ true → line ≡ []
nothing_in [] h = refl
nothing_in (c ∷ cs) h = absurd (grind (arith, nat_tests))

gathered : (v : Version) (n : ℕ) (line : List ℕ) (said : Option Entry) → nat_lt (most_lines v) n ≡ false → nat_lt (most_characters v) (length line) ≡ false → Passed v n line said → View v n line said
gathered v n line said few short (inl (none, is)) = inl (few, (nothing_in line none, is))
gathered v n line said few short (inr (filled, (colon, (name, (text, (meant, (fits, is))))))) =
    inr (text, (record { few = few; short = short; filled = filled; colon = colon; name = name; meant = meant; fits = fits }, is))

pub viewed : (v : Version) (n : ℕ) (line : List ℕ) (said : Option Entry) → judged_line v place_of_any n line ≡ Ok said → View v n line said
viewed v n line said h =
    let tests : (nat_lt (most_lines v) n ≡ false) × ((nat_lt (most_characters v) (length line) ≡ false) × Passed v n line said) = by_few (nat_lt (most_lines v) n) v n line said h in
    gathered v n line said tests.0 tests.1.0 tests.1.1

-- ---- what it says under any names

abbrev pub outcome : Option ℕ → ℕ → List ℕ → Said
outcome None n text = Err (UnknownChannel n)
outcome (Some c) n text = Ok (Some (record { channel = c; text = text }))

channel_says : (v : Version) (n : ℕ) (rest text : List ℕ) (place : Option ℕ) → text_meant v (without_space rest) ≡ Some text → nat_le (length text) TEXT_MAX ≡ true → judged_channel v n place rest ≡ outcome place n text
channel_says v n rest text None m f = refl
channel_says v n rest text (Some c) m f = rw (m, f) refl

pub line_says : (place : List ℕ → Option ℕ) (v : Version) (n : ℕ) (line text : List ℕ) → Speaks v n line text → judged_line v place n line ≡ outcome (place (name_of line)) n text
line_says place v n line text s =
    rw (s.few, s.short, s.filled, s.colon) (channel_says v n (drop (colon_at line + 1) line) text (place (name_of line)) s.meant s.fits)

-- ---- the line that is written

-- a character that isn't the colon
abbrev before_colon : ℕ → Bool
before_colon c = not (c == 58)

colon_found : (line rest : List ℕ) → prefix_len before_colon (take (prefix_len before_colon line) line ++ 58 ∷ rest) ≡ prefix_len before_colon line
colon_found [] rest = refl
colon_found (c ∷ cs) rest = by_test (c == 58) refl (colon_found cs rest)
  where
    one_more : 1 + prefix_len before_colon cs ≡ suc (prefix_len before_colon cs)
    one_more = omega arith

    by_test : (b : Bool) → (c == 58) ≡ b → prefix_len before_colon (take (prefix_len before_colon cs) cs ++ 58 ∷ rest) ≡ prefix_len before_colon cs
        → prefix_len before_colon (take (cond (not b) (1 + prefix_len before_colon cs) 0) (c ∷ cs) ++ 58 ∷ rest) ≡ cond (not b) (1 + prefix_len before_colon cs) 0
    by_test true e h = refl
    by_test false e h = rw (one_more, e) (omega (arith, h))

front_of : (xs ys : List ℕ) (k : ℕ) → k ≡ length xs → take k (xs ++ ys) ≡ xs
front_of [] ys zero e = refl
front_of [] ys (suc k) e = absurd (omega (arith, e))
front_of (x ∷ xs) ys zero e = absurd (omega (arith, e))
front_of (x ∷ xs) ys (suc k) e = ap (λ rest. x ∷ rest) (front_of xs ys k (omega (arith, e)))

behind_of : (xs : List ℕ) (y : ℕ) (ys : List ℕ) (k : ℕ) → k ≡ length xs → drop (k + 1) (xs ++ y ∷ ys) ≡ ys
behind_of [] y ys zero e = refl
behind_of [] y ys (suc k) e = absurd (omega (arith, e))
behind_of (x ∷ xs) y ys zero e = absurd (omega (arith, e))
behind_of (x ∷ xs) y ys (suc k) e =
    let one_more : suc k + 1 ≡ suc (k + 1) = omega arith in
    rw one_more (behind_of xs y ys k (omega (arith, e)))

-- its text is behind the name
abbrev pub new_line : List ℕ → List ℕ → List ℕ
new_line line text = name_of line ++ (codes ": " ++ shown_text text)

name_length : (line : List ℕ) → nat_lt (colon_at line) (length line) ≡ true → length (name_of line) ≡ colon_at line
name_length line h =
    let within : colon_at line < length line = grind (arith, nat_tests) in
    take_length (colon_at line) line within
  where
    take_length : (k : ℕ) (xs : List ℕ) → k < length xs → length (take k xs) ≡ k
    take_length zero xs h = refl
    take_length (suc k) [] h = absurd (omega (arith, h))
    take_length (suc k) (x ∷ xs) h = ap suc (take_length k xs (omega (arith, h)))

pub same_name : (v : Version) (n : ℕ) (line text : List ℕ) → Speaks v n line text → name_of (new_line line text) ≡ name_of line
same_name v n line text s =
    let at : colon_at (new_line line text) ≡ length (name_of line) = colon_found line (32 ∷ shown_text text) ∙ sym (name_length line s.colon) in
    front_of (name_of line) (codes ": " ++ shown_text text) (colon_at (new_line line text)) at

pub new_speaks : (v : Version) (n m : ℕ) (line text : List ℕ) → Speaks v n line text → nat_lt (most_lines Two) m ≡ false → Speaks Two m (new_line line text) text
new_speaks v n m line text s few =
    let at : colon_at (new_line line text) ≡ length (name_of line) = colon_found line (32 ∷ shown_text text) ∙ sym (name_length line s.colon) in
    let long : length (new_line line text) ≡ length (name_of line) + (2 + length (shown_text text)) = omega (arith, length-append (name_of line) (codes ": " ++ shown_text text)) in
    let text_fits : length text ≤ 1024 = grind (arith, nat_tests, s.fits) in
    let name_fits : length (name_of line) ≤ 64 = grind (arith, nat_tests, s.name) in
    let whole : length (new_line line text) ≤ 8192 = omega (arith, long, text_fits, name_fits, text_short text) in
    record {
      few = few;
      short = grind (arith, nat_tests, whole);
      filled = grind (arith, nat_tests, long);
      colon = grind (arith, nat_tests, long, at);
      name = ap (λ name. nat_le (length name) NAME_MAX) (same_name v n line text s) ∙ s.name;
      meant = ap (λ rest. unescaped (without_space rest)) (behind_of (name_of line) 58 (32 ∷ shown_text text) (colon_at (new_line line text)) at) ∙ read_back text;
      fits = s.fits;
    }
