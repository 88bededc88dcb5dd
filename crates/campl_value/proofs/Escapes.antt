-- Shown texts, byte by byte.
use Rattle.std.proofs.Common.{◌≡◌, refl, sym, ap, ap₂, subst, ◌∙◌, ℕ, suc, ◌+◌, ◌/◌, ◌%◌, ◌<◌, ◌≤◌, Bool, true, false, List, [], ◌∷◌, ◌++◌, length, get_or, take, drop, arith, append_assoc, drop-cons, cond}
use Rattle.std.specs.Prelude.{flat_map, encode_utf8, encode_utf8_all, chars, codes, if◌then◌else◌, not, ◌&&◌, nat_lt}
use Rattle.std.specs.List.{list_all, prefix_len}
use Rattle.std.specs.Str.{IsUtf8, IsAscii}
use Rattle.std.specs.Fmt.{digits, digit_glyph}
use Rattle.std.proofs.lemmas.Fmt.{hex_one_digit, hex_two_digits}
use Rattle.std.proofs.lemmas.Grind.{flat_map-append}
use Rattle.std.proofs.lemmas.Str.{encode_ascii, encodes-append, encodes-chars, encodes-IsAscii, inside_one, IsAscii-append}
use Rattle.std.proofs.lemmas.Str.Ascii.{IsAscii-nil, IsAscii-cons}
use Rattle.std.proofs.lemmas.List.{append-nil, drop_all}
use Rattle.std.proofs.lemmas.List.Sums.{prefix_len_stops}
use Rattle.std.proofs.lemmas.Bool.Decides.{nat_tests}
use Rattle.campl_value.specs.Shown.{has_escape, escape_of, shown_character, shown_text, shown_bytes, shown_byte}

-- ---- bytes and characters

-- what is above 127 has a picture
high_has_none : (c : ℕ) → 128 ≤ c → has_escape c ≡ false
high_has_none c h = grind (arith, nat_tests)

-- bytes above 127 are shown as they are
high_bytes : (bs : List ℕ) → ((k : ℕ) → k < length bs → 128 ≤ get_or bs k 0) → flat_map shown_byte bs ≡ bs
high_bytes [] h = refl
high_bytes (b ∷ bs) h = rw (high_has_none b (h 0 (omega arith))) (ap (λ rest. b ∷ rest) (high_bytes bs (λ k l. h (suc k) (omega (arith, l)))))

low_character : (c : ℕ) → c < 128 → flat_map shown_byte (encode_utf8 c) ≡ encode_utf8_all (shown_character c)
low_character c h = ap (flat_map shown_byte) (encode_ascii c h) ∙ by_test (has_escape c)
  where
    by_test : (b : Bool) → (if b then encode_utf8_all (escape_of c) else c ∷ []) ++ [] ≡ encode_utf8_all (if b then escape_of c else c ∷ [])
    by_test true = append-nil (encode_utf8_all (escape_of c))
    by_test false = sym (ap (λ bytes. bytes ++ []) (encode_ascii c h))

-- the bytes of a character above 127 are above 127
bytes_of_high : (c : ℕ) → 128 ≤ c → (k : ℕ) → k < length (encode_utf8 c) → 128 ≤ get_or (encode_utf8 c) k 0
bytes_of_high c h k l = by_test (nat_lt (get_or (encode_utf8 c) k 0) 128) refl
  where
    by_test : (b : Bool) → nat_lt (get_or (encode_utf8 c) k 0) 128 ≡ b → 128 ≤ get_or (encode_utf8 c) k 0
    by_test true e =
        let low : get_or (encode_utf8 c) k 0 < 128 = grind (arith, nat_tests) in
        absurd (omega (arith, inside_one c [] (encode_utf8 c) k (sym (append-nil (encode_utf8 c))) l low, low))
    by_test false e = grind (arith, nat_tests)

high_character : (c : ℕ) → 128 ≤ c → flat_map shown_byte (encode_utf8 c) ≡ encode_utf8_all (shown_character c)
high_character c h =
    high_bytes (encode_utf8 c) (bytes_of_high c h)
    ∙ (sym (append-nil (encode_utf8 c)) ∙ sym (ap (λ b. encode_utf8_all (if b then escape_of c else c ∷ [])) (high_has_none c h)))

one_character : (c : ℕ) → flat_map shown_byte (encode_utf8 c) ≡ encode_utf8_all (shown_character c)
one_character c = by_test (nat_lt c 128) refl
  where
    by_test : (b : Bool) → nat_lt c 128 ≡ b → flat_map shown_byte (encode_utf8 c) ≡ encode_utf8_all (shown_character c)
    by_test true e = low_character c (grind (arith, nat_tests))
    by_test false e = high_character c (grind (arith, nat_tests))

all_characters : (cs : List ℕ) → flat_map shown_byte (encode_utf8_all cs) ≡ shown_bytes cs
all_characters [] = refl
all_characters (c ∷ cs) =
    flat_map-append shown_byte (encode_utf8 c) (encode_utf8_all cs)
    ∙ (ap₂ (λ (x y : List ℕ). x ++ y) (one_character c) (all_characters cs) ∙ sym (encodes-append (shown_character c) (shown_text cs)))

-- a text is shown byte by byte
pub shown_bytes_of : (bs : List ℕ) → IsUtf8 bs → flat_map shown_byte bs ≡ shown_bytes (chars bs)
shown_bytes_of bs h = ap (flat_map shown_byte) (sym (encodes-chars bs h)) ∙ all_characters (chars bs)

-- ---- pieces without an escape

-- a byte that stands as it is
abbrev pub stays : ℕ → Bool
stays b = not (has_escape b)

-- where each byte stays, all are shown as they are
pub all_stay : (bs : List ℕ) → list_all stays bs ≡ true → flat_map shown_byte bs ≡ bs
all_stay [] h = refl
all_stay (b ∷ bs) h = by_test (has_escape b) refl (all_stay bs) h
  where
    by_test : (t : Bool) → has_escape b ≡ t → (list_all stays bs ≡ true → flat_map shown_byte bs ≡ bs) → not t && list_all stays bs ≡ true → flat_map shown_byte (b ∷ bs) ≡ b ∷ bs
    by_test true e behind k = cc k
    by_test false e behind k = rw e (ap (λ rest. b ∷ rest) (behind k))

plain_first : (bs : List ℕ) → flat_map shown_byte bs ≡ take (prefix_len stays bs) bs ++ flat_map shown_byte (drop (prefix_len stays bs) bs)
plain_first [] = refl
plain_first (b ∷ bs) = by_test (has_escape b) refl (plain_first bs)
  where
    one_more : 1 + prefix_len stays bs ≡ suc (prefix_len stays bs)
    one_more = omega arith

    by_test : (t : Bool) → has_escape b ≡ t → flat_map shown_byte bs ≡ take (prefix_len stays bs) bs ++ flat_map shown_byte (drop (prefix_len stays bs) bs)
        → flat_map shown_byte (b ∷ bs)
        ≡ take (cond (not t) (1 + prefix_len stays bs) 0) (b ∷ bs) ++ flat_map shown_byte (drop (cond (not t) (1 + prefix_len stays bs) 0) (b ∷ bs))
    by_test true e behind = refl
    by_test false e behind = rw (e, one_more) (ap (λ rest. b ∷ rest) behind)

split_there : (bs : List ℕ) (n : ℕ) → n ≡ prefix_len stays bs → flat_map shown_byte bs ≡ take n bs ++ flat_map shown_byte (drop n bs)
split_there bs n e =
    let P : ℕ → Type 0 = λ k. flat_map shown_byte bs ≡ take k bs ++ flat_map shown_byte (drop k bs) in
    subst P (sym e) (plain_first bs)

not_false : (b : Bool) → not b ≡ false → b ≡ true
not_false true h = refl
not_false false h = cc h

pub stops_there : (bs : List ℕ) (n : ℕ) → n ≡ prefix_len stays bs → n < length bs → has_escape (get_or bs n 0) ≡ true
stops_there bs n e h =
    let P : ℕ → Type 0 = λ k. stays (get_or bs k 0) ≡ false in
    not_false (has_escape (get_or bs n 0)) (subst P (sym e) (prefix_len_stops stays bs 0 (omega arith)))

-- the last piece, behind what is shown already
pub all_shown : (before now bs whole : List ℕ) (n : ℕ) → n ≡ prefix_len stays bs → n ≡ length bs → now ≡ before ++ take n bs
    → before ++ flat_map shown_byte bs ≡ whole → now ≡ whole
all_shown before now bs whole n e h is all =
    let last : flat_map shown_byte bs ≡ take n bs =
    split_there bs n e ∙ (ap (λ rest. take n bs ++ flat_map shown_byte rest) (drop_all n bs (omega arith)) ∙ append-nil (take n bs)) in
    is ∙ (ap (λ x. before ++ x) (sym last) ∙ all)

-- a piece and the escape behind it
pub more_shown : (before plain now bs behind whole : List ℕ) (n b : ℕ) → n ≡ prefix_len stays bs → n < length bs → plain ≡ before ++ take n bs
    → b ≡ get_or bs n 0 → now ≡ plain ++ encode_utf8_all (escape_of b) → behind ≡ drop (n + 1) bs
    → before ++ flat_map shown_byte bs ≡ whole → now ++ flat_map shown_byte behind ≡ whole
more_shown before plain now bs behind whole n b e h is here adds rest all =
    let x : ℕ = get_or bs n 0 in
    let tail : List ℕ = flat_map shown_byte (drop (n + 1) bs) in
    let k : suc n ≡ n + 1 = omega arith in
    let next : flat_map shown_byte bs ≡ take n bs ++ (encode_utf8_all (escape_of x) ++ tail) =
    split_there bs n e
    ∙ (ap (λ xs. take n bs ++ flat_map shown_byte xs) (drop-cons bs n 0 h)
    ∙ (ap (λ t. take n bs ++ ((if t then encode_utf8_all (escape_of x) else x ∷ []) ++ flat_map shown_byte (drop (suc n) bs))) (stops_there bs n e h)
    ∙ ap (λ m. take n bs ++ (encode_utf8_all (escape_of x) ++ flat_map shown_byte (drop m bs))) k)) in
    rw (adds, is, rest, here) (append_assoc (before ++ take n bs) (encode_utf8_all (escape_of x)) tail
    ∙ (append_assoc before (take n bs) (encode_utf8_all (escape_of x) ++ tail) ∙ (ap (λ xs. before ++ xs) (sym next) ∙ all)))

-- ---- escapes

-- an escape of a letter is two bytes
pub two_bytes : (c : ℕ) → c < 128 → encode_utf8_all (92 ∷ c ∷ []) ≡ 92 ∷ c ∷ []
two_bytes c h = encodes-IsAscii (92 ∷ c ∷ []) (IsAscii-cons 92 (c ∷ []) (omega arith) (IsAscii-cons c [] h IsAscii-nil))

glyph_is_ascii : (d : ℕ) → d < 16 → digit_glyph false d < 128
glyph_is_ascii d h = grind (arith, nat_tests)

digits_are_ascii : (n : ℕ) → n < 256 → IsAscii (digits 16 false n)
digits_are_ascii n h = by_test (nat_lt n 16) refl
  where
    by_test : (b : Bool) → nat_lt n 16 ≡ b → IsAscii (digits 16 false n)
    by_test true e =
        let low : n < 16 = grind (arith, nat_tests) in
        rw (hex_one_digit false n low) (IsAscii-cons (digit_glyph false n) [] (glyph_is_ascii n low) IsAscii-nil)
    by_test false e =
        let high : 16 ≤ n = grind (arith, nat_tests) in
        rw (hex_two_digits false n high h) (IsAscii-cons (digit_glyph false (n / 16)) (digit_glyph false (n % 16) ∷ []) (glyph_is_ascii (n / 16) (omega arith)) (IsAscii-cons (digit_glyph false (n % 16)) [] (glyph_is_ascii (n % 16) (omega arith)) IsAscii-nil))

-- an escape is ASCII
pub code_in_bytes : (n : ℕ) → n < 256 → encode_utf8_all (codes "\\u{" ++ (digits 16 false n ++ codes "}")) ≡ codes "\\u{" ++ (digits 16 false n ++ codes "}")
code_in_bytes n h =
    let rest : List ℕ = digits 16 false n ++ codes "}" in
    encodes-IsAscii (92 ∷ 117 ∷ 123 ∷ rest)
    (IsAscii-cons 92 (117 ∷ 123 ∷ rest) (omega arith) (IsAscii-cons 117 (123 ∷ rest) (omega arith) (IsAscii-cons 123 rest (omega arith)
    (IsAscii-append (digits 16 false n) (codes "}") (digits_are_ascii n h) (IsAscii-cons 125 [] (omega arith) IsAscii-nil)))))
