-- What stands between the first character of a text and its last.
use Rattle.std.proofs.Common.{◌≡◌, ℕ, ◌+◌, ◌-◌, ◌<◌, List, [], ◌∷◌, ◌++◌, length, take, drop, Option, Some, None, MatchOption, chars, refl, sym, ap}
use Rattle.std.proofs.Common.{◌∙◌, subst, arith, append-nil, length-append}
use Rattle.std.specs.Str.{IsUtf8}
use lib.Utf8.{encode}
use Rattle.std.proofs.lemmas.List.{take_at, drop_at}
use Rattle.std.proofs.lemmas.Str.{chars-nil, chars-append, chars_past_char, length-encode, len_utf8_bounds, IsCharBoundary-from_take, IsUtf8-drop}
use Rattle.std.proofs.lemmas.Str.{IsUtf8-past_char}
use Rattle.campl_lex.specs.Meaning.{between}

empty : (xs : List ℕ) → length xs ≡ 0 → xs ≡ []
empty [] h = refl
empty (x ∷ xs) h = absurd (omega arith)

some_bytes : (c : ℕ) → 0 < length (encode c)
some_bytes c = omega (arith, length-encode c, (len_utf8_bounds c).0)

-- the character behind a text is one character
last_one : (text rest : List ℕ) (c : ℕ) → IsUtf8 text → IsUtf8 rest → text ≡ rest ++ encode c → chars text ≡ chars rest ++ c ∷ []
last_one text rest c u v e =
    let size : length text ≡ length rest + length (encode c) = ap length e ∙ length-append rest (encode c) in
    let front : take (length rest) text ≡ rest = ap (take (length rest)) e ∙ take_at rest (encode c) (length rest) refl in
    let behind : drop (length rest) text ≡ encode c = ap (drop (length rest)) e ∙ drop_at rest (encode c) (length rest) refl in
    let edge = IsCharBoundary-from_take text (length rest) u (omega arith) (subst IsUtf8 (sym front) v) in
    let own : IsUtf8 (encode c) = subst IsUtf8 behind (IsUtf8-drop text (length rest) u edge) in
    ap chars e
    ∙ chars-append rest (encode c) v
    ∙ ap (λ t. chars rest ++ t) (chars_past_char (encode c) [] c own (sym (append-nil (encode c))) ∙ ap (λ t. c ∷ t) chars-nil)

pub one_inside : (c d : ℕ) (xs : List ℕ) → between (c ∷ (xs ++ d ∷ [])) ≡ xs
one_inside c d xs =
    ap (λ n. take n (xs ++ d ∷ [])) (let e : length (c ∷ (xs ++ d ∷ [])) - 2 ≡ length xs = omega (arith, length-append xs (d ∷ [])) in e)
    ∙ take_at xs (d ∷ []) (length xs) refl

-- one character is taken at the front, if there is one, and then one at the end
pub inside : (text middle rest : List ℕ) (first last : Option ℕ) → IsUtf8 text → IsUtf8 rest
    → MatchOption first ((length text ≡ 0) × (middle ≡ text)) (λ c. text ≡ encode c ++ middle)
    → MatchOption last ((length middle ≡ 0) × (rest ≡ middle)) (λ c. middle ≡ rest ++ encode c)
    → chars rest ≡ between (chars text)
inside text middle rest None None u v f l =
    let none : text ≡ [] = empty text f.0 in
    ap chars (l.1 ∙ f.1 ∙ none) ∙ chars-nil ∙ sym (ap between (ap chars none ∙ chars-nil))
inside text middle rest None (Some d) u v f l =
    let size : length middle ≡ length rest + length (encode d) = ap length l ∙ length-append rest (encode d) in
    let same : length middle ≡ length text = ap length f.1 in
    absurd (omega (arith, some_bytes d, f.0))
inside text middle rest (Some c) None u v f l =
    let none : middle ≡ [] = empty middle l.0 in
    let one : chars text ≡ c ∷ [] = chars_past_char text middle c u f ∙ ap (λ t. c ∷ t) (ap chars none ∙ chars-nil) in
    ap chars (l.1 ∙ none) ∙ chars-nil ∙ sym (ap between one)
inside text middle rest (Some c) (Some d) u v f l =
    let whole : chars text ≡ c ∷ (chars rest ++ d ∷ []) = chars_past_char text middle c u f ∙ ap (λ t. c ∷ t) (last_one middle rest d (IsUtf8-past_char text middle c u f) v l) in
    sym (one_inside c d (chars rest)) ∙ sym (ap between whole)

-- the same of an iterator's states, and what each has left
pub inside_of : {S : Type 0} (left : S → List ℕ) (s t u : S) (text rest : List ℕ) (first last : Option ℕ) → left s ≡ text → rest ≡ left u → IsUtf8 text → IsUtf8 rest
    → MatchOption first ((length (left s) ≡ 0) × (t ≡ s)) (λ c. left s ≡ encode c ++ left t)
    → MatchOption last ((length (left t) ≡ 0) × (u ≡ t)) (λ c. left t ≡ left u ++ encode c)
    → chars rest ≡ between (chars text)
inside_of left s t u text rest first last begun ended a b f l = inside text (left t) rest first last a b (front first f) (back last l)
  where
    front : (first : Option ℕ) → MatchOption first ((length (left s) ≡ 0) × (t ≡ s)) (λ c. left s ≡ encode c ++ left t)
        → MatchOption first ((length text ≡ 0) × (left t ≡ text)) (λ c. text ≡ encode c ++ left t)
    front None h = (ap length (sym begun) ∙ h.0, ap left h.1 ∙ begun)
    front (Some c) h = sym begun ∙ h

    back : (last : Option ℕ) → MatchOption last ((length (left t) ≡ 0) × (u ≡ t)) (λ c. left t ≡ left u ++ encode c)
        → MatchOption last ((length (left t) ≡ 0) × (rest ≡ left t)) (λ c. left t ≡ rest ++ encode c)
    back None h = (h.0, ended ∙ ap left h.1)
    back (Some c) h = h ∙ ap (λ v. v ++ encode c) (sym ended)
