-- Forms as they are written.
use Rattle.std.proofs.Common.{◌≡◌, refl, sym, subst, inl, inr, ℕ, zero, suc, ◌+◌, ◌/◌, ◌%◌, ◌<◌, ℤ, pos, negsuc, Bool, true, false, List, [], ◌∷◌, ◌++◌, if◌then◌else◌, nat_lt, append_assoc, arith, ap, ◌∙◌, drop, length, get_or, OnOk, Result, Ok, Err}
use Rattle.std.proofs.lemmas.Bool.{cases_lt}
use Rattle.std.proofs.lemmas.Fmt.{IsAscii-decimal_wide, hex_one_digit, hex_two_digits}
use Rattle.std.proofs.lemmas.Str.{chars-IsAscii, IsAscii-append}
use Rattle.std.specs.Fmt.{digits, digit_glyph, signed_decimal}
use Rattle.std.specs.Prelude.{codes}
use Rattle.std.specs.Str.{IsAscii, chars}
use mir.Syntax.{w128}
use mir.Val.{SFits}
use Rattle.campl_types.specs.Forms.{forms_of}
use Rattle.campl_missing.specs.Texts.{form_text, more_texts, part_texts, forms_text}
use Rattle.campl_missing.specs.View.{view_form, view_forms}
use Rattle.campl_missing.specs.declared.form.Form as declared
use Rattle.campl_missing.proofs.Seen.{drop-at}
use Rattle.campl_missing.proofs.Views.{form_views}

pub spelled-anything : chars (codes "_") ≡ codes "_"
unfolding chars
spelled-anything = refl

pub spelled-true : chars (codes "True") ≡ codes "True"
unfolding chars
spelled-true = refl

pub spelled-false : chars (codes "False") ≡ codes "False"
unfolding chars
spelled-false = refl

pub spelled-nil : chars (codes "[]") ≡ codes "[]"
unfolding chars
spelled-nil = refl

pub spelled-colon : chars (codes " : ") ≡ codes " : "
unfolding chars
spelled-colon = refl

pub spelled-comma : chars (codes ", ") ≡ codes ", "
unfolding chars
spelled-comma = refl

pub spelled-open : chars (codes "(") ≡ codes "("
unfolding chars
spelled-open = refl

pub spelled-close : chars (codes ")") ≡ codes ")"
unfolding chars
spelled-close = refl

pub spelled-quote : chars (codes "\\'") ≡ codes "\\'"
unfolding chars
spelled-quote = refl

pub spelled-backslash : chars (codes "\\\\") ≡ codes "\\\\"
unfolding chars
spelled-backslash = refl

pub spelled-line : chars (codes "\\n") ≡ codes "\\n"
unfolding chars
spelled-line = refl

pub spelled-return : chars (codes "\\r") ≡ codes "\\r"
unfolding chars
spelled-return = refl

pub spelled-tab : chars (codes "\\t") ≡ codes "\\t"
unfolding chars
spelled-tab = refl

-- numbers

numbers-ascii : (z : ℤ) → SFits w128 z → IsAscii (signed_decimal z)
numbers-ascii (pos n) h i = IsAscii-decimal_wide n (let f = h.sfits in omega (arith, f)) i
numbers-ascii (negsuc n) h zero = omega arith
numbers-ascii (negsuc n) h (suc i) = IsAscii-decimal_wide (suc n) (let f = h.sfits in omega (arith, f)) i

pub spelled-number : (z : ℤ) → SFits w128 z → chars (signed_decimal z) ≡ signed_decimal z
spelled-number z h = chars-IsAscii (signed_decimal z) (numbers-ascii z h)

-- escapes by number

one-ascii : (x : ℕ) → x < 128 → IsAscii (x ∷ [])
one-ascii x h zero = h
one-ascii x h (suc i) = omega arith

glyph-ascii : (d : ℕ) → d < 16 → digit_glyph false d < 128
glyph-ascii d h = go (nat_lt d 10)
  where
    go : (b : Bool) → (if b then 48 + d else (if false then 55 + d else 87 + d)) < 128
    go true = omega arith
    go false = omega arith

hex-ascii : (n : ℕ) → n < 256 → IsAscii (digits 16 false n)
hex-ascii n h =
    elim (cases_lt n 16) [
      | inl small ↦ subst IsAscii (sym (hex_one_digit false n small)) (one-ascii (digit_glyph false n) (glyph-ascii n small))
      | inr large ↦
          subst IsAscii (sym (hex_two_digits false n large h))
          (IsAscii-append (digit_glyph false (n / 16) ∷ []) (digit_glyph false (n % 16) ∷ []) (one-ascii _ (glyph-ascii (n / 16) (grind arith))) (one-ascii _ (glyph-ascii (n % 16) (grind arith))))
    ]

opening-ascii : IsAscii (codes "\\u{")
opening-ascii zero = omega arith
opening-ascii (suc zero) = omega arith
opening-ascii (suc (suc zero)) = omega arith
opening-ascii (suc (suc (suc i))) = omega arith

closing-ascii : IsAscii (codes "}")
closing-ascii zero = omega arith
closing-ascii (suc i) = omega arith

pub spelled-code : (n : ℕ) → n < 256 → chars (codes "\\u{" ++ (digits 16 false n ++ codes "}")) ≡ codes "\\u{" ++ (digits 16 false n ++ codes "}")
spelled-code n h = chars-IsAscii _ (IsAscii-append (codes "\\u{") (digits 16 false n ++ codes "}") opening-ascii (IsAscii-append (digits 16 false n) (codes "}") (hex-ascii n h) closing-ascii))

pub ruleset numbers = (spelled-number, spelled-code)

pub ruleset escapes = (spelled-quote, spelled-backslash, spelled-line, spelled-return, spelled-tab)

pub ruleset spelled = (spelled-anything, spelled-true, spelled-false, spelled-nil, spelled-colon, spelled-comma, spelled-open, spelled-close)

-- parts of text

regroup : (o a f c : List ℕ) → ((o ++ a) ++ f) ++ c ≡ o ++ ((a ++ f) ++ c)
regroup o a f c = simp append_assoc refl

pub one-more : (forms : List declared.Form) (i : ℕ) (p : declared.Form) (old mid new whole : List ℕ) → i < length forms → p ≡ get_or forms i p → mid ≡ old ++ chars (codes ", ") → new ≡ mid ++ form_text (view_form p) → old ++ more_texts (forms_of (view_forms (drop i forms))) ≡ whole → new ++ more_texts (forms_of (view_forms (drop (i + 1) forms))) ≡ whole
one-more forms i p old mid new whole l r m n inv =
    let next : i + 1 ≡ suc i = omega arith in
    let here : old ++ more_texts (forms_of (view_forms (drop i forms))) ≡ old ++ ((codes ", " ++ form_text (view_form p)) ++ more_texts (forms_of (view_forms (drop (suc i) forms)))) =
    ap (λ ps. old ++ more_texts (forms_of (view_forms ps))) (drop-at forms i p l r) in
    rw (n, m, spelled-comma, next) (regroup old (codes ", ") (form_text (view_form p)) (more_texts (forms_of (view_forms (drop (suc i) forms)))) ∙ sym here ∙ inv)

pub in-parentheses : {A E : Type 0} → (r : Result A E) (parts : List declared.Form) (old a b new : List ℕ) → 0 < length parts → a ≡ old ++ chars (codes "(") → b ≡ a ++ forms_text (view_forms parts) → OnOk r (new ≡ b ++ chars (codes ")")) → OnOk r (new ≡ old ++ part_texts (forms_of (view_forms parts)))
in-parentheses (Err x) parts old a b new l i j k = tt
in-parentheses (Ok x) [] old a b new l i j k = absurd (omega (arith, l))
in-parentheses (Ok x) (p ∷ ps) old a b new l i j k =
    rw (k, j, i, spelled-open, spelled-close) (regroup old (codes "(") (forms_text (view_forms (p ∷ ps))) (codes ")"))

pub ruleset written = (form_views, spelled, append_assoc)

pub ruleset commas = (spelled-comma, append_assoc)
