-- Truth values.
use Rattle.std.proofs.Common.{◌≡◌, ◌∙◌, refl, sym, Bool, true, false, ◌&&◌, true≢false}
pub use Rattle.std.proofs.lemmas.Bool.{cases_Bool as split, not-true, and_from as and-both, or_left as or-first, or_right as or-second, or_cases as or-split, or_parts as or-none, false_from_ne_true as as-false}

pub no-both : (b : Bool) → b ≡ true → b ≡ false → ⊥
no-both b i j = true≢false (sym i ∙ j)

pub and-first : (a b : Bool) → (a && b) ≡ true → a ≡ true
and-first true b i = refl
and-first false b i = i

pub and-second : (a b : Bool) → (a && b) ≡ true → b ≡ true
and-second true b i = i
and-second false b i = absurd (true≢false (sym i))

-- two truth values of which each follows from the other
pub as-true : (a b : Bool) → (a ≡ true → b ≡ true) → (b ≡ true → a ≡ true) → a ≡ b
as-true true b i j = sym (i refl)
as-true false true i j = absurd (true≢false (sym (j refl)))
as-true false false i j = refl
