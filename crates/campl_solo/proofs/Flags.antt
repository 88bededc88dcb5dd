-- How many flags are up.
use Rattle.std.proofs.Common.{◌≡◌, ◌<◌, ℕ, zero, suc, ◌+◌, Bool, true, false, List, [], ◌∷◌, set, refl, sym, ap, subst, ◌∙◌, arith}
use Rattle.campl_order.specs.Boards.{is_flagged}
use Rattle.campl_solo.specs.Asking.{flags_up}

one-more : (b : Bool) (flags : List Bool) → flags_up (b ∷ flags) ≡ flags_up (b ∷ []) + flags_up flags
one-more true flags = omega arith
one-more false flags = omega arith

-- one that is taken back
pub fewer-up : (flags : List Bool) (i : ℕ) → is_flagged flags i ≡ true → flags_up (set flags i false) < flags_up flags
fewer-up [] i h = absurd (cc h)
fewer-up (b ∷ flags) zero h = subst (λ (b : Bool). flags_up flags < flags_up (b ∷ flags)) (sym h) (omega arith)
fewer-up (b ∷ flags) (suc i) h =
    let l = fewer-up flags i h in
    let x = one-more b (set flags i false) in
    let y = one-more b flags in
    omega (arith, l, x, y)

none-up : (flags : List Bool) → ((i : ℕ) → is_flagged flags i ≡ false) → flags_up flags ≡ 0
none-up [] h = refl
none-up (b ∷ flags) h = ap (λ (b : Bool). flags_up (b ∷ flags)) (h 0) ∙ none-up flags (λ i. h (suc i))

-- the same flags
pub same-up : (flags flags2 : List Bool) → ((i : ℕ) → is_flagged flags2 i ≡ is_flagged flags i) → flags_up flags2 ≡ flags_up flags
same-up [] flags2 h = none-up flags2 h
same-up (b ∷ flags) [] h = sym (none-up (b ∷ flags) (λ i. sym (h i)))
same-up (b ∷ flags) (b2 ∷ flags2) h =
    let x = one-more b flags in
    let y = one-more b2 flags2 in
    let z = ap (λ (b : Bool). flags_up (b ∷ [])) (h 0) in
    let more = same-up flags flags2 (λ i. h (suc i)) in
    omega (arith, x, y, z, more)
