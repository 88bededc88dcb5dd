-- The text in three parts.
use Rattle.std.proofs.Common.{◌≡◌, refl, sym, ap, ◌∙◌, ℕ, ◌<◌, ◌≤◌, ◌^◌, List, [], ◌∷◌, ◌++◌, append_assoc, length, length-append, codes, arith}
use Rattle.std.specs.Fmt.{decimal}
use Rattle.std.proofs.lemmas.Fmt.{length-decimal-le}
use Rattle.campl_text.specs.declared.utf8.TheConstants.{TEXT_BYTES_MAX}
use Rattle.campl_pipeline.specs.declared.source.TheConstants.{BEFORE, BEHIND}
use Rattle.campl_pipeline.specs.Source.{generated_source}

abbrev behind_number : List ℕ
behind_number = codes " | a => b)"

abbrev last_line : List ℕ
last_line = codes "        b, console => -> sum(0 | b, console => )\n"

-- what stands before the number, the number, and what stands behind it
pub in_parts : (stages : ℕ) → BEFORE.now ++ (decimal stages ++ BEHIND.now) ≡ generated_source stages
in_parts stages =
    sym (ap (λ rest. BEFORE.now ++ rest) (append_assoc (decimal stages ++ behind_number) (10 ∷ []) last_line ∙ append_assoc (decimal stages) behind_number (10 ∷ last_line)))

-- it has few bytes
pub few : (stages : ℕ) → stages < 2 ^ 32 → length (BEFORE.now ++ (decimal stages ++ BEHIND.now)) ≤ TEXT_BYTES_MAX
few stages h =
    let before : length BEFORE.now ≡ 1404 = refl in
    let behind : length BEHIND.now ≡ 60 = refl in
    let number : length (decimal stages) ≤ 10 = length-decimal-le 10 stages (omega arith) (omega (arith, h)) (omega (arith, h)) in
    omega (arith, before, behind, number, length-append BEFORE.now (decimal stages ++ BEHIND.now), length-append (decimal stages) BEHIND.now)
