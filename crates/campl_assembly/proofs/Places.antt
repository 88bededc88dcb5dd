-- The line of an instruction.
use Rattle.std.proofs.Common.{◌≡◌, refl, ℕ, List, [], ◌∷◌, ◌++◌, append_assoc, ap, ◌∙◌}
use Rattle.std.specs.Prelude.{codes}
use Rattle.std.specs.Str.{chars}
use Rattle.campl_code.specs.Listing.{in_line}
use Rattle.campl_assembly.proofs.Spelled.{spelled-indent}

glued : (old a d b x c : List ℕ) → ((((old ++ a) ++ d) ++ b) ++ x) ++ c ≡ old ++ ((a ++ (d ++ (b ++ x))) ++ c)
glued old a d b x c = simp append_assoc refl

-- a place and an instruction, written in turn
pub place-line : (old indented placed spaced written line place x : List ℕ) → indented ≡ old ++ chars (codes "  ") → placed ≡ indented ++ place → spaced ≡ placed ++ 32 ∷ [] → written ≡ spaced ++ x → line ≡ written ++ 10 ∷ []
    → line ≡ old ++ in_line (codes "  " ++ (place ++ (codes " " ++ x)))
place-line old indented placed spaced written line place x e1 e2 e3 e4 e5 =
    e5
    ∙ ap (λ l. l ++ 10 ∷ []) (e4 ∙ ap (λ l. l ++ x) (e3 ∙ ap (λ l. l ++ 32 ∷ []) (e2 ∙ ap (λ l. l ++ place) (e1 ∙ ap (λ l. old ++ l) spelled-indent))))
    ∙ glued old (codes "  ") place (32 ∷ []) x (10 ∷ [])
