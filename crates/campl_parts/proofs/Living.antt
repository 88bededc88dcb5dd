-- The life of a process that runs, which is on the heap.
use Rattle.std.specs.Prelude.{◌≡◌, ℕ, List, Option, Result, Ok, Err, IfOk}
use Rattle.std.proofs.Common.{ap, subst, sym}
use Rattle.std.specs.declared.alloc.AllocError.{AllocError}
use Rattle.campl_code.specs.Instructions.{Code}
use Rattle.campl_code_bodies.specs.Kept.{Kept}
use Rattle.campl_cells.specs.Parts as c
use Rattle.campl_cells.specs.Parts.{Runs}
use Rattle.campl_cells.specs.Wants.{Spends}
use Rattle.campl_cells.specs.Steps.{IsLifeOf, KeptAfter}
use Rattle.campl_parts.specs.declared.part.Life.{Life}
use Rattle.campl_parts.specs.Ends.{ends_of}
use Rattle.campl_parts.specs.Views.{life_of}

-- what holds of a life holds of what is the same
pub same_life : (r : Result Life AllocError) (x : c.Life) (P : c.Life → Type 0) → IfOk r (λ life. life_of life ≡ x) → P x → IfOk r (λ life. P (life_of life))
same_life (Ok life) x P e p = subst P (sym e) p
same_life (Err error) x P e p = tt

-- copies went on with one more call
pub spent_life : (code : Code) (block : ℕ) (ends ends2 : List (Option ℕ)) (old old2 new : Kept) → ends2 ≡ ends → old2 ≡ old → KeptAfter code old2 new →
    IsLifeOf code (Spends (record { block = block; ends = ends_of ends; kept = old })) (Runs (record { block = block; ends = ends_of ends2; kept = new }))
spent_life code block ends ends2 old old2 new same kept after =
    (new, ap (λ (x : List (Option ℕ)). Runs (record { block = block; ends = ends_of x; kept = new })) same, subst (λ x. KeptAfter code x new) kept after)
