-- There is no derivation of its typing: `first([1])` is put where a `Maybe([Char])` is due.
use Rattle.std.proofs.Common.{refl, ℕ, List, [], ◌∷◌, pos, codes}
use Rattle.campl_tree.specs.Plain.SeqType as s
use Rattle.campl_tree.specs.Plain.SeqType.{SeqType}
use Rattle.campl_tree.specs.Plain.Expr as e
use Rattle.campl_types.specs.SameType.{nowhere, IsSame}
use Rattle.campl_types.specs.Prelude.{letters}
use Rattle.campl_types.specs.Substitution.{filling, filled}
use Rattle.campl_types.specs.World.{world_of}
use Rattle.campl_types.specs.Typed.{IsTyped}
use Rattle.typed_sources.proofs.Undone.{of-process, first-part, put-value, called}
use Rattle.typed_sources.specs.Trees.{place}
use Rattle.typed_sources.specs.FirstOfANumber.{first_function, run_process, first_of_a_number}

-- the type parameter, where it stands
abbrev a : ℕ → SeqType
a column = s.Variable (place 4 column) (codes "a")

abbrev maybe : SeqType → SeqType
maybe t = s.Named nowhere (codes "Maybe") (s.type_then t s.no_types)

-- where `Maybe(a)` is `Maybe([Char])`, `a` isn't Int
no-number : (ts : List SeqType) (u : SeqType) → IsSame (maybe letters) (filled (filling (codes "a" ∷ []) ts) (maybe (a 27)))
    → IsSame (s.List (filled (filling (codes "a" ∷ []) ts) (a 15))) (s.List u) → IsSame u s.Int → ⊥
no-number [] u i j k = cc
no-number (t ∷ ts) u i j k = cc

pub refused : IsTyped first_of_a_number → ⊥
refused h =
    let one = e.expr_then (e.List (place 13 23) (e.expr_then (e.Number (place 13 24) (pos 1)) e.no_exprs)) e.no_exprs in
    let value = put-value (first-part (of-process (world_of first_of_a_number) run_process h.processes.1.1.1.0)) refl refl in
    let call = called (world_of first_of_a_number) [] (place 13 17) (codes "first") one (maybe letters) first_function value refl in
    no-number call.0 call.3.0.0 call.2 call.3.0.1 call.3.0.2
