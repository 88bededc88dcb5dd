-- Declared processes are typed, and a call binds their variables.
use Rattle.std.proofs.Common.{refl, sym, subst, List, [], ◌∷◌}
use Rattle.campl_tree.specs.declared.process.Binder.{Binder}
use Rattle.campl_tree.specs.declared.process.Binder.TheVariants as binder
use Rattle.campl_tree.specs.Plain.SeqType.{SeqType}
use Rattle.campl_value.specs.Tree.{Tree}
use Rattle.campl_types.specs.World.{World}
use Rattle.campl_types.specs.Linear.{row_variables, bound}
use Rattle.campl_evaluation.specs.Typed.{AreBound}
use Rattle.campl_evaluation.proofs.Bound.{bound-append}
use Rattle.campl_types.proofs.Compose.{filled-nothing}
use Rattle.campl_meaning.specs.Bodies.{bind, bind_all}
use Rattle.campl_types.specs.Values.{IsValue, AllAreValues}

one-bound : (w : World) (x : Binder) (t : SeqType) (v : Tree) → IsValue w v t → AreBound w [] (bind x v []) (bound x t [])
one-bound w (binder.Variable at x) t v h = (refl, subst (IsValue w v) (sym (filled-nothing t)) h, tt)
one-bound w (binder.Wildcard at) t v h = tt

-- its row's variables stand for the values that it is given
pub all-bound : (w : World) (xs : List Binder) (ts : List SeqType) (vs : List Tree) → AllAreValues w vs ts → AreBound w [] (bind_all xs vs) (row_variables xs ts)
all-bound w [] ts vs h = tt
all-bound w (x ∷ xs) [] [] h = tt
all-bound w (x ∷ xs) (t ∷ ts) (v ∷ vs) (h, k) =
    bound-append w [] (bind_all xs vs) (bind x v []) (row_variables xs ts) (bound x t []) (all-bound w xs ts vs k) (one-bound w x t v h)
all-bound w (x ∷ xs) [] (v ∷ vs) h = absurd h
all-bound w (x ∷ xs) (t ∷ ts) [] h = absurd h
