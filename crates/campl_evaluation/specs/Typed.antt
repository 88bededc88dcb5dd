-- Evaluations that keep to types.
use Rattle.std.specs.Prelude.{◌≡◌, ℕ, List, [], ◌∷◌, Some, map}
use Rattle.campl_tree.specs.Plain.Decl.{FunctionDecl}
use Rattle.campl_value.specs.Tree.{Tree}
use Rattle.campl_types.specs.Names.{Name}
use Rattle.campl_types.specs.Substitution.{Filling, filled}
use Rattle.campl_types.specs.Values.{IsValue, AllAreValues}
use Rattle.campl_types.specs.Matching.{Bindings}
use Rattle.campl_types.specs.Fits.{Vars}
use Rattle.campl_types.specs.World.{World, function_named}
use Rattle.campl_evaluation.specs.Evaluation.{Answer, Done, Deep, Wrong, More, Caller}

-- variables stand for values of their types, with the type variables filled
abbrev pub AreBound : World → Filling → Bindings → Vars → Type 0
AreBound w f [] [] = Unit {0}
AreBound w f (b ∷ bs) (v ∷ vs) = (b.0 ≡ v.0) × IsValue w b.1 (filled f v.1) × AreBound w f bs vs
AreBound w f _ _ = ⊥

-- an evaluation is never wrong, and what it is done with is such
abbrev pub Fine : {A : Type 0} → (A → Type 0) → Answer A → Type 0
Fine P (Done a n) = P a
Fine P (Deep n) = Unit {0}
Fine P (Wrong n) = ⊥
Fine P More = Unit {0}

-- a call of values of the parameters' types, at any filling, gives a value of the result's type
abbrev pub CallerIsSound : World → Caller → Type 0
CallerIsSound w call =
    (x : Name) (f : FunctionDecl) → function_named w x ≡ Some f → (g : Filling) (vs : List Tree) (n : ℕ)
    → AllAreValues w vs (map (filled g) f.parameters) → Fine (λ v. IsValue w v (filled g f.result)) (call x vs n)
