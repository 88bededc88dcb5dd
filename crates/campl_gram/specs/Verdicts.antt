-- What is to be answered of the tokens of a whole text.
use Rattle.std.specs.Prelude.{◌≡◌, ℕ, false, nat_le, List, [], ◌∷◌, ◌++◌, Ok, Err}
use Rattle.campl_gram.specs.declared.fault.Fault.TheVariants.{Unexpected, TooDeep}
use Rattle.campl_gram.specs.Grammar.{Nested, bare, Shallow}
use Rattle.campl_gram.specs.Reading.{Outcome}

-- nothing may follow
abbrev pub finish : {T A : Type 0} → Outcome T A → Outcome T A
finish (Ok x, []) = (Ok x, [])
finish (Ok x, t ∷ r) = (Err Unexpected, t ∷ r)
finish (Err e, r) = (Err e, r)

-- IsProgram says which tokens, with their nesting, have which tree.
module _ (limit : ℕ) {T A : Type 0} (IsProgram : List (Nested T) → A → Type 0) where
  -- some program begins with these tokens, none of which is nested too deep
  abbrev pub Begins : List T → Type 0
  Begins u = (w : List (Nested T)) × (more : List (Nested T)) × (x : A) × (bare w ≡ u) × Shallow limit w × IsProgram (w ++ more) x

  -- no program begins with the tokens u and the token at the front of the rest; where there is no rest, u is no program
  abbrev pub Stops : List T → List T → Type 0
  Stops u [] = (w : List (Nested T)) (x : A) → IsProgram w x → bare w ≡ u → ⊥
  Stops u (t ∷ r) = (w : List (Nested T)) (more : List T) (x : A) → IsProgram w x → bare w ≡ u ++ t ∷ more → ⊥

  -- Some program begins with the tokens u and the token at the front of the rest, and in each that does
  -- this token is nested too deep, and none of u is.
  abbrev pub Sinks : List T → List T → Type 0
  Sinks u [] = ⊥
  Sinks u (t ∷ r) =
      ((w : List (Nested T)) × (n : ℕ) × (more : List (Nested T)) × (x : A) × (bare w ≡ u) × IsProgram (w ++ (t, n) ∷ more) x)
      × ((w : List (Nested T)) (n : ℕ) (more : List (Nested T)) (x : A) → IsProgram (w ++ (t, n) ∷ more) x → bare w ≡ u → Shallow limit w × (nat_le n limit ≡ false))

  -- The answer for these tokens. A fault stands at the front of the rest, so the earlier of two faults is answered,
  -- and Unexpected where both are at one token.
  abbrev pub Answers : List T → Outcome T A → Type 0
  Answers ts (Ok x, r) = (w : List (Nested T)) × (bare w ≡ ts) × Shallow limit w × IsProgram w x
  Answers ts (Err Unexpected, r) = (u : List T) × (ts ≡ u ++ r) × Begins u × Stops u r
  Answers ts (Err TooDeep, r) = (u : List T) × (ts ≡ u ++ r) × Begins u × Sinks u r
