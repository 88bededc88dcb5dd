-- Which parts a step reads and changes.
use Rattle.std.specs.Prelude.{◌≡◌, ◌≢◌, ◌⊎◌, ℕ, List, [], ◌∷◌, Option, Some, None}
use Rattle.campl_code.specs.Instructions.{Code}
use Rattle.campl_cells.specs.Parts.{Mail, Proc, Tip, Parts, near, far, owner}
use Rattle.campl_cells.specs.Wants.{Drawn, Want, Rests, Moves, Looks, Links, wanted}

-- the end of a message, and the one at which it lies
abbrev pub IsOnTheWay : (ℕ → Option Tip) → Option (ℕ × Mail) → ℕ → Type 0
IsOnTheWay tip None k = ⊥
IsOnTheWay tip (Some s) k = (s.0 ≡ k) ⊎ (owner tip s.0 ≡ k)

-- the ends in hand, at most four
abbrev pub InHand : (ℕ → Option Tip) → Want → ℕ → Type 0
InHand tip Rests k = ⊥
InHand tip (Moves kind end v) k = IsOnTheWay tip v.send k
InHand tip (Looks kind takes e f) k = e ≡ k
InHand tip (Links x y) k = (x ≡ k) ⊎ (y ≡ k) ⊎ (owner tip x ≡ k) ⊎ (owner tip y ≡ k)

-- the ends on which a step waits, at most two
abbrev pub Watches : Want → ℕ → Type 0
Watches Rests k = ⊥
Watches (Moves kind end v) k = ⊥
Watches (Looks kind takes e f) k = e ≡ k
Watches (Links x y) k = (x ≡ k) ⊎ (y ≡ k)

-- an end of one of these channels
abbrev pub IsEndOf : List ℕ → ℕ → Type 0
IsEndOf [] k = ⊥
IsEndOf (c ∷ cs) k = (near c ≡ k) ⊎ (far c ≡ k) ⊎ IsEndOf cs k

-- the ends that are born
abbrev pub IsNewEnd : Want → ℕ → Type 0
IsNewEnd Rests k = ⊥
IsNewEnd (Moves kind end v) k = IsEndOf v.channels k
IsNewEnd (Looks kind takes e f) k = ⊥
IsNewEnd (Links x y) k = ⊥

-- the process and the ends in hand are the same in both
pub record SameInHand (code : Code) (d : Drawn) (m m2 : Parts) (p : ℕ) (q : Proc) (i : ℕ) : Type 0 where
  pub process : m.process p ≡ Some q
  pub process2 : m2.process p ≡ Some q
  pub tips : (k : ℕ) → InHand m.tip (wanted code d q.life i) k → m2.tip k ≡ m.tip k

-- all other parts stay
pub record ElseStays (code : Code) (d : Drawn) (m : Parts) (p : ℕ) (q : Proc) (i : ℕ) (m2 : Parts) : Type 0 where
  pub process : (k : ℕ) → p ≢ k → d.child ≢ k → m2.process k ≡ m.process k
  pub tips : (k : ℕ) → (InHand m.tip (wanted code d q.life i) k → ⊥) → (IsNewEnd (wanted code d q.life i) k → ⊥) → m2.tip k ≡ m.tip k
