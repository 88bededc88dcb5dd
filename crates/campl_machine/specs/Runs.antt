-- Runs of labelled reductions, whatever is reduced: `Red a l b` says that a becomes b by the reduction l.
use Rattle.std.specs.Prelude.{◌≡◌, ◌≢◌, ◌≤◌, ◌⊎◌, ℕ, zero, suc, List, ◌++◌, Option, Some}

-- n reductions, one after another
abbrev pub Run : {C L : Type 0} → (C → L → C → Type 0) → ℕ → C → C → Type 0
Run Red zero a b = a ≡ b
Run {C} {L} Red (suc n) a b = (l : L) × (c : C) × Red a l c × Run Red n c b

-- some number of reductions
abbrev pub Reaches : {C L : Type 0} → (C → L → C → Type 0) → C → C → Type 0
Reaches Red a b = (n : ℕ) × Run Red n a b

-- no reduction is possible
abbrev pub Stuck : {C L : Type 0} → (C → L → C → Type 0) → C → Type 0
Stuck {C} {L} Red s = (l : L) (c : C) → Red s l c → ⊥

-- ys begins with xs
abbrev pub IsPrefixOf : {A : Type 0} → List A → List A → Type 0
IsPrefixOf {A} xs ys = (rest : List A) × (xs ++ rest ≡ ys)

-- the reductions that a function computes: `step a l` is what a becomes by l, if it can
abbrev pub By : {C L : Type 0} → (C → L → Option C) → C → L → C → Type 0
By step a l b = step a l ≡ Some b

-- each reduction of a leads to one state
abbrev pub OneResult : {C L : Type 0} → (C → L → C → Type 0) → C → Type 0
OneResult {C} {L} Red a = (l : L) (b c : C) → Red a l b → Red a l c → b ≡ c

-- two different reductions of a can be made in both orders, and lead to one state
abbrev pub Diamond : {C L : Type 0} → (C → L → C → Type 0) → C → Type 0
Diamond {C} {L} Red a = (l m : L) (b c : C) → l ≢ m → Red a l b → Red a m c → (d : C) × Red b m d × Red c l d

-- so it is at every state that is reached from the start
abbrev pub DiamondsFrom : {C L : Type 0} → (C → L → C → Type 0) → C → Type 0
DiamondsFrom {C} {L} Red start = (a : C) → Reaches Red start a → OneResult Red a × Diamond Red a

-- no run from the start has more than n reductions, and each that can't go on has n and is at s
abbrev pub AllEndAt : {C L : Type 0} → (C → L → C → Type 0) → C → C → ℕ → Type 0
AllEndAt {C} {L} Red start s n = (b : C) (m : ℕ) → Run Red m start b → (m ≤ n) × (Stuck Red b → (b ≡ s) × (m ≡ n))

-- on the way from the start each reduction only adds to what is shown
abbrev pub OnlyAdds : {C L A : Type 0} → (C → L → C → Type 0) → C → (C → List A) → Type 0
OnlyAdds {C} {L} {A} Red start shown = (a : C) (l : L) (b : C) → Reaches Red start a → Red a l b → IsPrefixOf (shown a) (shown b)

-- one of the two lists begins with the other
abbrev pub OneIsPrefix : {A : Type 0} → List A → List A → Type 0
OneIsPrefix xs ys = IsPrefixOf xs ys ⊎ IsPrefixOf ys xs
