-- Every piece of a grammar that passes the test can be finished.
use Rattle.std.proofs.Common.{◌⊎◌, inl, inr, ℕ, zero, suc, ◌≤◌, ◌<◌, min, Bool, List, [], ◌∷◌, ◌++◌, refl, arith}
use Rattle.campl_gram.specs.Grammar.{Terminals, Piece, tok, pure, seq, alt, deeper, at, nt, place_at, Nested, bare}
use Rattle.campl_gram.specs.Grammar as grammar
use Rattle.campl_gram.specs.Reading.{Tables}
use Rattle.campl_gram.specs.Tests.{Distinct}
use Rattle.campl_gram.specs.Tests as tests
use Rattle.campl_gram.proofs.Found as found
use Rattle.campl_gram.proofs.Passed.{Passed}

-- one of two numbers is below what their minimum is below
min-split : (x y n : ℕ) → min x y ≤ n → (x ≤ n) ⊎ (y ≤ n)
min-split zero y n h = inl (omega arith)
min-split (suc x) zero n h = inr (omega arith)
min-split (suc x) (suc y) zero h = absurd (omega arith)
min-split (suc x) (suc y) (suc n) h =
    elim (min-split x y n (omega arith)) as (λ _. (suc x ≤ suc n) ⊎ (suc y ≤ suc n)) [ inl k ↦ inl (omega arith) | inr k ↦ inr (omega arith) ]

module _ {T K P : Type 0} (s : Terminals T K P) (N : Type 0) (Sem : N → Type 0) (rule : (m : N) → Piece T K P N Sem (Sem m)) (tables : Tables K N)
    (same : K → K → Bool) (laws : Distinct s same) (passed : (m : N) → Passed N Sem same tables rule m) where
  -- what the grammar says, by a derivation of a height below n
  abbrev Says : ℕ → (m : N) → ℕ → List (Nested T) → Sem m → Type 0
  Says = grammar.Says s N Sem rule

  -- what it says of a piece
  abbrev Has : {A : Type 0} → ((m : N) → ℕ → List (Nested T) → Sem m → Type 0) → Piece T K P N Sem A → ℕ → List (Nested T) → A → Type 0
  Has = grammar.Has s N Sem

  -- how high the least derivation of a piece may be
  abbrev cost : {A : Type 0} → Piece T K P N Sem A → ℕ
  cost = tests.cost tables

  -- a piece can be finished
  abbrev Lives : {A : Type 0} → ((m : N) → ℕ → List (Nested T) → Sem m → Type 0) → Piece T K P N Sem A → Type 0
  Lives = found.Lives s N Sem

  -- two pieces that can be finished, one behind the other
  two-live : {A B C : Type 0} (h : (m : N) → ℕ → List (Nested T) → Sem m → Type 0) (f : A → B → C) (a : Piece T K P N Sem A) (b : Piece T K P N Sem B) (d : ℕ)
      → (w : List (Nested T)) × (x : A) × Has h a d w x → (w : List (Nested T)) × (y : B) × Has h b d w y → (w : List (Nested T)) × (z : C) × Has h (seq f a b) d w z
  two-live h f a b d x y = (x.0 ++ y.0, f x.1 y.1, (x.1, y.1, x.0, y.0, x.2, y.2, refl, refl))

  -- a piece can be finished if each name of less height can
  lives-by : {A : Type 0} (h : (m : N) → ℕ → List (Nested T) → Sem m → Type 0) (n : ℕ) → ((m : N) → tables.tall m < n → Lives h (nt m))
      → (g : Piece T K P N Sem A) → cost g ≤ n → Lives h g
  lives-by h n live (tok k) c d = ((laws.sample k, d) ∷ [], laws.sample k, (laws.sampled k, refl))
  lives-by h n live (pure x) c d = ([], x, (refl, refl))
  lives-by h n live (seq f a b) c d = two-live h f a b d (lives-by h n live a (omega arith) d) (lives-by h n live b (omega arith) d)
  lives-by h n live (alt a b) c d = alt-lives h a b d n (min-split (cost a) (cost b) n c) (λ e. lives-by h n live a e) (λ e. lives-by h n live b e)
    where
      alt-lives : {A : Type 0} (h : (m : N) → ℕ → List (Nested T) → Sem m → Type 0) (a b : Piece T K P N Sem A) (d n : ℕ) → (cost a ≤ n) ⊎ (cost b ≤ n)
          → (cost a ≤ n → Lives h a) → (cost b ≤ n → Lives h b) → (w : List (Nested T)) × (x : A) × Has h (alt a b) d w x
      alt-lives h a b d n (inl c) l r = let x = l c d in (x.0, x.1, inl x.2)
      alt-lives h a b d n (inr c) l r = let x = r c d in (x.0, x.1, inr x.2)
  lives-by h n live (deeper g) c d = lives-by h n live g c (suc d)
  lives-by h n live (at g) c d = let x = lives-by h n live g c d in (x.0, x.1 (place_at s (bare x.0)), (x.1, x.2, refl))
  lives-by h n live (nt m) c d = live m (omega arith) d

  -- a name can be finished, by a derivation of its height
  live : (n : ℕ) (m : N) → tables.tall m < n → Lives (Says n) (nt m)
  live zero m l = absurd (omega arith)
  live (suc n) m l = let c : cost (rule m) ≤ tables.tall m = (passed m).costs in lives-by (Says n) n (live n) (rule m) (omega arith)

  -- the height at which what is read below n has its derivation
  abbrev pub level : ℕ → ℕ
  level zero = tables.talls
  level (suc n) = suc (level n)

  -- that height is above all
  level-high : (n : ℕ) → tables.talls ≤ level n
  level-high zero = omega arith
  level-high (suc n) = let h : tables.talls ≤ level n = level-high n in omega arith

  -- a name can be finished by a derivation of that height
  pub live-at : (n : ℕ) (m : N) → Lives (Says (level n)) (nt m)
  live-at n m = let l : tables.tall m < tables.talls = (passed m).tall_low in let h : tables.talls ≤ level n = level-high n in live (level n) m (omega arith)

  -- so can a piece
  lives-at : {A : Type 0} (n : ℕ) (g : Piece T K P N Sem A) → Lives (Says (level n)) g
  lives-at n (tok k) d = ((laws.sample k, d) ∷ [], laws.sample k, (laws.sampled k, refl))
  lives-at n (pure x) d = ([], x, (refl, refl))
  lives-at n (seq f a b) d = two-live (Says (level n)) f a b d (lives-at n a d) (lives-at n b d)
  lives-at n (alt a b) d = let x = lives-at n a d in (x.0, x.1, inl x.2)
  lives-at n (deeper g) d = lives-at n g (suc d)
  lives-at n (at g) d = let x = lives-at n g d in (x.0, x.1 (place_at s (bare x.0)), (x.1, x.2, refl))
  lives-at n (nt m) d = live-at n m d

  -- so can each piece of a piece that something stands before
  pub all-live : {A : Type 0} (n : ℕ) (g : Piece T K P N Sem A) → found.AllLive s N Sem (Says (level n)) g
  all-live n (tok k) = tt
  all-live n (pure x) = tt
  all-live n (seq f a b) = (all-live n a, all-live n b, lives-at n b)
  all-live n (alt a b) = (all-live n a, all-live n b)
  all-live n (deeper g) = all-live n g
  all-live n (at g) = all-live n g
  all-live n (nt m) = tt
