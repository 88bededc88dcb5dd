-- Grammars as data, and what they say of lists of tokens.
use Rattle.std.specs.Prelude.{◌≡◌, ◌⊎◌, ℕ, zero, suc, Bool, true, List, [], ◌∷◌, ◌++◌, nat_le}

-- Tokens as a grammar sees them: of which kinds a token is, and where it stands.
pub record Terminals (T K P : Type 0) : Type 0 where
  -- the token is of the kind
  pub fits : K → T → Bool
  -- where the token stands
  pub place : T → P
  -- the place of no tokens
  pub nowhere : P

-- A piece of a grammar, with a value in A. T, K and P are the tokens, their kinds and their places;
-- N has the grammar's names, and Sem the type of a name's value.
pub data Piece (T K P N : Type 0) (Sem : N → Type 0) : Type 0 → Type 1 where
  -- a token of this kind
  tok : K → Piece T K P N Sem T
  -- no token
  pure : {A : Type 0} → A → Piece T K P N Sem A
  -- the one and then the other
  seq : {A B C : Type 0} → (A → B → C) → Piece T K P N Sem A → Piece T K P N Sem B → Piece T K P N Sem C
  -- the one or the other
  alt : {A : Type 0} → Piece T K P N Sem A → Piece T K P N Sem A → Piece T K P N Sem A
  -- nested one deeper
  deeper : {A : Type 0} → Piece T K P N Sem A → Piece T K P N Sem A
  -- with the place of the first token
  at : {A : Type 0} → Piece T K P N Sem (P → A) → Piece T K P N Sem A
  -- what has this name
  nt : (m : N) → Piece T K P N Sem (Sem m)

-- ---- what a grammar says

-- a token and its nesting
abbrev pub Nested : Type 0 → Type 0
Nested T = T × ℕ

-- the tokens alone
abbrev pub bare : {T : Type 0} → List (Nested T) → List T
bare [] = []
bare (p ∷ w) = p.0 ∷ bare w

-- the place of the first token
abbrev pub place_at : {T K P : Type 0} → Terminals T K P → List T → P
place_at s [] = s.nowhere
place_at s (t ∷ ts) = s.place t

-- no token is nested deeper than the limit
abbrev pub Shallow : {T : Type 0} → ℕ → List (Nested T) → Type 0
Shallow limit [] = Unit {0}
Shallow limit (p ∷ w) = (nat_le p.1 limit ≡ true) × Shallow limit w

module _ {T K P : Type 0} (s : Terminals T K P) (N : Type 0) (Sem : N → Type 0) where
  -- From this nesting on, the piece has these tokens, with their nesting, and this value. h says it of the names.
  abbrev pub Has : {A : Type 0} → ((m : N) → ℕ → List (Nested T) → Sem m → Type 0) → Piece T K P N Sem A → ℕ → List (Nested T) → A → Type 0
  Has h (tok k) d w v = (s.fits k v ≡ true) × (w ≡ (v, d) ∷ [])
  Has h (pure x) d w v = (w ≡ []) × (v ≡ x)
  Has h (seq {A} {B} f a b) d w v = (x : A) × (y : B) × (p : List (Nested T)) × (q : List (Nested T)) × Has h a d p x × Has h b d q y × (w ≡ p ++ q) × (v ≡ f x y)
  Has h (alt a b) d w v = Has h a d w v ⊎ Has h b d w v
  Has h (deeper g) d w v = Has h g (suc d) w v
  Has h (at g) d w v = (f : _) × Has h g d w f × (v ≡ f (place_at s (bare w)))
  Has h (nt m) d w v = h m d w v

  module _ (rule : (m : N) → Piece T K P N Sem (Sem m)) where
    -- the same of a name, by a derivation of a height below n
    abbrev pub Says : ℕ → (m : N) → ℕ → List (Nested T) → Sem m → Type 0
    Says zero m d w v = ⊥
    Says (suc n) m d w v = Has (Says n) (rule m) d w v

    -- from this nesting on, the name has these tokens and this value
    abbrev pub IsA : (m : N) → ℕ → List (Nested T) → Sem m → Type 0
    IsA m d w v = (n : ℕ) × Says n m d w v

    -- the tokens, with their nesting, are a whole text of the name
    abbrev pub IsProgram : (m : N) → List (Nested T) → Sem m → Type 0
    IsProgram m w v = IsA m 0 w v

-- ---- how one writes pieces

-- a token of the kind and then the piece, which is kept
infixr 30 ◌▸◌
abbrev pub ◌▸◌ : {T K P N : Type 0} {Sem : N → Type 0} {B : Type 0} → K → Piece T K P N Sem B → Piece T K P N Sem B
key ▸ b = seq (λ _ y. y) (tok key) b

-- the piece, which is kept, and then a token of the kind
infixl 31 ◌◂◌
abbrev pub ◌◂◌ : {T K P N : Type 0} {Sem : N → Type 0} {A : Type 0} → Piece T K P N Sem A → K → Piece T K P N Sem A
a ◂ key = seq (λ x _. x) a (tok key)

-- no token, and no value to speak of
abbrev pub nothing : {T K P N : Type 0} {Sem : N → Type 0} → Piece T K P N Sem (Unit {0})
nothing = pure tt

-- the piece, with what the function makes of its value
infixr 29 ◌<$>◌
abbrev pub ◌<$>◌ : {T K P N : Type 0} {Sem : N → Type 0} {A B : Type 0} → (A → B) → Piece T K P N Sem A → Piece T K P N Sem B
f <$> a = seq (λ x _. f x) a nothing

-- the second makes the value of the first's
abbrev pub into : {T K P N : Type 0} {Sem : N → Type 0} {A B : Type 0} → Piece T K P N Sem A → Piece T K P N Sem (A → B) → Piece T K P N Sem B
into a b = seq (λ x f. f x) a b

-- one and those that follow
abbrev pub list : {T K P N : Type 0} {Sem : N → Type 0} {A : Type 0} → Piece T K P N Sem A → Piece T K P N Sem (List A) → Piece T K P N Sem (List A)
list a more = seq (λ x xs. x ∷ xs) a more
