-- The test that a grammar and its tables have to pass, name by name. It computes.
use Rattle.std.specs.Prelude.{◌≡◌, ℕ, suc, ◌+◌, max, min, Bool, true, false, not, ◌&&◌, ◌||◌, if◌then◌else◌, nat_le, nat_lt, List, [], ◌∷◌, ◌++◌}
use Rattle.campl_gram.specs.Grammar.{Terminals, Piece, tok, pure, seq, alt, deeper, at, nt}
use Rattle.campl_gram.specs.Reading.{Tables, nullable, first}

-- Two kinds have the same tokens or none in common, `same` tells which, and each has a token.
pub record Distinct {T K P : Type 0} (s : Terminals T K P) (same : K → K → Bool) : Type 0 where
  -- the same kinds have the same tokens
  pub alike : (j k : K) (t : T) → same j k ≡ true → s.fits j t ≡ true → s.fits k t ≡ true
  -- others have none in common
  pub apart : (j k : K) (t : T) → same j k ≡ false → s.fits j t ≡ true → s.fits k t ≡ false
  -- a token of each kind
  pub sample : K → T
  pub sampled : (k : K) → s.fits k (sample k) ≡ true

module _ {K : Type 0} (same : K → K → Bool) where
  -- the kind is one of these
  abbrev pub among : K → List K → Bool
  among k [] = false
  among k (x ∷ xs) = same k x || among k xs

  -- none of the first is among the second
  abbrev pub disjoint : List K → List K → Bool
  disjoint [] ys = true
  disjoint (x ∷ xs) ys = not (among x ys) && disjoint xs ys

  -- each of the first is among the second
  abbrev pub within : List K → List K → Bool
  within [] ys = true
  within (x ∷ xs) ys = among x ys && within xs ys

module _ {T K P N : Type 0} {Sem : N → Type 0} (tables : Tables K N) where
  -- the kinds of token with which a piece that is over could have gone on
  abbrev pub goes_on : {A : Type 0} → Piece T K P N Sem A → List K
  goes_on (tok k) = []
  goes_on (pure x) = []
  goes_on (seq f a b) = goes_on b ++ (if nullable tables b then goes_on a else [])
  goes_on (alt a b) = goes_on a ++ (goes_on b ++ (if nullable tables b then first tables a else []))
  goes_on (deeper g) = goes_on g
  goes_on (at g) = goes_on g
  goes_on (nt m) = tables.conts m

  -- the next token tells which way to go
  abbrev pub decides : {A : Type 0} → (K → K → Bool) → Piece T K P N Sem A → Bool
  decides same (tok k) = true
  decides same (pure x) = true
  decides same (seq f a b) = disjoint same (first tables b) (goes_on a) && (decides same a && decides same b)
  decides same (alt a b) = not (nullable tables a) && (disjoint same (first tables b) (first tables a) && (decides same a && decides same b))
  decides same (deeper g) = decides same g
  decides same (at g) = not (nullable tables g) && decides same g
  decides same (nt m) = true

  -- one more than the greatest rank of a name with which the piece may begin
  abbrev pub lead : {A : Type 0} → Piece T K P N Sem A → ℕ
  lead (tok k) = 0
  lead (pure x) = 0
  lead (seq f a b) = if nullable tables a then max (lead a) (lead b) else lead a
  lead (alt a b) = max (lead a) (lead b)
  lead (deeper g) = lead g
  lead (at g) = lead g
  lead (nt m) = suc (tables.rank m)

  -- no place is wanted of what may have no token
  abbrev pub placed : {A : Type 0} → Piece T K P N Sem A → Bool
  placed (tok k) = true
  placed (pure x) = true
  placed (seq f a b) = placed a && placed b
  placed (alt a b) = placed a && placed b
  placed (deeper g) = placed g
  placed (at g) = not (nullable tables g) && placed g
  placed (nt m) = true

  -- how high the least derivation of a piece may be
  abbrev pub cost : {A : Type 0} → Piece T K P N Sem A → ℕ
  cost (tok k) = 0
  cost (pure x) = 0
  cost (seq f a b) = cost a + cost b
  cost (alt a b) = min (cost a) (cost b)
  cost (deeper g) = cost g
  cost (at g) = cost g
  cost (nt m) = suc (tables.tall m)

-- what may be wrong of a name
pub data Wrong : Type 0 where
  -- it may begin with a name of no lower rank, or its rank is above all
  Rank : Wrong
  -- it may have no token and the table says otherwise, or the other way round
  Nul : Wrong
  -- it may begin with a kind that isn't listed
  Starts : Wrong
  -- it could go on with a kind that isn't listed
  Conts : Wrong
  -- the next token doesn't tell which way to go
  Undecided : Wrong
  -- a place is wanted of what may have no token
  Unplaced : Wrong
  -- its least derivation is higher than the table says, or its height is above all
  Tall : Wrong

-- the problem is there unless the test holds
abbrev pub unless : Bool → Wrong → List Wrong → List Wrong
unless true problem rest = rest
unless false problem rest = problem ∷ rest

-- both are true or both false
abbrev pub both : Bool → Bool → Bool
both true b = b
both false b = not b

-- all that is wrong of the name's rule and its entries in the tables
abbrev pub wrongs : {T K P N : Type 0} {Sem : N → Type 0} → (K → K → Bool) → Tables K N → ((m : N) → Piece T K P N Sem (Sem m)) → N → List Wrong
wrongs same tables rule m =
    unless (nat_lt (tables.rank m) tables.ranks && nat_le (lead tables (rule m)) (tables.rank m)) Rank
    (unless (both (nullable tables (rule m)) (tables.nul m)) Nul
    (unless (within same (first tables (rule m)) (tables.starts m)) Starts
    (unless (within same (goes_on tables (rule m)) (tables.conts m)) Conts
    (unless (decides tables same (rule m)) Undecided
    (unless (placed tables (rule m)) Unplaced
    (unless (nat_lt (tables.tall m) tables.talls && nat_le (cost tables (rule m)) (tables.tall m)) Tall []))))))

-- Each name passes the test.
abbrev pub Passes : {T K P N : Type 0} {Sem : N → Type 0} → (K → K → Bool) → Tables K N → ((m : N) → Piece T K P N Sem (Sem m)) → Type 0
Passes {N} same tables rule = (m : N) → wrongs same tables rule m ≡ []
