-- How one reads by a grammar, from left to right and with one token of lookahead.
use Rattle.std.specs.Prelude.{ℕ, zero, suc, ◌+◌, ◌*◌, Bool, true, false, ◌&&◌, ◌||◌, if◌then◌else◌, nat_le, List, [], ◌∷◌, ◌++◌, length, Result, Ok, Err}
use Rattle.campl_gram.specs.declared.fault.Fault.{Fault}
use Rattle.campl_gram.specs.declared.fault.Fault.TheVariants.{Unexpected, TooDeep}
use Rattle.campl_gram.specs.Grammar.{Terminals, Piece, tok, pure, seq, alt, deeper, at, nt, place_at}

-- What is known of each name beside its rule: enough to read without going back, and to tell where reading went wrong.
pub record Tables (K N : Type 0) : Type 0 where
  -- whether it may have no token
  pub nul : N → Bool
  -- the kinds of token that it may begin with
  pub starts : N → List K
  -- the kinds of token with which one that is over could have gone on
  pub conts : N → List K
  -- above that of each name with which it may begin
  pub rank : N → ℕ
  -- above each rank
  pub ranks : ℕ
  -- how high its least derivation is
  pub tall : N → ℕ
  -- above the height of each least derivation
  pub talls : ℕ

-- what is found, and the tokens that are left; where there is a fault, these begin with the refused token
abbrev pub Outcome : Type 0 → Type 0 → Type 0
Outcome T A = Result A Fault × List T

-- goes on with what was found, but not after a fault
abbrev pub and_then : {T A B : Type 0} → Outcome T A → (A → List T → Outcome T B) → Outcome T B
and_then (Ok x, r) f = f x r
and_then (Err e, r) f = (Err e, r)

-- values that were found before stand in front: what a loop over a list has read and has still to read
abbrev pub adds : {T A : Type 0} → List A → Outcome T (List A) → Outcome T (List A)
adds front o = and_then o (λ xs r. (Ok (front ++ xs), r))

-- the token is of one of these kinds
abbrev pub is_any : {T K P : Type 0} → Terminals T K P → List K → T → Bool
is_any s [] t = false
is_any s (k ∷ []) t = s.fits k t
is_any s (k ∷ j ∷ ks) t = s.fits k t || is_any s (j ∷ ks) t

-- the next token is of one of these kinds
abbrev pub next_in : {T K P : Type 0} → Terminals T K P → List K → List T → Bool
next_in s ks [] = false
next_in s ks (t ∷ ts) = is_any s ks t

-- one token of the kind, nested d deep
abbrev pub expect : {T K P : Type 0} → Terminals T K P → ℕ → K → ℕ → List T → Outcome T T
expect s limit k d [] = (Err Unexpected, [])
expect s limit k d (t ∷ ts) = if s.fits k t then (if nat_le d limit then (Ok t, ts) else (Err TooDeep, t ∷ ts)) else (Err Unexpected, t ∷ ts)

module _ {T K P N : Type 0} {Sem : N → Type 0} (tables : Tables K N) where
  -- whether a piece may have no token
  abbrev pub nullable : {A : Type 0} → Piece T K P N Sem A → Bool
  nullable (tok k) = false
  nullable (pure x) = true
  nullable (seq f a b) = nullable a && nullable b
  nullable (alt a b) = nullable a || nullable b
  nullable (deeper g) = nullable g
  nullable (at g) = nullable g
  nullable (nt m) = tables.nul m

  -- the kinds of token that a piece may begin with
  abbrev pub first : {A : Type 0} → Piece T K P N Sem A → List K
  first (tok k) = k ∷ []
  first (pure x) = []
  first (seq f a b) = if nullable a then first a ++ first b else first a
  first (alt a b) = first a ++ first b
  first (deeper g) = first g
  first (at g) = first g
  first (nt m) = tables.starts m

module _ {T K P : Type 0} (s : Terminals T K P) (N : Type 0) (Sem : N → Type 0) (tables : Tables K N) (limit : ℕ) where
  -- Reads a piece, where r reads the names. Of two ways the first is taken where the next token may begin it.
  abbrev pub read_by : {A : Type 0} → ((m : N) → ℕ → List T → Outcome T (Sem m)) → Piece T K P N Sem A → ℕ → List T → Outcome T A
  read_by r (tok k) d ts = expect s limit k d ts
  read_by r (pure x) d ts = (Ok x, ts)
  read_by r (seq f a b) d ts = and_then (read_by r a d ts) (λ x us. and_then (read_by r b d us) (λ y vs. (Ok (f x y), vs)))
  read_by r (alt a b) d ts = if next_in s (first tables a) ts then read_by r a d ts else read_by r b d ts
  read_by r (deeper g) d ts = read_by r g (suc d) ts
  read_by r (at g) d ts = and_then (read_by r g d ts) (λ f us. (Ok (f (place_at s ts)), us))
  read_by r (nt m) d ts = r m d ts

  module _ (rule : (m : N) → Piece T K P N Sem (Sem m)) where
    -- reads a name by at most n calls one within the other
    abbrev pub read_below : ℕ → (m : N) → ℕ → List T → Outcome T (Sem m)
    read_below zero m d ts = (Err Unexpected, ts)
    read_below (suc n) m d ts = read_by (read_below n) (rule m) d ts

    -- how many calls one within the other the tokens can ask for
    abbrev pub height : N → List T → ℕ
    height m ts = tables.rank m + tables.ranks * length ts

    -- reads a name, nested d deep
    unfoldable pub read : (m : N) → ℕ → List T → Outcome T (Sem m)
    read m d ts = read_below (suc (height m ts)) m d ts
