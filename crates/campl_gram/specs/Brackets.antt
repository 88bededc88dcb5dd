-- Brackets of one sort in tokens and in pieces of a grammar.
use Rattle.std.specs.Prelude.{◌≡◌, ℕ, zero, suc, Bool, ◌==◌, if◌then◌else◌, Option, Some, None, List, [], ◌∷◌}
use Rattle.campl_gram.specs.Grammar.{Terminals, Piece, tok, pure, seq, alt, deeper, at, nt}

-- goes on with what was found
abbrev pub then_from : {A B : Type 0} → Option A → (A → Option B) → Option B
then_from (Some x) f = f x
then_from None f = None

-- ---- tokens

module _ {T K P : Type 0} (s : Terminals T K P) (opening closing : K) where
  -- how many brackets are open after the token, where n are open before it; none where one is closed that isn't open
  abbrev pub one_more : ℕ → T → Option ℕ
  one_more zero t = if s.fits opening t then Some 1 else (if s.fits closing t then None else Some 0)
  one_more (suc n) t = if s.fits opening t then Some (suc (suc n)) else (if s.fits closing t then Some n else Some (suc n))

  -- the same of all the tokens
  abbrev pub open_after : ℕ → List T → Option ℕ
  open_after n [] = Some n
  open_after n (t ∷ ts) = then_from (one_more n t) (λ k. open_after k ts)

  -- Each bracket is closed, and none is closed that isn't open.
  abbrev pub Balanced : List T → Type 0
  Balanced ts = open_after 0 ts ≡ Some 0

-- ---- pieces

-- where one is: before an outer pair of brackets, in it with so many more open, or behind it
pub data Spot : Type 0 where
  Before : Spot
  Inside : ℕ → Spot
  Behind : Spot

-- behind a closing bracket
abbrev pub leaving : ℕ → Spot
leaving zero = Behind
leaving (suc n) = Inside n

-- two ways that lead to one spot lead there
abbrev pub meet : Option Spot → Option Spot → Option Spot
meet (Some Before) (Some Before) = Some Before
meet (Some (Inside n)) (Some (Inside k)) = if n == k then Some (Inside n) else None
meet (Some Behind) (Some Behind) = Some Behind
meet _ _ = None

-- where one is after a token that opens, closes, or neither; outside the pair there is only the one that opens it
abbrev pub pass : Bool → Bool → Spot → Option Spot
pass opens closes Before = if opens then Some (Inside 0) else None
pass opens closes (Inside n) = Some (if opens then Inside (suc n) else (if closes then leaving n else Inside n))
pass opens closes Behind = None

-- a name stands within the pair
abbrev pub pass_name : Spot → Option Spot
pass_name Before = None
pass_name (Inside n) = Some (Inside n)
pass_name Behind = None

module _ {T K P N : Type 0} {Sem : N → Type 0} (same : K → K → Bool) (opening closing : K) where
  -- where one is after the piece, which is one and the same spot whatever its tokens
  abbrev pub through : {A : Type 0} → Piece T K P N Sem A → Spot → Option Spot
  through (tok k) p = pass (same k opening) (same k closing) p
  through (pure x) p = Some p
  through (seq f a b) p = then_from (through a p) (through b)
  through (alt a b) p = meet (through a p) (through b p)
  through (deeper g) p = through g p
  through (at g) p = through g p
  through (nt m) p = pass_name p

  -- Each rule closes the brackets that it opens and no others.
  abbrev pub RulesBalanced : ((m : N) → Piece T K P N Sem (Sem m)) → Type 0
  RulesBalanced rule = (m : N) → through (rule m) (Inside 0) ≡ Some (Inside 0)

  -- The piece begins with an opening bracket and ends with the one that closes it.
  abbrev pub Encloses : {A : Type 0} → Piece T K P N Sem A → Type 0
  Encloses g = through g Before ≡ Some Behind
