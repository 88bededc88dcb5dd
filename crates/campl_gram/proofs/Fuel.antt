-- Reading by a grammar comes to an end, so a name is read as its rule is.
use Rattle.std.proofs.Common.{◌≡◌, ℕ, zero, suc, ◌+◌, ◌*◌, ◌≤◌, ◌<◌, max, Bool, true, false, ◌&&◌, ◌||◌, if◌then◌else◌, List, [], ◌∷◌, length, Ok, Err, refl, sym, ◌∙◌, ap, subst, arith, mul-le-mul_left, nat_le, ◌-◌}
use Rattle.campl_gram.specs.declared.fault.Fault.{Fault}
use Rattle.campl_gram.specs.Grammar.{Terminals, Piece, tok, pure, seq, alt, deeper, at, nt, place_at}
use Rattle.campl_gram.specs.Reading.{Tables, Outcome, and_then, next_in, expect}
use Rattle.campl_gram.specs.Reading as reading
use Rattle.campl_gram.specs.Tests as tests

-- how many tokens are taken at least
abbrev pub need : Bool → ℕ
need true = 0
need false = 1

-- how much of the tokens an outcome leaves: a piece that must have a token takes one
abbrev pub Leaves : {T A : Type 0} → Bool → Outcome T A → List T → Type 0
Leaves may (Ok x, us) ts = length us + need may ≤ length ts
Leaves may (Err e, us) ts = length us ≤ length ts

-- two readings one after the other take what each takes
leaves-then : {T A B : Type 0} (p q : Bool) (o : Outcome T A) (f : A → List T → Outcome T B) (ts : List T)
    → Leaves p o ts → ((x : A) (us : List T) → Leaves q (f x us) us) → Leaves (p && q) (and_then o f) ts
leaves-then p q (Err e, us) f ts h k = h
leaves-then p q (Ok x, us) f ts h k = leaves-more p q (f x us) us ts h (k x us)
  where
    leaves-more : {T B : Type 0} (p q : Bool) (o : Outcome T B) (us ts : List T) → length us + need p ≤ length ts → Leaves q o us → Leaves (p && q) o ts
    leaves-more true q (Ok y, vs) us ts h k = omega arith
    leaves-more false q (Ok y, vs) us ts h k = omega arith
    leaves-more p q (Err e, vs) us ts h k = omega arith

-- of two readings the one that is chosen takes what one of them takes
leaves-if : {T A : Type 0} (p q b : Bool) (o o' : Outcome T A) (ts : List T) → Leaves p o ts → Leaves q o' ts → Leaves (p || q) (if b then o else o') ts
leaves-if p q true (Err e, us) o' ts h k = h
leaves-if true q true (Ok x, us) o' ts h k = h
leaves-if false true true (Ok x, us) o' ts h k = omega arith
leaves-if false false true (Ok x, us) o' ts h k = h
leaves-if p q false o (Err e, us) ts h k = k
leaves-if true true false o (Ok x, us) ts h k = k
leaves-if true false false o (Ok x, us) ts h k = omega arith
leaves-if false q false o (Ok x, us) ts h k = k

-- a changed value takes no more tokens
leaves-map : {T A B : Type 0} (p : Bool) (o : Outcome T A) (f : A → B) (ts : List T) → Leaves p o ts → Leaves p (and_then o (λ x us. (Ok (f x), us))) ts
leaves-map p (Ok x, us) f ts h = h
leaves-map p (Err e, us) f ts h = h

-- a wanted token is taken
pub leaves-expect : {T K P : Type 0} (s : Terminals T K P) (limit : ℕ) (k : K) (d : ℕ) (ts : List T) → Leaves false (expect s limit k d ts) ts
leaves-expect s limit k d [] = omega arith
leaves-expect {T} s limit k d (t ∷ ts) = by t ts (s.fits k t) (nat_le d limit)
  where
    by : (t : T) (ts : List T) (b c : Bool) → Leaves false (if b then (if c then (Ok t, ts) else (Err Fault.TooDeep, t ∷ ts)) else (Err Fault.Unexpected, t ∷ ts)) (t ∷ ts)
    by t ts true true = omega arith
    by t ts true false = omega arith
    by t ts false c = omega arith

-- two ways to go on are alike where they are at the tokens that can be left
then-same : {T A B : Type 0} (p : Bool) (o : Outcome T A) (f g : A → List T → Outcome T B) (ts : List T)
    → Leaves p o ts → ((x : A) (us : List T) → length us + need p ≤ length ts → f x us ≡ g x us) → and_then o f ≡ and_then o g
then-same p (Err e, us) f g ts h k = refl
then-same p (Ok x, us) f g ts h k = k x us h

module _ {T K P : Type 0} (s : Terminals T K P) (N : Type 0) (Sem : N → Type 0) (tables : Tables K N) (limit : ℕ) where
  -- something that reads each name
  abbrev pub Reader : Type 0
  Reader = (m : N) → ℕ → List T → Outcome T (Sem m)

  -- whether a piece may have no token
  abbrev pub may : {A : Type 0} → Piece T K P N Sem A → Bool
  may = reading.nullable tables

  -- how high a piece leads
  abbrev pub lead : {A : Type 0} → Piece T K P N Sem A → ℕ
  lead = tests.lead tables

  -- reads a piece
  abbrev pub by : {A : Type 0} → Reader → Piece T K P N Sem A → ℕ → List T → Outcome T A
  by = reading.read_by s N Sem tables limit

  -- the kinds with which it may begin
  abbrev firsts : {A : Type 0} → Piece T K P N Sem A → List K
  firsts = reading.first tables

  -- a name takes a token unless it may have none
  abbrev pub LeavesAll : Reader → Type 0
  LeavesAll r = (m : N) (d : ℕ) (ts : List T) → Leaves (tables.nul m) (r m d ts) ts

  -- a piece takes a token unless it may have none
  pub leaves : {A : Type 0} (r : Reader) → LeavesAll r → (g : Piece T K P N Sem A) (d : ℕ) (ts : List T) → Leaves (may g) (by r g d ts) ts
  leaves r h (tok k) d ts = leaves-expect s limit k d ts
  leaves r h (pure x) d ts = omega arith
  leaves r h (seq f a b) d ts =
      leaves-then (may a) (may b) (by r a d ts) (λ x us. and_then (by r b d us) (λ y vs. (Ok (f x y), vs))) ts (leaves r h a d ts)
      (λ x us. leaves-map (may b) (by r b d us) (f x) us (leaves r h b d us))
  leaves r h (alt a b) d ts = leaves-if (may a) (may b) (next_in s (firsts a) ts) (by r a d ts) (by r b d ts) ts (leaves r h a d ts) (leaves r h b d ts)
  leaves r h (deeper g) d ts = leaves r h g (suc d) ts
  leaves r h (at g) d ts = leaves-map (may g) (by r g d ts) (λ f. f (place_at s ts)) ts (leaves r h g d ts)
  leaves r h (nt m) d ts = h m d ts

  -- two readers agree below a height
  abbrev Agrees : Reader → Reader → ℕ → Type 0
  Agrees r z w = (m : N) (d : ℕ) (ts : List T) → tables.rank m + tables.ranks * length ts < w → r m d ts ≡ z m d ts

  module _ (low : (m : N) → tables.rank m < tables.ranks) where
    -- no piece leads higher than the ranks
    lead-low : {A : Type 0} (g : Piece T K P N Sem A) → lead g ≤ tables.ranks
    lead-low (tok k) = omega arith
    lead-low (pure x) = omega arith
    lead-low (seq f a b) = lead-if (may a) (lead a) (lead b) (lead-low a) (lead-low b)
      where
        lead-if : (p : Bool) (x y : ℕ) → x ≤ tables.ranks → y ≤ tables.ranks → (if p then max x y else x) ≤ tables.ranks
        lead-if true x y h k = omega arith
        lead-if false x y h k = h
    lead-low (alt a b) = let h : lead a ≤ tables.ranks = lead-low a in let k : lead b ≤ tables.ranks = lead-low b in omega arith
    lead-low (deeper g) = lead-low g
    lead-low (at g) = lead-low g
    lead-low (nt m) = low m

    -- readers that agree below a height read a piece of that height alike
    agree : {A : Type 0} (r z : Reader) (w : ℕ) → Agrees r z w → LeavesAll r → (g : Piece T K P N Sem A) (d : ℕ) (ts : List T)
        → lead g + tables.ranks * length ts ≤ w → by r g d ts ≡ by z g d ts
    agree r z w h l (tok k) d ts e = refl
    agree r z w h l (pure x) d ts e = refl
    agree r z w h l (seq f a b) d ts e =
        then-same (may a) (by r a d ts) (λ x us. and_then (by r b d us) (λ y vs. (Ok (f x y), vs))) (λ x us. and_then (by z b d us) (λ y vs. (Ok (f x y), vs))) ts
        (leaves r l a d ts)
        (λ x us n. ap (λ o. and_then o (λ y vs. (Ok (f x y), vs))) (agree r z w h l b d us (second (may a) (lead a) (lead b) (length us) (length ts) w (lead-low b) e n)))
        ∙ ap (λ o. and_then o (λ x us. and_then (by z b d us) (λ y vs. (Ok (f x y), vs)))) (agree r z w h l a d ts (first (may a) (lead a) (lead b) (tables.ranks * length ts) w e))
      where
        second : (p : Bool) (x y n m w : ℕ) → y ≤ tables.ranks → (if p then max x y else x) + tables.ranks * m ≤ w → n + need p ≤ m → y + tables.ranks * n ≤ w
        second true x y n m w low h k = omega (arith, mul-le-mul_left tables.ranks k)
        second false x y n m w low h k = omega (arith, mul-le-mul_left tables.ranks k)

        first : (p : Bool) (x y m w : ℕ) → (if p then max x y else x) + m ≤ w → x + m ≤ w
        first true x y m w h = omega arith
        first false x y m w h = h
    agree r z w h l (alt a b) d ts e =
        ap (λ o. if next_in s (firsts a) ts then o else by r b d ts) (agree r z w h l a d ts (omega arith))
        ∙ ap (λ o. if next_in s (firsts a) ts then by z a d ts else o) (agree r z w h l b d ts (omega arith))
    agree r z w h l (deeper g) d ts e = agree r z w h l g (suc d) ts e
    agree r z w h l (at g) d ts e = ap (λ o. and_then o (λ f us. (Ok (f (place_at s ts)), us))) (agree r z w h l g d ts e)
    agree r z w h l (nt m) d ts e = h m d ts (omega arith)

    module _ (rule : (m : N) → Piece T K P N Sem (Sem m)) (leads : (m : N) → lead (rule m) ≤ tables.rank m) (nuls : (m : N) → may (rule m) ≡ tables.nul m) where
      -- reads a name to a height
      abbrev pub below : ℕ → Reader
      below = reading.read_below s N Sem tables limit rule

      -- reads a name
      abbrev pub read : Reader
      read = reading.read s N Sem tables limit rule

      -- a name takes a token unless it may have none, to whatever height it is read
      pub leaves-below : (n : ℕ) → LeavesAll (below n)
      leaves-below zero m d ts = omega arith
      leaves-below (suc n) m d ts = subst (λ p. Leaves p (by (below n) (rule m) d ts) ts) (nuls m) (leaves (below n) (leaves-below n) (rule m) d ts)

      -- one more call changes nothing
      step : (n : ℕ) (m : N) (d : ℕ) (ts : List T) → tables.rank m + tables.ranks * length ts < n → below n m d ts ≡ below (suc n) m d ts
      step zero m d ts h = absurd (omega arith)
      step (suc n) m d ts h =
          let low : lead (rule m) ≤ tables.rank m = leads m in
          agree (below n) (below (suc n)) n (step n) (leaves-below n) (rule m) d ts (omega arith)

      -- nor do many more
      steps : (j n : ℕ) (m : N) (d : ℕ) (ts : List T) → tables.rank m + tables.ranks * length ts < n → below n m d ts ≡ below (j + n) m d ts
      steps zero n m d ts h = ap (λ k. below k m d ts) (let e : n ≡ 0 + n = omega arith in e)
      steps (suc j) n m d ts h =
          let e : suc (j + n) ≡ suc j + n = omega arith in
          steps j n m d ts h ∙ step (j + n) m d ts (omega arith) ∙ ap (λ k. below k m d ts) e

      -- to read to any height above that of the tokens is to read
      pub enough : (n : ℕ) (m : N) (d : ℕ) (ts : List T) → tables.rank m + tables.ranks * length ts < n → below n m d ts ≡ read m d ts
      unfolding reading.read
      enough n m d ts h =
          let k = suc (tables.rank m + tables.ranks * length ts) in
          let e : (n - k) + k ≡ n = omega arith in
          sym (steps (n - k) k m d ts (omega arith) ∙ ap (λ i. below i m d ts) e)

      -- a name is read as its rule is
      pub reads : (m : N) (d : ℕ) (ts : List T) → read m d ts ≡ by read (rule m) d ts
      unfolding reading.read
      reads m d ts =
          let low : lead (rule m) ≤ tables.rank m = leads m in
          let k = tables.rank m + tables.ranks * length ts in
          agree (below k) read k (enough k) (leaves-below k) (rule m) d ts (omega arith)

      -- a name takes a token unless it may have none
      pub leaves-read : (m : N) (d : ℕ) (ts : List T) → Leaves (tables.nul m) (read m d ts) ts
      unfolding reading.read
      leaves-read m d ts = leaves-below (suc (tables.rank m + tables.ranks * length ts)) m d ts
