-- What is in the grammar is read, and nothing else is read there.
use Rattle.std.proofs.Common.{◌≡◌, inl, inr, ℕ, suc, Bool, true, false, not, ◌&&◌, if◌then◌else◌, List, [], ◌∷◌, ◌++◌, Ok, Err, refl, sym, ◌∙◌, ap, subst, nat_le, append_assoc, true≢false}
use Rattle.campl_gram.specs.declared.fault.Fault.TheVariants.{Unexpected, TooDeep}
use Rattle.campl_gram.specs.Grammar.{Terminals, Piece, tok, pure, seq, alt, deeper, at, nt, place_at, Nested, bare}
use Rattle.campl_gram.specs.Grammar as grammar
use Rattle.campl_gram.specs.Reading.{Tables, Outcome, and_then, expect, is_any, next_in}
use Rattle.campl_gram.specs.Reading as reading
use Rattle.campl_gram.specs.Tests.{Distinct, disjoint}
use Rattle.campl_gram.specs.Tests as tests
use Rattle.campl_gram.proofs.Sets.{and-left, and-right, not-true, and-both, or-left, or-right, is_any-front, is_any-back, next-front, next-back}
use Rattle.campl_gram.proofs.Sets as sets
use Rattle.campl_gram.proofs.Found.{bare-append}

module _ {T : Type 0} (limit : ℕ) where
  -- what is to be read of tokens with their nesting that have the value x
  abbrev pub verdict : {A : Type 0} → List (Nested T) → A → List T → Outcome T A
  verdict [] x rest = (Ok x, rest)
  verdict (p ∷ w) x rest = if nat_le p.1 limit then verdict w x rest else (Err TooDeep, p.0 ∷ (bare w ++ rest))

  -- a changed value has the same verdict
  verdict-map : {A B : Type 0} (f : A → B) (w : List (Nested T)) (x : A) (rest : List T)
      → and_then (verdict w x rest) (λ y us. (Ok (f y), us)) ≡ verdict w (f x) rest
  verdict-map f [] x rest = refl
  verdict-map f (p ∷ w) x rest = by (nat_le p.1 limit) (verdict-map f w x rest)
    where
      by : (c : Bool) → and_then (verdict w x rest) (λ y us. (Ok (f y), us)) ≡ verdict w (f x) rest
          → and_then (if c then verdict w x rest else (Err TooDeep, p.0 ∷ (bare w ++ rest))) (λ y us. (Ok (f y), us))
          ≡ (if c then verdict w (f x) rest else (Err TooDeep, p.0 ∷ (bare w ++ rest)))
      by true e = e
      by false e = refl

  -- the verdict of two lists is that of the second after the first
  verdict-then : {A B : Type 0} (y : B) (k : A → List T → Outcome T B) (p q : List (Nested T)) (x : A) (rest : List T)
      → k x (bare q ++ rest) ≡ verdict q y rest → and_then (verdict p x (bare q ++ rest)) k ≡ verdict (p ++ q) y rest
  verdict-then y k [] q x rest e = e
  verdict-then y k (t ∷ p) q x rest e = by (nat_le t.1 limit) (verdict-then y k p q x rest e)
    where
      same-rest : bare p ++ (bare q ++ rest) ≡ bare (p ++ q) ++ rest
      same-rest = sym (append_assoc (bare p) (bare q) rest) ∙ ap (λ l. l ++ rest) (sym (bare-append p q))

      by : (c : Bool) → and_then (verdict p x (bare q ++ rest)) k ≡ verdict (p ++ q) y rest
          → and_then (if c then verdict p x (bare q ++ rest) else (Err TooDeep, t.0 ∷ (bare p ++ (bare q ++ rest)))) k
          ≡ (if c then verdict (p ++ q) y rest else (Err TooDeep, t.0 ∷ (bare (p ++ q) ++ rest)))
      by true e = e
      by false e = ap (λ l. (Err TooDeep, t.0 ∷ l)) same-rest

-- the place of tokens is that of a front that has a token
place-front : {T K P : Type 0} (s : Terminals T K P) (w : List (Nested T)) (rest : List T) → (w ≡ [] → ⊥) → place_at s (bare w ++ rest) ≡ place_at s (bare w)
place-front s [] rest h = absurd (h refl)
place-front s (p ∷ w) rest h = refl

module _ {T K P : Type 0} (s : Terminals T K P) (N : Type 0) (Sem : N → Type 0) (tables : Tables K N) (same : K → K → Bool) (laws : Distinct s same) (limit : ℕ) where
  -- something that reads each name
  abbrev Reader : Type 0
  Reader = (m : N) → ℕ → List T → Outcome T (Sem m)

  -- something said of the tokens of each name
  abbrev Meaning : Type 1
  Meaning = (m : N) → ℕ → List (Nested T) → Sem m → Type 0

  -- reads a piece
  abbrev by : {A : Type 0} → Reader → Piece T K P N Sem A → ℕ → List T → Outcome T A
  by = reading.read_by s N Sem tables limit

  -- whether a piece may have no token
  abbrev may : {A : Type 0} → Piece T K P N Sem A → Bool
  may = reading.nullable tables

  -- the kinds with which it may begin
  abbrev firsts : {A : Type 0} → Piece T K P N Sem A → List K
  firsts = reading.first tables

  -- what is said of a piece
  abbrev Has : {A : Type 0} → Meaning → Piece T K P N Sem A → ℕ → List (Nested T) → A → Type 0
  Has = grammar.Has s N Sem

  -- the kinds with which it could go on
  abbrev conts : {A : Type 0} → Piece T K P N Sem A → List K
  conts = tests.goes_on tables

  -- the next token tells which way to go
  abbrev tells : {A : Type 0} → Piece T K P N Sem A → Bool
  tells = tests.decides tables same

  module _ (h : Meaning) (nuls : (m : N) (d : ℕ) (x : Sem m) → h m d [] x → tables.nul m ≡ true) where
    -- equal lists begin alike
    head-is : (p q : Nested T) (v w : List (Nested T)) → p ∷ v ≡ q ∷ w → p ≡ q
    head-is p q v w e = cc

    -- of two lists that make none each is none
    append-none : (p q : List (Nested T)) → [] ≡ p ++ q → (p ≡ []) × (q ≡ [])
    append-none [] q e = (refl, sym e)
    append-none (x ∷ p) q e = cc

    -- only a piece that may have no token has none
    pub may-none : {A : Type 0} (g : Piece T K P N Sem A) (d : ℕ) (w : List (Nested T)) (x : A) → w ≡ [] → Has h g d w x → may g ≡ true
    may-none (tok k) d w x e has = let e' = has.1 in cc
    may-none (pure y) d w x e has = refl
    may-none (seq f a b) d w x e has =
        let none = append-none has.2 has.3 (sym e ∙ has.6) in
        and-both (may a) (may b) (may-none a d has.2 has.0 none.0 has.4) (may-none b d has.3 has.1 none.1 has.5)
    may-none (alt a b) d w x e (inl has) = or-left (may a) (may b) (may-none a d w x e has)
    may-none (alt a b) d w x e (inr has) = or-right (may a) (may b) (may-none b d w x e has)
    may-none (deeper g) d w x e has = may-none g (suc d) w x e has
    may-none (at g) d w x e has = may-none g d w has.0 e has.1
    may-none (nt m) d w x e has = nuls m d x (subst (λ v. h m d v x) e has)

    -- a token of the first kinds, with the second or without
    if-front : (c : Bool) (t : T) (ks js : List K) → is_any s ks t ≡ true → is_any s (if c then ks ++ js else ks) t ≡ true
    if-front true t ks js e = is_any-front s ks js t e
    if-front false t ks js e = e

    -- a token of the second kinds, where they count
    if-back : (c : Bool) (t : T) (ks js : List K) → c ≡ true → is_any s js t ≡ true → is_any s (if c then ks ++ js else ks) t ≡ true
    if-back true t ks js c e = is_any-back s ks js t e
    if-back false t ks js c e = cc

    -- the first token of two pieces is one of the first, or of the second if the first may have none
    first-of-two : {A B : Type 0} (a : Piece T K P N Sem A) (b : Piece T K P N Sem B) (d : ℕ) (x : A) (y : B) (u q : List (Nested T)) (p : Nested T) (v : List (Nested T))
        → Has h a d u x → p ∷ v ≡ u ++ q
        → ((w : List (Nested T)) → u ≡ p ∷ w → is_any s (firsts a) p.0 ≡ true) → (q ≡ p ∷ v → is_any s (firsts b) p.0 ≡ true)
        → is_any s (if may a then firsts a ++ firsts b else firsts a) p.0 ≡ true
    first-of-two a b d x y [] q p v has e fa fb = if-back (may a) p.0 (firsts a) (firsts b) (may-none a d [] x refl has) (fb (sym e))
    first-of-two a b d x y (t ∷ u) q p v has e fa fb = if-front (may a) p.0 (firsts a) (firsts b) (fa u (let is : t ≡ p = cc in ap (λ z. z ∷ u) is))

    module _ (starts : (m : N) (d : ℕ) (p : Nested T) (w : List (Nested T)) (x : Sem m) → h m d (p ∷ w) x → is_any s (tables.starts m) p.0 ≡ true) where
      -- a piece begins with a kind that it may begin with
      pub first-is : {A : Type 0} (g : Piece T K P N Sem A) (d : ℕ) (w : List (Nested T)) (x : A) → Has h g d w x
          → (p : Nested T) (v : List (Nested T)) → w ≡ p ∷ v → is_any s (firsts g) p.0 ≡ true
      first-is (tok k) d w x has p v e = let is : p ≡ (x, d) = head-is p (x, d) v [] (sym e ∙ has.1) in ap (λ y. s.fits k y.0) is ∙ has.0
      first-is (pure y) d w x has p v e = let n = has.0 in cc
      first-is (seq f a b) d w x has p v e =
          first-of-two a b d has.0 has.1 has.2 has.3 p v has.4 (sym e ∙ has.6) (λ u e'. first-is a d has.2 has.0 has.4 p u e') (λ e'. first-is b d has.3 has.1 has.5 p v e')
      first-is (alt a b) d w x (inl has) p v e = is_any-front s (firsts a) (firsts b) p.0 (first-is a d w x has p v e)
      first-is (alt a b) d w x (inr has) p v e = is_any-back s (firsts a) (firsts b) p.0 (first-is b d w x has p v e)
      first-is (deeper g) d w x has p v e = first-is g (suc d) w x has p v e
      first-is (at g) d w x has p v e = first-is g d w has.0 has.1 p v e
      first-is (nt m) d w x has p v e = starts m d p v x (subst (λ u. h m d u x) e has)

      module _ (r : Reader) (only : (m : N) (d : ℕ) (w : List (Nested T)) (x : Sem m) (rest : List T)
          → h m d w x → next_in s (tables.conts m) rest ≡ false → r m d (bare w ++ rest) ≡ verdict limit w x rest) where
        -- a piece that must have a token has one
        with-not : {A : Type 0} (g : Piece T K P N Sem A) (d : ℕ) (w : List (Nested T)) (x : A) → not (may g) ≡ true → Has h g d w x → w ≡ [] → ⊥
        with-not g d w x n has e = true≢false (sym (may-none g d w x e has) ∙ not-true (may g) n)

        -- the second part, or what follows it, cannot belong to the first
        over : {A B : Type 0} (a : Piece T K P N Sem A) (b : Piece T K P N Sem B) (d : ℕ) (q : List (Nested T)) (y : B) (rest : List T) → disjoint same (firsts b) (conts a) ≡ true
            → Has h b d q y → next_in s (conts b ++ (if may b then conts a else [])) rest ≡ false → next_in s (conts a) (bare q ++ rest) ≡ false
        over a b d [] y rest apt has n =
            ap (λ c. next_in s (if c then conts a else []) rest) (sym (may-none b d [] y refl has)) ∙ next-back s (conts b) (if may b then conts a else []) rest n
        over a b d (t ∷ q) y rest apt has n = sets.apart s same laws (firsts b) (conts a) t.0 apt (first-is b d (t ∷ q) y has t q refl)

        -- the first token of the one tells that it is the one
        left : {A : Type 0} (a : Piece T K P N Sem A) (d : ℕ) (w : List (Nested T)) (x : A) (rest : List T) → not (may a) ≡ true → Has h a d w x
            → next_in s (firsts a) (bare w ++ rest) ≡ true
        left a d [] x rest n has = absurd (with-not a d [] x n has refl)
        left a d (t ∷ w) x rest n has = first-is a d (t ∷ w) x has t w refl

        -- the first token of the other tells that it is not the one
        right : {A : Type 0} (a b : Piece T K P N Sem A) (d : ℕ) (w : List (Nested T)) (x : A) (rest : List T) → disjoint same (firsts b) (firsts a) ≡ true → Has h b d w x
            → next_in s (if may b then firsts a else []) rest ≡ false → next_in s (firsts a) (bare w ++ rest) ≡ false
        right a b d [] x rest apt has n = ap (λ c. next_in s (if c then firsts a else []) rest) (sym (may-none b d [] x refl has)) ∙ n
        right a b d (t ∷ w) x rest apt has n = sets.apart s same laws (firsts b) (firsts a) t.0 apt (first-is b d (t ∷ w) x has t w refl)

        -- What a piece has is read, unless the next token could go on with it.
        pub only-by : {A : Type 0} (g : Piece T K P N Sem A) → tells g ≡ true → (d : ℕ) (w : List (Nested T)) (x : A) (rest : List T)
            → Has h g d w x → next_in s (conts g) rest ≡ false → by r g d (bare w ++ rest) ≡ verdict limit w x rest
        only-by (tok k) ok d w x rest has n =
            ap (λ u. expect s limit k d (bare u ++ rest)) has.1
            ∙ ap (λ c. if c then (if nat_le d limit then (Ok x, rest) else (Err TooDeep, x ∷ rest)) else (Err Unexpected, x ∷ rest)) has.0
            ∙ ap (λ u. verdict limit u x rest) (sym has.1)
        only-by (pure y) ok d w x rest has n =
            ap (λ u. (Ok y, bare u ++ rest)) has.0 ∙ ap (λ z. (Ok z, rest)) (sym has.1) ∙ ap (λ u. verdict limit u x rest) (sym has.0)
        only-by (seq {A} {B} {C} f a b) ok d w x rest has n =
            let x' = has.0 in let y' = has.1 in let p = has.2 in let q = has.3 in
            let oks = and-right (disjoint same (firsts b) (conts a)) (tells a && tells b) ok in
            let k : A → List T → Outcome T C = λ z us. and_then (by r b d us) (λ y vs. (Ok (f z y), vs)) in
            let after : k x' (bare q ++ rest) ≡ verdict limit q (f x' y') rest =
            ap (λ o. and_then o (λ y vs. (Ok (f x' y), vs))) (only-by b (and-right (tells a) (tells b) oks) d q y' rest has.5 (next-front s (conts b) (if may b then conts a else []) rest n))
            ∙ verdict-map limit (f x') q y' rest in
            ap (λ u. and_then (by r a d (bare u ++ rest)) k) has.6
            ∙ ap (λ l. and_then (by r a d l) k) (ap (λ l. l ++ rest) (bare-append p q) ∙ append_assoc (bare p) (bare q) rest)
            ∙ ap (λ o. and_then o k) (only-by a (and-left (tells a) (tells b) oks) d p x' (bare q ++ rest) has.4
            (over a b d q y' rest (and-left (disjoint same (firsts b) (conts a)) (tells a && tells b) ok) has.5 n))
            ∙ verdict-then limit (f x' y') k p q x' rest after
            ∙ ap (λ u. verdict limit u (f x' y') rest) (sym has.6)
            ∙ ap (λ z. verdict limit w z rest) (sym has.7)
        only-by (alt a b) ok d w x rest (inl has) n =
            let oks = and-right (disjoint same (firsts b) (firsts a)) (tells a && tells b) (and-right (not (may a)) (disjoint same (firsts b) (firsts a) && (tells a && tells b)) ok) in
            ap (λ c. if c then by r a d (bare w ++ rest) else by r b d (bare w ++ rest)) (left a d w x rest (and-left (not (may a)) (disjoint same (firsts b) (firsts a) && (tells a && tells b)) ok) has)
            ∙ only-by a (and-left (tells a) (tells b) oks) d w x rest has (next-front s (conts a) (conts b ++ (if may b then firsts a else [])) rest n)
        only-by (alt a b) ok d w x rest (inr has) n =
            let both = and-right (not (may a)) (disjoint same (firsts b) (firsts a) && (tells a && tells b)) ok in
            let oks = and-right (disjoint same (firsts b) (firsts a)) (tells a && tells b) both in
            let n' = next-back s (conts a) (conts b ++ (if may b then firsts a else [])) rest n in
            ap (λ c. if c then by r a d (bare w ++ rest) else by r b d (bare w ++ rest))
            (right a b d w x rest (and-left (disjoint same (firsts b) (firsts a)) (tells a && tells b) both) has (next-back s (conts b) (if may b then firsts a else []) rest n'))
            ∙ only-by b (and-right (tells a) (tells b) oks) d w x rest has (next-front s (conts b) (if may b then firsts a else []) rest n')
        only-by (deeper g) ok d w x rest has n = only-by g ok (suc d) w x rest has n
        only-by (at g) ok d w x rest has n =
            ap (λ o. and_then o (λ f us. (Ok (f (place_at s (bare w ++ rest))), us))) (only-by g (and-right (not (may g)) (tells g) ok) d w has.0 rest has.1 n)
            ∙ verdict-map limit (λ f. f (place_at s (bare w ++ rest))) w has.0 rest
            ∙ ap (λ z. verdict limit w z rest) (ap has.0 (place-front s w rest (with-not g d w has.0 (and-left (not (may g)) (tells g) ok) has.1)) ∙ sym has.2)
        only-by (nt m) ok d w x rest has n = only m d w x rest has n
