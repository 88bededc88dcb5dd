-- What holds by each rule holds of all that a grammar says.
use Rattle.std.proofs.Common.{◌≡◌, inl, inr, ℕ, zero, suc, ◌+◌, List, length, sym, ap, subst, arith, length-append}
use Rattle.campl_gram.specs.Grammar.{Terminals, Piece, tok, pure, seq, alt, deeper, at, nt, Nested, bare, place_at}
use Rattle.campl_gram.specs.Grammar as grammar

module _ {T K P : Type 0} (s : Terminals T K P) (N : Type 0) (Sem : N → Type 0) where
  -- something said of the tokens of each name
  abbrev Meaning : Type 1
  Meaning = (m : N) → ℕ → List (Nested T) → Sem m → Type 0

  -- what is said of a piece
  abbrev Has : {A : Type 0} → Meaning → Piece T K P N Sem A → ℕ → List (Nested T) → A → Type 0
  Has = grammar.Has s N Sem

  -- what is said of names is said of a piece
  pub has-map : {A : Type 0} (h k : Meaning) → ((m : N) (d : ℕ) (w : List (Nested T)) (x : Sem m) → h m d w x → k m d w x)
      → (g : Piece T K P N Sem A) (d : ℕ) (w : List (Nested T)) (x : A) → Has h g d w x → Has k g d w x
  has-map h k f (tok j) d w x has = has
  has-map h k f (pure y) d w x has = has
  has-map h k f (seq r a b) d w x has =
      (has.0, has.1, has.2, has.3, has-map h k f a d has.2 has.0 has.4, has-map h k f b d has.3 has.1 has.5, has.6, has.7)
  has-map h k f (alt a b) d w x (inl has) = inl (has-map h k f a d w x has)
  has-map h k f (alt a b) d w x (inr has) = inr (has-map h k f b d w x has)
  has-map h k f (deeper g) d w x has = has-map h k f g (suc d) w x has
  has-map h k f (at g) d w x has = (has.0, has-map h k f g d w has.0 has.1, has.2)
  has-map h k f (nt m) d w x has = f m d w x has

  module _ (rule : (m : N) → Piece T K P N Sem (Sem m)) where
    -- By each rule, where it holds of the names within, it holds of the whole: then it holds of each name.
    pub by_rules : (Q : Meaning) → ((m : N) (d : ℕ) (w : List (Nested T)) (x : Sem m) → Has Q (rule m) d w x → Q m d w x)
        → (m : N) (d : ℕ) (w : List (Nested T)) (x : Sem m) → grammar.IsA s N Sem rule m d w x → Q m d w x
    by_rules Q each m d w x says = below says.0 m d w x says.1
      where
        below : (n : ℕ) (m : N) (d : ℕ) (w : List (Nested T)) (x : Sem m) → grammar.Says s N Sem rule n m d w x → Q m d w x
        below zero m d w x says = absurd says
        below (suc n) m d w x says = each m d w x (has-map (grammar.Says s N Sem rule n) Q (below n) (rule m) d w x says)

-- ---- how large a value is by the number of its tokens

-- R says which values a piece may have by so many tokens, and Q says it of the names: R holds of the piece where Q does.
pub record Measured {T K P N : Type 0} {Sem : N → Type 0} {A : Type 0} (s : Terminals T K P) (Q : (m : N) → Sem m → ℕ → Type 0) (g : Piece T K P N Sem A) (R : A → ℕ → Type 0) : Type 0 where
  pub by : (d : ℕ) (w : List (Nested T)) (x : A) → grammar.Has s N Sem (λ m d w x. Q m x (length w)) g d w x → R x (length w)

-- what has a name is as is said of it
pub measured-name : {T K P N : Type 0} {Sem : N → Type 0} {s : Terminals T K P} (Q : (m : N) → Sem m → ℕ → Type 0) (m : N) → Measured s Q (nt m) (Q m)
measured-name Q m = record { by = λ d w x has. has }

module _ {T K P N : Type 0} {Sem : N → Type 0} {s : Terminals T K P} {Q : (m : N) → Sem m → ℕ → Type 0} where
  -- a token is one token
  pub measured-tok : {k : K} {R : T → ℕ → Type 0} → ((t : T) → R t 1) → Measured s Q (tok k) R
  measured-tok {R = R} one = record { by = λ d w x has. subst (λ v. R x (length v)) (sym has.1) (one x) }

  -- no token is none
  pub measured-pure : {A : Type 0} {y : A} {R : A → ℕ → Type 0} → R y 0 → Measured s Q (pure y) R
  measured-pure {R = R} none = record { by = λ d w x has. subst (λ v. R x (length v)) (sym has.0) (subst (λ z. R z 0) (sym has.1) none) }

  -- the one and then the other have the tokens of both
  pub measured-seq : {A B C : Type 0} {f : A → B → C} {a : Piece T K P N Sem A} {b : Piece T K P N Sem B} {R : C → ℕ → Type 0}
      (Ra : A → ℕ → Type 0) (Rb : B → ℕ → Type 0) → Measured s Q a Ra → Measured s Q b Rb
      → ((x : A) (y : B) (i j : ℕ) → Ra x i → Rb y j → R (f x y) (i + j)) → Measured s Q (seq f a b) R
  measured-seq {R = R} Ra Rb ma mb both = record {
    by = λ d w v has.
        let e : length has.2 + length has.3 ≡ length w = omega (arith, ap length has.6, length-append has.2 has.3) in
        subst (R v) e (subst (λ z. R z (length has.2 + length has.3)) (sym has.7)
        (both has.0 has.1 (length has.2) (length has.3) (ma.by d has.2 has.0 has.4) (mb.by d has.3 has.1 has.5)));
  }

  -- the one or the other
  pub measured-alt : {A : Type 0} {a b : Piece T K P N Sem A} {R : A → ℕ → Type 0} → Measured s Q a R → Measured s Q b R → Measured s Q (alt a b) R
  measured-alt {a = a} {b = b} {R = R} ma mb = record { by = λ d w x has. by d w x has }
    where
      by : (d : ℕ) (w : List (Nested T)) (x : _) → grammar.Has s N Sem (λ m d w x. Q m x (length w)) (alt a b) d w x → R x (length w)
      by d w x (inl has) = ma.by d w x has
      by d w x (inr has) = mb.by d w x has

  -- nested one deeper
  pub measured-deeper : {A : Type 0} {g : Piece T K P N Sem A} {R : A → ℕ → Type 0} → Measured s Q g R → Measured s Q (deeper g) R
  measured-deeper mg = record { by = λ d w x has. mg.by (suc d) w x has }

  -- with a place
  pub measured-at : {A : Type 0} {g : Piece T K P N Sem (P → A)} {R : A → ℕ → Type 0} → Measured s Q g (λ f n. (p : P) → R (f p) n) → Measured s Q (at g) R
  measured-at {R = R} mg = record { by = λ d w x has. subst (λ z. R z (length w)) (sym has.2) (mg.by d w has.0 has.1 (place_at s (bare w))) }

  -- By each rule it holds by the number of tokens: then it holds of each name.
  pub by_tokens : {rule : (m : N) → Piece T K P N Sem (Sem m)} → ((m : N) → Measured s Q (rule m) (Q m))
      → (m : N) (d : ℕ) (w : List (Nested T)) (x : Sem m) → grammar.IsA s N Sem rule m d w x → Q m x (length w)
  by_tokens {rule = rule} each m d w x says = by_rules s N Sem rule (λ m d w x. Q m x (length w)) (λ m. (each m).by) m d w x says
