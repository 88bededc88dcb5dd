-- No proper front of a program is balanced, where its rules are and its own rule stands in brackets.
use Rattle.std.proofs.Common.{◌≡◌, inl, inr, ℕ, zero, suc, ◌+◌, Bool, true, false, ◌==◌, if◌then◌else◌, Option, Some, None, List, [], ◌∷◌, ◌++◌, Err, refl, sym, ◌∙◌, ap, subst, arith, append-nil, rules}
use Rattle.campl_gram.specs.declared.fault.Fault.{Fault}
use Rattle.campl_gram.specs.declared.fault.Fault.TheVariants.{Unexpected, TooDeep}
use Rattle.campl_gram.specs.Grammar.{Terminals, Piece, tok, pure, seq, alt, deeper, at, nt, Nested, bare}
use Rattle.campl_gram.specs.Grammar as grammar
use Rattle.campl_gram.specs.Verdicts.{Answers}
use Rattle.campl_gram.specs.Tests.{Distinct}
use Rattle.campl_gram.specs.Brackets.{then_from, open_after, Balanced, Spot, Before, Inside, Behind, leaving, meet, pass, through, RulesBalanced, Encloses}
use Rattle.campl_gram.proofs.Found.{bare-append}

-- numbers that pass the test are equal
same-number : (n k : ℕ) → (n == k) ≡ true → n ≡ k
same-number n k e = search rules

-- two ways that meet lead to one spot
meet-is : (a b : Option Spot) (p : Spot) → meet a b ≡ Some p → (a ≡ Some p) × (b ≡ Some p)
meet-is (Some Before) (Some Before) p e = (e, e)
meet-is (Some (Inside n)) (Some (Inside k)) p e = by (n == k) refl e
  where
    by : (c : Bool) → (n == k) ≡ c → (if c then Some (Inside n) else None) ≡ Some p → (Some (Inside n) ≡ Some p) × (Some (Inside k) ≡ Some p)
    by true is e = (e, ap (λ i. Some (Inside i)) (sym (same-number n k is)) ∙ e)
    by false is e = cc
meet-is (Some Behind) (Some Behind) p e = (e, e)
meet-is (Some Before) (Some (Inside k)) p e = cc
meet-is (Some Before) (Some Behind) p e = cc
meet-is (Some (Inside n)) (Some Before) p e = cc
meet-is (Some (Inside n)) (Some Behind) p e = cc
meet-is (Some Behind) (Some Before) p e = cc
meet-is (Some Behind) (Some (Inside k)) p e = cc
meet-is None b p e = cc
meet-is (Some Before) None p e = cc
meet-is (Some (Inside n)) None p e = cc
meet-is (Some Behind) None p e = cc

-- how many brackets are open at a spot
abbrev count : Spot → ℕ
count Before = 0
count (Inside n) = suc n
count Behind = 0

module _ {T K P : Type 0} (s : Terminals T K P) (opening closing : K) where
  -- where one is after the tokens
  abbrev pub run : Spot → List T → Option Spot
  run p [] = Some p
  run p (t ∷ ts) = then_from (pass (s.fits opening t) (s.fits closing t) p) (λ q. run q ts)

  -- two lists are passed one after the other
  run-append : (p : Spot) (u v : List T) → run p (u ++ v) ≡ then_from (run p u) (λ q. run q v)
  run-append p [] v = refl
  run-append p (t ∷ u) v = by (pass (s.fits opening t) (s.fits closing t) p) (λ q. run-append q u v)
    where
      by : (o : Option Spot) → ((q : Spot) → run q (u ++ v) ≡ then_from (run q u) (λ i. run i v))
          → then_from o (λ q. run q (u ++ v)) ≡ then_from (then_from o (λ q. run q u)) (λ q. run q v)
      by (Some q) more = more q
      by None more = refl

  -- where the spot is known, so is the number of open brackets
  run-counts : (p q : Spot) (u : List T) → run p u ≡ Some q → open_after s opening closing (count p) u ≡ Some (count q)
  run-counts p q [] e = ap (λ o. then_from o (λ i. Some (count i))) e
  run-counts Before q (t ∷ u) e = by (s.fits opening t) (s.fits closing t) e (λ p. run-counts p q u)
    where
      by : (b c : Bool) → then_from (pass b c Before) (λ i. run i u) ≡ Some q → ((p : Spot) → run p u ≡ Some q → open_after s opening closing (count p) u ≡ Some (count q))
          → then_from (if b then Some 1 else (if c then None else Some 0)) (λ k. open_after s opening closing k u) ≡ Some (count q)
      by true c e more = more (Inside 0) e
      by false c e more = cc
  run-counts (Inside n) q (t ∷ u) e = by n (s.fits opening t) (s.fits closing t) e (λ p. run-counts p q u)
    where
      by : (n : ℕ) (b c : Bool) → then_from (pass b c (Inside n)) (λ i. run i u) ≡ Some q → ((p : Spot) → run p u ≡ Some q → open_after s opening closing (count p) u ≡ Some (count q))
          → then_from (if b then Some (suc (suc n)) else (if c then Some n else Some (suc n))) (λ k. open_after s opening closing k u) ≡ Some (count q)
      by n true c e more = more (Inside (suc n)) e
      by zero false true e more = more Behind e
      by (suc n) false true e more = more (Inside n) e
      by n false false e more = more (Inside n) e
  run-counts Behind q (t ∷ u) e = cc

  -- within more brackets tokens lead to a spot within as many more
  run-within : (n k c : ℕ) (u : List T) → run (Inside n) u ≡ Some (Inside k) → run (Inside (n + c)) u ≡ Some (Inside (k + c))
  run-within n k c [] e = let is : n ≡ k = cc in ap (λ i. Some (Inside (i + c))) is
  run-within n k c (t ∷ u) e = by n (s.fits opening t) (s.fits closing t) e (λ m. run-within m k c u)
    where
      behind : (v : List T) → run Behind v ≡ Some (Inside k) → ⊥
      behind [] e = cc
      behind (x ∷ v) e = cc

      by : (n : ℕ) (a b : Bool) → then_from (pass a b (Inside n)) (λ i. run i u) ≡ Some (Inside k)
          → ((m : ℕ) → run (Inside m) u ≡ Some (Inside k) → run (Inside (m + c)) u ≡ Some (Inside (k + c)))
          → then_from (pass a b (Inside (n + c))) (λ i. run i u) ≡ Some (Inside (k + c))
      by n true b e more = ap (λ i. run (Inside i) u) (let m : suc (n + c) ≡ suc n + c = omega arith in m) ∙ more (suc n) e
      by zero false true e more = absurd (behind u e)
      by (suc n) false true e more = ap (λ i. run (leaving i) u) (let m : suc n + c ≡ suc (n + c) = omega arith in m) ∙ more n e
      by n false false e more = more n e

  -- no token leads to before the outer pair
  pass-never : (b c : Bool) (p : Spot) → pass b c p ≡ Some Before → ⊥
  pass-never true c Before e = cc
  pass-never false c Before e = cc
  pass-never true c (Inside n) e = cc
  pass-never false false (Inside n) e = cc
  pass-never false true (Inside zero) e = cc
  pass-never false true (Inside (suc n)) e = cc
  pass-never b c Behind e = cc

  -- nor do tokens
  run-never : (p : Spot) (t : T) (u : List T) → run p (t ∷ u) ≡ Some Before → ⊥
  run-never p t [] e = by (pass (s.fits opening t) (s.fits closing t) p) (pass-never (s.fits opening t) (s.fits closing t) p) e
    where
      by : (o : Option Spot) → (o ≡ Some Before → ⊥) → then_from o (λ q. Some q) ≡ Some Before → ⊥
      by (Some q) f e = f e
      by None f e = cc
  run-never p t (x ∷ u) e = by (pass (s.fits opening t) (s.fits closing t) p) (λ q. run-never q x u) e
    where
      by : (o : Option Spot) → ((q : Spot) → run q (x ∷ u) ≡ Some Before → ⊥) → then_from o (λ q. run q (x ∷ u)) ≡ Some Before → ⊥
      by (Some q) f e = f q e
      by None f e = cc

  -- in the middle of an outer pair one is inside
  run-middle : (t : T) (u : List T) (r : T) (v : List T) → run Before ((t ∷ u) ++ r ∷ v) ≡ Some Behind → (n : ℕ) × (run Before (t ∷ u) ≡ Some (Inside n))
  run-middle t u r v e = by (run Before (t ∷ u)) refl (sym (run-append Before (t ∷ u) (r ∷ v)) ∙ e)
    where
      by : (o : Option Spot) → run Before (t ∷ u) ≡ o → then_from o (λ q. run q (r ∷ v)) ≡ Some Behind → (n : ℕ) × (run Before (t ∷ u) ≡ Some (Inside n))
      by (Some Before) is e = absurd (run-never Before t u is)
      by (Some (Inside n)) is e = (n, is)
      by (Some Behind) is e = cc
      by None is e = cc

  module _ (same : K → K → Bool) (laws : Distinct s same) where
    -- a token of a kind is of another if the kinds are the same, and only then
    fits-same : (j k : K) (t : T) → s.fits j t ≡ true → s.fits k t ≡ same j k
    fits-same j k t f = by (same j k) refl
      where
        by : (c : Bool) → same j k ≡ c → s.fits k t ≡ c
        by true is = laws.alike j k t is f
        by false is = laws.apart j k t is f

    module _ (N : Type 0) (Sem : N → Type 0) where
      -- the pieces of this grammar
      abbrev Has : {A : Type 0} → ((m : N) → ℕ → List (Nested T) → Sem m → Type 0) → Piece T K P N Sem A → ℕ → List (Nested T) → A → Type 0
      Has = grammar.Has s N Sem

      -- where one is after a piece
      abbrev after : {A : Type 0} → Piece T K P N Sem A → Spot → Option Spot
      after = through same opening closing

      -- the tokens of each name lead back to where one was inside
      abbrev Keeps : ((m : N) → ℕ → List (Nested T) → Sem m → Type 0) → Type 0
      Keeps h = (m : N) (d : ℕ) (w : List (Nested T)) (x : Sem m) → h m d w x → (n : ℕ) → run (Inside n) (bare w) ≡ Some (Inside n)

      -- the tokens of a piece lead where the piece leads
      run-through : {A : Type 0} (h : (m : N) → ℕ → List (Nested T) → Sem m → Type 0) → Keeps h → (g : Piece T K P N Sem A) (p q : Spot) → after g p ≡ Some q
          → (d : ℕ) (w : List (Nested T)) (x : A) → Has h g d w x → run p (bare w) ≡ Some q
      run-through h keeps (tok k) p q e d w x has =
          ap (λ v. run p (bare v)) has.1
          ∙ ap (λ b. then_from (pass b (s.fits closing x) p) (λ i. Some i)) (fits-same k opening x has.0)
          ∙ ap (λ c. then_from (pass (same k opening) c p) (λ i. Some i)) (fits-same k closing x has.0)
          ∙ ap (λ o. then_from o (λ i. Some i)) e
      run-through h keeps (pure y) p q e d w x has = ap (λ v. run p (bare v)) has.0 ∙ e
      run-through h keeps (seq f a b) p q e d w x has =
          both (after a p) refl e (λ r is. run-through h keeps a p r is d has.2 has.0 has.4) (λ r is. run-through h keeps b r q is d has.3 has.1 has.5)
        where
          both : (o : Option Spot) → after a p ≡ o → then_from o (after b) ≡ Some q
              → ((r : Spot) → after a p ≡ Some r → run p (bare has.2) ≡ Some r) → ((r : Spot) → after b r ≡ Some q → run r (bare has.3) ≡ Some q)
              → run p (bare w) ≡ Some q
          both (Some r) is e left right =
              ap (λ v. run p (bare v)) has.6 ∙ ap (run p) (bare-append has.2 has.3) ∙ run-append p (bare has.2) (bare has.3)
              ∙ ap (λ o. then_from o (λ i. run i (bare has.3))) (left r is) ∙ right r e
          both None is e left right = cc
      run-through h keeps (alt a b) p q e d w x (inl has) = run-through h keeps a p q (meet-is (after a p) (after b p) q e).0 d w x has
      run-through h keeps (alt a b) p q e d w x (inr has) = run-through h keeps b p q (meet-is (after a p) (after b p) q e).1 d w x has
      run-through h keeps (deeper g) p q e d w x has = run-through h keeps g p q e (suc d) w x has
      run-through h keeps (at g) p q e d w x has = run-through h keeps g p q e d w has.0 has.1
      run-through h keeps (nt m) Before q e d w x has = cc
      run-through h keeps (nt m) (Inside n) q e d w x has = keeps m d w x has n ∙ e
      run-through h keeps (nt m) Behind q e d w x has = cc

      module _ (rule : (m : N) → Piece T K P N Sem (Sem m)) (balanced : RulesBalanced same opening closing rule) where
        -- a name's tokens close what they open
        keeps-says : (n : ℕ) → Keeps (grammar.Says s N Sem rule n)
        keeps-says zero m d w x says i = absurd says
        keeps-says (suc n) m d w x says i =
            ap (λ j. run (Inside j) (bare w)) (let z : i ≡ 0 + i = omega arith in z)
            ∙ run-within 0 0 i (bare w) (run-through (grammar.Says s N Sem rule n) (keeps-says n) (rule m) (Inside 0) (Inside 0) (balanced m) d w x says)
            ∙ ap (λ j. Some (Inside j)) (let z : 0 + i ≡ i = omega arith in z)

        -- a program's tokens lead from before its brackets to behind them
        run-program : (m : N) → Encloses same opening closing (rule m) → (w : List (Nested T)) (x : Sem m) → grammar.IsProgram s N Sem rule m w x → run Before (bare w) ≡ Some Behind
        run-program m around w x p = by p.0 p.1
          where
            by : (n : ℕ) → grammar.Says s N Sem rule n m 0 w x → run Before (bare w) ≡ Some Behind
            by zero says = absurd says
            by (suc n) says = run-through (grammar.Says s N Sem rule n) (keeps-says n) (rule m) Before Behind around 0 w x says

        -- A program is balanced.
        pub program-balanced : (m : N) → Encloses same opening closing (rule m) → (w : List (Nested T)) (x : Sem m) → grammar.IsProgram s N Sem rule m w x
            → Balanced s opening closing (bare w)
        program-balanced m around w x p = run-counts Before Behind (bare w) (run-program m around w x p)

        -- No proper front of a program is balanced but the empty one.
        pub front-open : (m : N) → Encloses same opening closing (rule m) → (p : Nested T) (w : List (Nested T)) (q : Nested T) (more : List (Nested T)) (x : Sem m)
            → grammar.IsProgram s N Sem rule m ((p ∷ w) ++ q ∷ more) x → Balanced s opening closing (bare (p ∷ w)) → ⊥
        front-open m around p w q more x is front =
            let middle = run-middle p.0 (bare w) q.0 (bare more) (ap (run Before) (sym (bare-append (p ∷ w) (q ∷ more))) ∙ run-program m around ((p ∷ w) ++ q ∷ more) x is) in
            let opened : open_after s opening closing 0 (bare (p ∷ w)) ≡ Some (suc middle.0) = run-counts Before (Inside middle.0) (bare (p ∷ w)) middle.1 in
            let never : Some 0 ≡ Some (suc middle.0) = sym front ∙ opened in cc

        -- The fault of a balanced list that has a token stands at a token.
        pub fault-at-token : (limit : ℕ) (m : N) → Encloses same opening closing (rule m) → (t : T) (ts : List T) (e : Fault) (r : List T)
            → Balanced s opening closing (t ∷ ts) → Answers limit (grammar.IsProgram s N Sem rule m) (t ∷ ts) (Err e, r) → (x : T) × (more : List T) × (r ≡ x ∷ more)
        fault-at-token limit m around t ts e (x ∷ r) balance told = (x, r, refl)
        fault-at-token limit m around t ts TooDeep [] balance told = absurd told.3
        fault-at-token limit m around t ts Unexpected [] balance told =
            let begun = told.2 in absurd (by begun.0 begun.1 begun.2 begun.5 (begun.3 ∙ sym (append-nil told.0) ∙ sym told.1) begun.3)
          where
            by : (w more : List (Nested T)) (x : Sem m) → grammar.IsProgram s N Sem rule m (w ++ more) x → bare w ≡ t ∷ ts → bare w ≡ told.0 → ⊥
            by w [] x p is front = told.3 w x (subst (λ v. grammar.IsProgram s N Sem rule m v x) (append-nil w) p) front
            by [] (q ∷ more) x p is front = cc
            by (v ∷ w) (q ∷ more) x p is front = front-open m around v w q more x p (subst (Balanced s opening closing) (sym is) balance)
