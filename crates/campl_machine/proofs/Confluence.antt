-- What a diamond says of whole runs.
use Rattle.std.proofs.Common.{◌≡◌, ◌≢◌, ℕ, zero, suc, ◌+◌, List, [], ◌∷◌, ◌++◌, ◌⊎◌, inl, inr, refl, sym, ap, subst, ◌∙◌, arith, append_assoc, append-nil}
use Rattle.campl_machine.specs.Runs.{Run, Reaches, Stuck, IsPrefixOf}

module _ {C L : Type 0} (Red : C → L → C → Type 0) where
  -- a run and then another
  join_runs : (n : ℕ) (a b c : C) → Run Red n a b → Reaches Red b c → Reaches Red a c
  join_runs zero a b c e r = subst (λ x. Reaches Red x c) (sym e) r
  join_runs (suc n) a b c (l, x, r, run) q =
      let t : Reaches Red x c = join_runs n x b c run q in
      (suc t.0, (l, x, r, t.1))

-- prefixes of one list
both_prefix : {A : Type 0} → (xs ys zs : List A) → IsPrefixOf xs zs → IsPrefixOf ys zs → IsPrefixOf xs ys ⊎ IsPrefixOf ys xs
both_prefix [] ys zs p q = inl (ys, refl)
both_prefix (x ∷ xs) [] zs p q = inr (x ∷ xs, refl)
both_prefix (x ∷ xs) (y ∷ ys) [] p q = absurd (cc (p.1))
both_prefix {A} (x ∷ xs) (y ∷ ys) (z ∷ zs) p q = go (both_prefix xs ys zs (p.0, cc (p.1)) (q.0, cc (q.1)))
  where
    go : IsPrefixOf xs ys ⊎ IsPrefixOf ys xs → IsPrefixOf (x ∷ xs) (y ∷ ys) ⊎ IsPrefixOf (y ∷ ys) (x ∷ xs)
    go (inl s) = inl (s.0, cc (p.1, q.1, s.1))
    go (inr s) = inr (s.0, cc (p.1, q.1, s.1))

module _ {C L : Type 0} (Red : C → L → C → Type 0) (Good : C → Type 0)
    (kept : (a : C) (l : L) (b : C) → Good a → Red a l b → Good b)
    (same : (l m : L) → (l ≡ m) ⊎ (l ≢ m))
    (once : (a : C) (l : L) (b c : C) → Good a → Red a l b → Red a l c → b ≡ c)
    (diamond : (a : C) (l m : L) (b c : C) → Good a → l ≢ m → Red a l b → Red a m c → (d : C) × Red b m d × Red c l d) where
  -- what holds of a state holds all along its runs
  pub good_run : (n : ℕ) (a b : C) → Good a → Run Red n a b → Good b
  good_run zero a b g e = subst Good e g
  good_run (suc n) a b g (l, c, r, run) = good_run n c b (kept a l c g r) run

  -- where a run of n steps gets stuck, each first reduction leads there in one step less
  pub descent : (n : ℕ) (a b s : C) (l : L) → Good a → Stuck Red s → Red a l b → Run Red n a s → (k : ℕ) × (n ≡ suc k) × Run Red k b s
  descent zero a b s l g stuck r e = absurd (stuck l b (subst (λ x. Red x l b) e r))
  descent (suc n) a b s l g stuck r (m, c, r2, run) = elim (same l m) [
    | inl e ↦ (n, refl, subst (λ x. Run Red n x s) (once a m c b g r2 (subst (λ y. Red a y b) e r)) run)
    | inr ne ↦
        let d : (d : C) × Red b m d × Red c l d = diamond a l m b c g ne r r2 in
        let t : (k : ℕ) × (n ≡ suc k) × Run Red k d.0 s = descent n c d.0 s l (kept a m c g r2) stuck d.2 run in
        (n, refl, subst (λ i. Run Red i b s) (sym t.1) (m, d.0, d.1, t.2))
  ]

  -- where one run of n steps gets stuck, each run has at most n steps and goes on to the same end
  pub one_end : (m n : ℕ) (a b s : C) → Good a → Stuck Red s → Run Red n a s → Run Red m a b → (k : ℕ) × (n ≡ m + k) × Run Red k b s
  one_end zero n a b s g stuck run e = (n, omega arith, subst (λ x. Run Red n x s) e run)
  one_end (suc m) n a b s g stuck run (l, c, r, more) =
      let t : (k : ℕ) × (n ≡ suc k) × Run Red k c s = descent n a c s l g stuck r run in
      let u : (k : ℕ) × (t.0 ≡ m + k) × Run Red k b s = one_end m t.0 c b s (kept a l c g r) stuck t.2 more in
      (u.0, omega (arith, t.1, u.1), u.2)

  -- a reduction beside a run
  strip : (n : ℕ) (a b c : C) (l : L) → Good a → Red a l b → Run Red n a c → (d : C) × Reaches Red b d × Reaches Red c d
  strip zero a b c l g r e = (b, (zero, refl), (1, (l, b, subst (λ x. Red x l b) e r, refl)))
  strip (suc n) a b c l g r (m, x, r2, run) = elim (same l m) [
    | inl e ↦ (c, (n, subst (λ y. Run Red n y c) (once a m x b g r2 (subst (λ y. Red a y b) e r)) run), (zero, refl))
    | inr ne ↦
        let d : (d : C) × Red b m d × Red x l d = diamond a l m b x g ne r r2 in
        let t : (e : C) × Reaches Red d.0 e × Reaches Red c e = strip n x d.0 c l (kept a m x g r2) d.2 run in
        (t.0, (suc t.1.0, (m, d.0, d.1, t.1.1)), t.2)
  ]

  -- two runs come together again
  pub confluent : (m : ℕ) (a b c : C) → Good a → Run Red m a b → Reaches Red a c → (d : C) × Reaches Red b d × Reaches Red c d
  confluent zero a b c g e q = (c, subst (λ x. Reaches Red x c) e q, (zero, refl))
  confluent (suc m) a b c g (l, x, r, run) q =
      let t : (d : C) × Reaches Red x d × Reaches Red c d = strip q.0 a x c l g r q.1 in
      let u : (d : C) × Reaches Red b d × Reaches Red t.0 d = confluent m x b t.0 (kept a l x g r) run t.1 in
      (u.0, u.1, join_runs Red t.2.0 c t.0 u.0 t.2.1 u.2)

  module _ {A : Type 0} (view : C → List A)
      (grows : (a : C) (l : L) (b : C) → Good a → Red a l b → IsPrefixOf (view a) (view b)) where
    -- what a run shows is only added to
    run_grows : (n : ℕ) (a b : C) → Good a → Run Red n a b → IsPrefixOf (view a) (view b)
    run_grows zero a b g e = ([], append-nil (view a) ∙ ap view e)
    run_grows (suc n) a b g (l, x, r, run) =
        let p : IsPrefixOf (view a) (view x) = grows a l x g r in
        let q : IsPrefixOf (view x) (view b) = run_grows n x b (kept a l x g r) run in
        (p.0 ++ q.0, sym (append_assoc (view a) p.0 q.0) ∙ (ap (λ t. t ++ q.0) p.1 ∙ q.1))

    -- of what two runs show, one is a prefix of the other
    pub prefix : (m n : ℕ) (a b c : C) → Good a → Run Red m a b → Run Red n a c →
        IsPrefixOf (view b) (view c) ⊎ IsPrefixOf (view c) (view b)
    prefix m n a b c g p q =
        let d : (d : C) × Reaches Red b d × Reaches Red c d = confluent m a b c g p (n, q) in
        both_prefix (view b) (view c) (view d.0) (run_grows d.1.0 b d.0 (good_run m a b g p) d.1.1) (run_grows d.2.0 c d.0 (good_run n a c g q) d.2.1)
