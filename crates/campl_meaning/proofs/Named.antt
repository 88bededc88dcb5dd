-- The names of what is there: each step keeps it that what is to be born is new.
use Rattle.std.proofs.Common.{◌≡◌, ◌≢◌, ℕ, suc, ◌≤◌, arith, Bool, true, false, [], ◌∷◌, ◌++◌, ◌⊎◌, inl, inr, refl, sym, ap, ap₂, subst, ◌∙◌, Option, Some, None, if◌then◌else◌}
use Rattle.campl_machine.specs.Names.{Birth, Path, End, Who, Process, Service, same_birth, same_path}
use Rattle.campl_machine.specs.Machine.{Does}
use Rattle.campl_machine.proofs.Same.{same_birth-is, same_birth-refl, same_path-is, same_path-refl}
use Rattle.campl_machine.proofs.Updates.{split}
use Rattle.campl_machine.proofs.Performs.{nodes-kept}
use Rattle.campl_types.specs.World.{World}
use Rattle.campl_meaning.specs.States.{Running, Attending, State, Runs, Serves}
use Rattle.campl_meaning.specs.Reductions.{Configuration, act_of}
use Rattle.campl_meaning.specs.Apart.{IsJoined, IsNamed, IsAtMost, number_after, number_in_end}
use Rattle.campl_meaning.proofs.Footprints.{keeps-to, serves-alone}
use Rattle.campl_machine.specs.Independence.{Paired}
use Rattle.campl_meaning.proofs.Independent.{number-of-child}
use Rattle.campl_meaning.proofs.Nodes.{all-more, others-kept}
use Rattle.campl_meaning.proofs.Uniform.{GoesOn, next-states}
use Rattle.campl_meaning.proofs.Joined.{joined-before}

-- Numbers after paths

pub at-most-more : (o : Option ℕ) (m n : ℕ) → m ≤ n → IsAtMost o m → IsAtMost o n
at-most-more None m n l h = tt
at-most-more (Some k) m n l h = omega (arith, l, h)

-- a path doesn't go on behind itself
after-itself : (p : Path) → number_after p p ≡ None
after-itself [] = refl
after-itself (x ∷ p) = rw (same_birth-refl x) (after-itself p)

-- nor a child's path behind its parent's
pub child-after-parent : (p : Path) (x : Birth) → number_after (p ++ (x ∷ [])) p ≡ None
child-after-parent [] x = refl
child-after-parent (y ∷ p) x = rw (same_birth-refl y) (child-after-parent p x)

-- what goes on behind a child goes on behind its parent, with the child's step
behind-child : (p q : Path) (x : Birth) (k : ℕ) → number_after (p ++ (x ∷ [])) q ≡ Some k → number_after p q ≡ Some x.step
behind-child [] [] x k i = absurd (cc i)
behind-child [] (z ∷ q) x k i = elim (split (same_birth x z)) [
  | inl a ↦ ap (λ (n : Birth). Some n.step) (sym (same_birth-is x z a))
  | inr a ↦ let n : None ≡ Some k = rw a at i in absurd (cc n)
]
behind-child (y ∷ p) [] x k i = absurd (cc i)
behind-child (y ∷ p) (z ∷ q) x k i = elim (split (same_birth y z)) [
  | inl a ↦ rw a (behind-child p q x k (rw a at i))
  | inr a ↦ let n : None ≡ Some k = rw a at i in absurd (cc n)
]

-- what is behind another path than the parent's, is so with the parent
to-child : (q p : Path) (x : Birth) → q ≢ p → (number_after q (p ++ (x ∷ [])) ≡ None) ⊎ (number_after q (p ++ (x ∷ [])) ≡ number_after q p)
to-child [] [] x n = absurd (n refl)
to-child [] (y ∷ p) x n = inr refl
to-child (z ∷ q) [] x n = inl (go (same_birth z x))
  where
    go : (t : Bool) → (if t then number_after q [] else None) ≡ None
    go true = none q
      where
        none : (q : Path) → number_after q [] ≡ None
        none [] = refl
        none (y ∷ q) = refl
    go false = refl
to-child (z ∷ q) (y ∷ p) x n = elim (split (same_birth z y)) [
  | inl a ↦ rw a (to-child q p x (λ i. n (ap₂ ◌∷◌ (same_birth-is z y a) i)))
  | inr a ↦ rw a (inr refl)
]

-- a child's path isn't its parent's
pub longer : (p : Path) (x : Birth) → p ++ (x ∷ []) ≢ p
longer [] x i = absurd (cc i)
longer (y ∷ p) x i = longer p x (cc i)

-- Steps of a process

abbrev Stepped : ℕ → State → Type 0
Stepped n (Runs r) = r.steps ≡ n
Stepped n (Serves s) = ⊥

abbrev birth : Running → Birth
birth r = record { step = suc r.steps; place = 1 }

-- what was there at other names, goes on or was born
Came : Configuration → Path → Running → Who → State → Type 0
Came c p r v s = ((v ≢ Process p) × (c.nodes v ≡ Some s)) ⊎ GoesOn p r (Stepped (suc r.steps)) (Stepped 0) v s

module _ (w : World) (c d : Configuration) (l : IsNamed c) (paired : Paired c) (p : Path) (r : Running) (i : ℕ)
    (here : c.nodes (Process p) ≡ Some (Runs r)) (step : Does c (Process p) (act_of w (Process p) (Runs r) i) d) where
  came : (v : Who) (s : State) → d.nodes v ≡ Some s → Came c p r v s
  unfolding Came
  came = others-kept (Came c p r) c d (Process p) (act_of w (Process p) (Runs r) i) (λ v s n is. inl (n, is))
      (all-more (GoesOn p r (Stepped (suc r.steps)) (Stepped 0)) (Came c p r) (λ v s h. inr h) (Process p) (act_of w (Process p) (Runs r) i)
      (next-states p r (Stepped (suc r.steps)) (Stepped 0) (λ t vs es. refl) refl (λ body es. refl) w i r.term)) step

  -- the child's path
  born-path : Path
  born-path = p ++ (birth r ∷ [])

  -- numbers behind a path that is there, or is gone on with, or is born
  Behind : Path → Running → Type 0
  Behind q o = ((q ≢ p) × (c.nodes (Process q) ≡ Some (Runs o))) ⊎ (((q ≡ p) × (o.steps ≡ suc r.steps)) ⊎ ((q ≡ p ++ (birth r ∷ [])) × (o.steps ≡ 0)))

  behind-of : (q : Path) (o : Running) → Came c p r (Process q) (Runs o) → Behind q o
  unfolding Came Behind
  behind-of q o (inl (n, is)) = inl ((λ j. n (ap Process j)), is)
  behind-of q o (inr (inl (j, k))) = inr (inl (cc j, k))
  behind-of q o (inr (inr (j, k))) = inr (inr (cc j, k))

  -- a path or bearer that was known: it is that of a node that was there, or nothing new goes on with it
  Known : Path → Type 0
  Known t = (q : Path) (o : Running) → c.nodes (Process q) ≡ Some (Runs o) → IsAtMost (number_after q t) o.steps

  known-paths : (q : Path) (s : State) → c.nodes (Process q) ≡ Some s → Known q
  unfolding Known
  known-paths t s is q o js = l.paths q t o s js is

  -- what is known stays so behind the step
  known-after : (t : Path) → Known t → (q : Path) (o : Running) → Behind q o → IsAtMost (number_after q t) o.steps
  unfolding Known Behind
  known-after t k q o (inl (n, is)) = k q o is
  known-after t k q o (inr (inl (j, m))) =
      subst (λ z. IsAtMost (number_after z t) o.steps) (sym j) (at-most-more (number_after p t) r.steps o.steps (omega (arith, m)) (k p r here))
  known-after t k q o (inr (inr (j, m))) = subst (λ z. IsAtMost (number_after z t) o.steps) (sym j) (none (number_after (p ++ (birth r ∷ [])) t) refl)
    where
      none : (a : Option ℕ) → number_after (p ++ (birth r ∷ [])) t ≡ a → IsAtMost a o.steps
      none None e = tt
      none (Some n) e =
          let f : number_after p t ≡ Some (suc r.steps) = behind-child p t (birth r) n e in
          let g : suc r.steps ≤ r.steps = rw f at (k p r here) in
          absurd (omega (arith, g))

  -- and the child's path is known
  child-after : (q : Path) (o : Running) → Behind q o → IsAtMost (number_after q (p ++ (birth r ∷ []))) o.steps
  unfolding Behind
  child-after q o (inl (n, is)) = elim (to-child q p (birth r) n) [
    | inl e ↦ rw e tt
    | inr e ↦ rw e (l.paths q p o (Runs r) is here)
  ]
  child-after q o (inr (inl (j, m))) =
      subst (λ z. IsAtMost (number_after z (p ++ (birth r ∷ []))) o.steps) (sym j) (rw (number-of-child p (birth r)) (omega (arith, m)))
  child-after q o (inr (inr (j, m))) = subst (λ z. IsAtMost (number_after z (p ++ (birth r ∷ []))) o.steps) (sym j) (rw (after-itself (p ++ (birth r ∷ []))) tt)

  paths-after : (q t : Path) (o : Running) (s : State) → d.nodes (Process q) ≡ Some (Runs o) → d.nodes (Process t) ≡ Some s → IsAtMost (number_after q t) o.steps
  unfolding Came
  paths-after q t o s is js = go (came (Process t) s js)
    where
      b : Behind q o
      b = behind-of q o (came (Process q) (Runs o) is)

      go : Came c p r (Process t) s → IsAtMost (number_after q t) o.steps
      go (inl (n, ks)) = known-after t (known-paths t s ks) q o b
      go (inr (inl (j, k))) = let e : t ≡ p = cc j in known-after t (subst Known (sym e) (known-paths p (Runs r) here)) q o b
      go (inr (inr (j, k))) = let e : t ≡ p ++ (birth r ∷ []) = cc j in subst (λ z. IsAtMost (number_after q z) o.steps) (sym e) (child-after q o b)

  -- the numbers of ends

  -- an end that had a partner
  known-end : (e : End) → IsJoined c e → (q : Path) (o : Running) → Behind q o → IsAtMost (number_in_end q e) o.steps
  unfolding Behind
  known-end e h q o (inl (n, is)) = l.channels q o e is h
  known-end e h q o (inr (inl (j, m))) =
      subst (λ z. IsAtMost (number_in_end z e) o.steps) (sym j) (at-most-more (number_in_end p e) r.steps o.steps (omega (arith, m)) (l.channels p r e here h))
  known-end e h q o (inr (inr (j, m))) = subst (λ z. IsAtMost (number_in_end z e) o.steps) (sym j) (elim (split (same_path (p ++ (birth r ∷ [])) e.bearer)) [
    | inl a ↦
        let b : p ++ (birth r ∷ []) ≡ e.bearer = same_path-is (p ++ (birth r ∷ [])) e.bearer a in
        let f : number_after p e.bearer ≡ Some (suc r.steps) = ap (number_after p) (sym b) ∙ number-of-child p (birth r) in
        absurd (too-many f)
    | inr a ↦ rw a (none (number_after (p ++ (birth r ∷ [])) e.bearer) refl)
  ])
    where
      too-many : number_after p e.bearer ≡ Some (suc r.steps) → ⊥
      too-many f = elim (split (same_path p e.bearer)) [
        | inl a ↦ let g : None ≡ Some (suc r.steps) = sym (ap (number_after p) (sym (same_path-is p e.bearer a)) ∙ after-itself p) ∙ f in cc g
        | inr a ↦ let g : suc r.steps ≤ r.steps = rw (a, f) at (l.channels p r e here h) in omega (arith, g)
      ]

      none : (a : Option ℕ) → number_after (p ++ (birth r ∷ [])) e.bearer ≡ a → IsAtMost a o.steps
      none None k = tt
      none (Some n) k = absurd (too-many (behind-child p e.bearer (birth r) n k))

  -- an end that is born
  born-end : (e : End) → e.bearer ≡ p → e.step ≡ suc r.steps → (q : Path) (o : Running) → Behind q o → IsAtMost (number_in_end q e) o.steps
  unfolding Behind
  born-end e b st q o (inl (n, is)) = rw b (elim (split (same_path q p)) [
    | inl a ↦ absurd (n (same_path-is q p a))
    | inr a ↦ rw a (l.paths q p o (Runs r) is here)
  ])
  born-end e b st q o (inr (inl (j, m))) = rw (j, b, same_path-refl p) (omega (arith, m, st))
  born-end e b st q o (inr (inr (j, m))) = rw (j, b) (elim (split (same_path (p ++ (birth r ∷ [])) p)) [
    | inl a ↦ absurd (longer p (birth r) (same_path-is (p ++ (birth r ∷ [])) p a))
    | inr a ↦ rw (a, child-after-parent p (birth r)) tt
  ])

  channels-after : (q : Path) (o : Running) (e : End) → d.nodes (Process q) ≡ Some (Runs o) → IsJoined d e → IsAtMost (number_in_end q e) o.steps
  channels-after q o e is h = elim (joined-before c d (Process p) (act_of w (Process p) (Runs r) i) paired step e h) [
    | inl k ↦ known-end e k q o (behind-of q o (came (Process q) (Runs o) is))
    | inr k ↦
        let b : (e.bearer ≡ p) × (e.step ≡ suc r.steps) = (keeps-to p r w i r.term).ends e k in
        born-end e b.0 b.1 q o (behind-of q o (came (Process q) (Runs o) is))
  ]

  process-named : IsNamed d
  process-named = record { paths = λ q t o s is js. paths-after q t o s is js; channels = λ q o e is h. channels-after q o e is h }

-- a service's step leaves processes and channels as they are
service-named : (w : World) (c d : Configuration) (l : IsNamed c) (paired : Paired c) (n : ℕ) (s : Attending) (i : ℕ) → Does c (Service n) (act_of w (Service n) (Serves s) i) d → IsNamed d
service-named w c d l paired n s i step = record {
  paths = λ q t o u is js. l.paths q t o u (sym (stays q) ∙ is) (sym (stays t) ∙ js);
  channels = λ q o e is h. l.channels q o e (sym (stays q) ∙ is) (elim (joined-before c d (Service n) (act_of w (Service n) (Serves s) i) paired step e h) [
    | inl k ↦ k
    | inr k ↦ absurd ((serves-alone n s).ends e k)
  ]);
}
  where
    stays : (q : Path) → d.nodes (Process q) ≡ c.nodes (Process q)
    stays q = nodes-kept c (Service n) (Process q) (act_of w (Service n) (Serves s) i) d step (λ m. let z : Service n ≡ Process q = (serves-alone n s).nodes (Process q) m in absurd (cc z))

-- part 7 is kept, whatever is typed
pub named-kept : (w : World) (c d : Configuration) (who : Who) (s : State) (i : ℕ) → IsNamed c → Paired c → c.nodes who ≡ Some s → Does c who (act_of w who s i) d → IsNamed d
named-kept w c d (Process p) (Runs r) i l paired is step = process-named w c d l paired p r i is step
named-kept w c d (Service n) (Serves s) i l paired is step = service-named w c d l paired n s i step
named-kept w c d (Process p) (Serves s) i l paired is step = absurd step
named-kept w c d (Service n) (Runs r) i l paired is step = absurd step
