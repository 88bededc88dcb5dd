-- Where things stand apart, the steps of two processes or services have nothing in common.
use Rattle.std.proofs.Common.{◌≡◌, ◌≢◌, ℕ, suc, ◌≤◌, arith, [], ◌∷◌, ◌++◌, ◌⊎◌, inl, inr, refl, sym, ap, ap₂, subst, ◌∙◌, Option, Some, None}
use Rattle.campl_machine.specs.Names.{Birth, Path, End, Who, Process, Service}
use Rattle.campl_machine.specs.Machine.{Act, Moves, Looks, Links, Stands, Breaks, Lies, Uses, ends_born, nodes_born, Does}
use Rattle.campl_machine.specs.Independence.{Independent, NotBoth}
use Rattle.campl_machine.specs.Programs.{KeepsApart}
use Rattle.campl_machine.specs.Graph.{Leads}
use Rattle.campl_machine.proofs.Same.{same_birth-refl, same_path-refl}
use Rattle.campl_machine.proofs.Performs.{does_of}
use Rattle.campl_types.specs.World.{World}
use Rattle.campl_types.specs.Names.{Name, found}
use Rattle.campl_service.specs.declared.phase.Phase.TheVariants as phase
use Rattle.campl_meaning.specs.States.{Message, Running, State, Runs, Serves}
use Rattle.campl_meaning.specs.Wants.{child}
use Rattle.campl_meaning.specs.Reductions.{Configuration, act_of}
use Rattle.campl_meaning.specs.Apart.{Place, At, IsJoined, IsApart, Holder, graph, number_after, number_in_end}
use Rattle.campl_meaning.proofs.Footprints.{keeps-to, serves-alone}

-- a child's path is longer than its parent's, and goes on with the step
pub number-of-child : (p : Path) (x : Birth) → number_after p (p ++ (x ∷ [])) ≡ Some x.step
number-of-child [] x = refl
number-of-child (y ∷ p) x = rw (same_birth-refl y) (number-of-child p x)

-- a child has one parent
pub child-of : (p q : Path) (a b : Birth) → p ++ (a ∷ []) ≡ q ++ (b ∷ []) → p ≡ q
child-of [] [] a b e = refl
child-of [] (y ∷ []) a b e = absurd (cc e)
child-of [] (y ∷ (z ∷ q)) a b e = absurd (cc e)
child-of (x ∷ []) [] a b e = absurd (cc e)
child-of (x ∷ (z ∷ p)) [] a b e = absurd (cc e)
child-of (x ∷ p) (y ∷ q) a b e = ap₂ ◌∷◌ (cc e) (child-of p q a b (cc e))

module _ (w : World) (c : Configuration) (place : End → Place) (l : IsApart c place) where
  none-or : (o : Option End) → (o ≡ None) ⊎ ((f : End) × (o ≡ Some f))
  none-or None = inl refl
  none-or (Some f) = inr (f, refl)

  pub end-fresh : (p : Path) (r : Running) (e : End) → c.nodes (Process p) ≡ Some (Runs r) → IsJoined c e → e.bearer ≡ p → e.step ≡ suc r.steps → ⊥
  end-fresh p r e is pe b st =
      let n : number_in_end p e ≡ Some e.step = rw (b, same_path-refl p) refl in
      let m : e.step ≤ r.steps = rw n at (l.named.channels p r e is pe) in
      omega (arith, st)

  pub child-fresh : (p : Path) (r : Running) (s : State) → c.nodes (Process p) ≡ Some (Runs r) → c.nodes (child p r) ≡ Some s → ⊥
  child-fresh p r s is js =
      let n : number_after p (p ++ (record { step = suc r.steps; place = 1 } ∷ [])) ≡ Some (suc r.steps) = number-of-child p (record { step = suc r.steps; place = 1 }) in
      let m : suc r.steps ≤ r.steps = rw n at (l.named.paths p (p ++ (record { step = suc r.steps; place = 1 } ∷ [])) r s is js) in
      omega arith

  -- what a step uses stands at its node
  pub stands-at : (v : Who) (s : State) (i : ℕ) (e : End) → c.nodes v ≡ Some s → Uses (act_of w v s i) e → place e ≡ At v
  stands-at (Process p) (Runs r) i e is u =
      let h : (x : Name) × (found x r.ends ≡ Some e) = (keeps-to p r w i r.term).uses e u in
      (l.placed.held p e (r, h.0, is, h.1)).0
  stands-at (Service n) (Serves s) i e is u =
      let h : (s.end ≡ e) × (s.serving.phase ≢ phase.Closed) = (serves-alone n s).uses e u in
      (l.placed.served n e (s, is, h.0, h.1)).0
  stands-at (Process p) (Serves s) i e is u = absurd u
  stands-at (Service n) (Runs r) i e is u = absurd u

  -- what it bears is new
  fresh-ends : (v : Who) (s : State) (i : ℕ) (e : End) → c.nodes v ≡ Some s → Lies (ends_born (act_of w v s i)) e → c.partner e ≡ None
  fresh-ends (Process p) (Runs r) i e is u =
      let h : (e.bearer ≡ p) × (e.step ≡ suc r.steps) = (keeps-to p r w i r.term).ends e u in
      elim (none-or (c.partner e)) [ inl n ↦ n | inr pe ↦ absurd (end-fresh p r e is pe h.0 h.1) ]
  fresh-ends (Service n) (Serves s) i e is u = absurd ((serves-alone n s).ends e u)
  fresh-ends (Process p) (Serves s) i e is u = absurd u
  fresh-ends (Service n) (Runs r) i e is u = absurd u

  ends-apart : (v u : Who) (s t : State) (i j : ℕ) (e : End) → v ≢ u → Lies (ends_born (act_of w v s i)) e → Lies (ends_born (act_of w u t j)) e → ⊥
  ends-apart (Process p) (Process q) (Runs r) (Runs o) i j e n a z =
      let h : (e.bearer ≡ p) × (e.step ≡ suc r.steps) = (keeps-to p r w i r.term).ends e a in
      let k : (e.bearer ≡ q) × (e.step ≡ suc o.steps) = (keeps-to q o w j o.term).ends e z in
      n (ap Process (sym h.0 ∙ k.0))
  ends-apart (Process p) u (Serves s) t i j e n a z = a
  ends-apart (Service m) u (Runs r) t i j e n a z = a
  ends-apart (Service m) u (Serves s) t i j e n a z = (serves-alone m s).ends e a
  ends-apart (Process p) (Process q) (Runs r) (Serves t) i j e n a z = z
  ends-apart (Process p) (Service m) (Runs r) (Runs t) i j e n a z = z
  ends-apart (Process p) (Service m) (Runs r) (Serves t) i j e n a z = (serves-alone m t).ends e z

  -- the nodes that a step makes or bears
  abbrev Makes : Who → State → Who → Type 0
  Makes (Process p) (Runs r) z = (Process p ≡ z) ⊎ (child p r ≡ z)
  Makes (Service m) s z = Service m ≡ z
  Makes (Process p) (Serves s) z = Process p ≡ z

  one-alone : (v z : Who) → Lies {V = Option State} ((v, None) ∷ []) z → v ≡ z
  one-alone v z (inl i) = i
  one-alone v z (inr a) = absurd a

  makes : (v : Who) (s : State) (i : ℕ) (z : Who) → Lies (nodes_born v (act_of w v s i)) z → Makes v s z
  makes (Process p) (Runs r) i z a = (keeps-to p r w i r.term).nodes z a
  makes (Process p) (Serves s) i z a = one-alone (Process p) z a
  makes (Service m) (Runs r) i z a = one-alone (Service m) z a
  makes (Service m) (Serves s) i z a = (serves-alone m s).nodes z a

  birth : Running → Birth
  birth r = record { step = suc r.steps; place = 1 }

  makes-apart : (v u : Who) (s t : State) (z : Who) → c.nodes v ≡ Some s → c.nodes u ≡ Some t → v ≢ u → Makes v s z → Makes u t z → ⊥
  makes-apart (Process p) (Process q) (Runs r) (Runs o) z is js n (inl a) (inl e) = n (a ∙ sym e)
  makes-apart (Process p) (Process q) (Runs r) (Runs o) z is js n (inl a) (inr e) = child-fresh q o (Runs r) js (subst (λ y. c.nodes y ≡ Some (Runs r)) (a ∙ sym e) is)
  makes-apart (Process p) (Process q) (Runs r) (Runs o) z is js n (inr a) (inl e) = child-fresh p r (Runs o) is (subst (λ y. c.nodes y ≡ Some (Runs o)) (e ∙ sym a) js)
  makes-apart (Process p) (Process q) (Runs r) (Runs o) z is js n (inr a) (inr e) = n (ap Process (child-of p q (record { step = suc r.steps; place = 1 }) (record { step = suc o.steps; place = 1 }) (cc (a ∙ sym e))))
  makes-apart (Process p) (Process q) (Runs r) (Serves t) z is js n a e = absurd (l.placed.kinds (Process q) (Serves t) js)
  makes-apart (Process p) u (Serves s) t z is js n a e = absurd (l.placed.kinds (Process p) (Serves s) is)
  makes-apart (Process p) (Service m) (Runs r) t z is js n (inl a) e = absurd (cc (a ∙ sym e))
  makes-apart (Process p) (Service m) (Runs r) t z is js n (inr a) e = absurd (cc (a ∙ sym e))
  makes-apart (Service m) (Process q) s (Serves t) z is js n a e = absurd (l.placed.kinds (Process q) (Serves t) js)
  makes-apart (Service m) (Process q) s (Runs o) z is js n a (inl e) = absurd (cc (a ∙ sym e))
  makes-apart (Service m) (Process q) s (Runs o) z is js n a (inr e) = absurd (cc (a ∙ sym e))
  makes-apart (Service m) (Service k) s t z is js n a e = n (a ∙ sym e)

  independent : (v u : Who) (s t : State) (i j : ℕ) → c.nodes v ≡ Some s → c.nodes u ≡ Some t → v ≢ u → Independent c v (act_of w v s i) u (act_of w u t j)
  independent v u s t i j is js n = record {
    nodes = λ z a e. makes-apart v u s t z is js n (makes v s i z a) (makes u t j z e);
    ends = λ e a z. ends-apart v u s t i j e n a z;
    uses = λ e a z. n (cc (stands-at v s i e is a, stands-at u t j e js z));
    fresh_a = λ e a. fresh-ends v s i e is a;
    fresh_b = λ e z. fresh-ends u t j e js z;
  }

  -- two identities of the same two channels would be a cycle
  two-links : (p q : Who) (x y u v : End) → p ≢ q → x ≢ y → place x ≡ At p → place y ≡ At p → place u ≡ At q → place v ≡ At q → c.partner x ≡ Some u → c.partner y ≡ Some v → ⊥
  two-links p q x y u v n xy px py pu pv xu yv =
      let first_edge : Leads (graph c place) x u (Holder p) (Holder q) = record { there = xu; back = l.placed.paired.back x u xu; from = rw px refl; to = rw pu refl } in
      let second : Leads (graph c place) v y (Holder q) (Holder p) = record { there = l.placed.paired.back y v yv; back = yv; from = rw pv refl; to = rw py refl } in
      l.forest x (v ∷ []) (Holder p) (u, Holder q, first_edge, (y, Holder p, second, refl))
      (((λ i. n (cc (px, pv, i))), (λ i. xy (cc (l.placed.paired.back y v yv, i))), tt), (tt, tt))

  not-both : (p q : Who) (A B : Act State Message) (a d : Configuration) → p ≢ q → ((e : End) → Uses A e → place e ≡ At p) → ((e : End) → Uses B e → place e ≡ At q) → Does c p A a → Does c q B d → NotBoth c A B
  not-both p q (Links x y) (Links u v) a d n ua ub da db = (
    (λ i j. two-links p q x y u v n da.4 (ua x (inl refl)) (ua y (inr refl)) (ub u (inl refl)) (ub v (inr refl)) i j),
    (λ i j. two-links p q x y v u n da.4 (ua x (inl refl)) (ua y (inr refl)) (ub v (inr refl)) (ub u (inl refl)) i j),
  )
  not-both p q (Links x y) (Moves m) a d n ua ub da db = tt
  not-both p q (Links x y) (Looks t z k) a d n ua ub da db = tt
  not-both p q (Links x y) Stands a d n ua ub da db = tt
  not-both p q (Links x y) Breaks a d n ua ub da db = tt
  not-both p q (Moves m) B a d n ua ub da db = tt
  not-both p q (Looks u x k) B a d n ua ub da db = tt
  not-both p q Stands B a d n ua ub da db = tt
  not-both p q Breaks B a d n ua ub da db = tt

  -- so the language keeps its steps apart
  pub keeps-apart : KeepsApart (act_of w) c
  keeps-apart = record {
    paired = l.placed.paired;
    apart = λ p q s t i j a d n is js f g. (
      independent p q s t i j is js n,
      not-both p q (act_of w p s i) (act_of w q t j) a d n (λ e u. stands-at p s i e is u) (λ e u. stands-at q t j e js u)
          (does_of c p (act_of w p s i) a f) (does_of c q (act_of w q t j) d g),
    );
  }
