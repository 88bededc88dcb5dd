-- The run of one at a time: each budget has one, and only one.
use Rattle.std.proofs.Common.{◌≡◌, ◌⊎◌, inl, inr, ℕ, zero, suc, ◌+◌, ◌<◌, ◌≤◌, arith, Bool, true, false, List, [], ◌∷◌, refl, sym, ap, subst, ◌∙◌, Option, Some, None, if◌then◌else◌, ltb}
use Rattle.std.proofs.Math.Nat.{zero-add}
use Rattle.std.proofs.lemmas.Bool.{ltb-true, ltb-false}
use Rattle.campl_tree.specs.Plain.Decl.{Program}
use Rattle.campl_tree.specs.Plain.Process as b
use Rattle.campl_tree.specs.Plain.Process.{Body, Branches}
use Rattle.campl_machine.specs.Names.{Path, Who, Process, Service}
use Rattle.campl_machine.specs.Progress.{Within}
use Rattle.campl_machine.specs.Runs.{Run}
use Rattle.campl_machine.proofs.Updates.{split}
use Rattle.campl_types.specs.World.{World, world_of}
use Rattle.campl_types.specs.Names.{Name}
use Rattle.campl_service.specs.Scripts.{Lines}
use Rattle.campl_peel.specs.Terms.{Term, Doing, Plugging}
use Rattle.campl_meaning.specs.States.{State, Running, Runs, Serves, Command}
use Rattle.campl_meaning.specs.Bodies.{branch_at, are_held}
use Rattle.campl_meaning.specs.Wants.{chooses, next_command, term_command, command}
use Rattle.campl_meaning.specs.States as k
use Rattle.campl_machine.specs.Machine.{Breaks}
use Rattle.campl_meaning.specs.Reductions.{Configuration, Event, reduce, reduce_state, reduce_command}
use Rattle.campl_meaning.specs.Start.{start}
use Rattle.campl_meaning.specs.Ends.{MayReduce, IsEnabled, Ending, Finished, Broken, Awaiting, OutOfSteps, IsEnd}
use Rattle.campl_meaning.specs.OneAtATime.{is_before, FirstReduces, RunsFromStart}
use Rattle.campl_meaning.specs.Lawful.{IsAccepted, Lawful}
use Rattle.campl_progress.proofs.Walk.{progress}
use Rattle.campl_laws.proofs.All.{all-kept}
use Rattle.campl_laws.proofs.Answers.{one-ending}
use Rattle.campl_meaning.proofs.Order.{before-itself, not-before, one-first}

-- The first place at which a function has something

abbrev IsLeast : {A : Type 0} → (ℕ → Option A) → ℕ → A → Type 0
IsLeast f i a = (f i ≡ Some a) × ((j : ℕ) → j < i → f j ≡ None)

abbrev Least : {A : Type 0} → (ℕ → Option A) → Type 0
Least {A} f = (i : ℕ) × (a : A) × IsLeast f i a

search : {A : Type 0} (f : ℕ → Option A) (n : ℕ) → Least f ⊎ ((j : ℕ) → j < n → f j ≡ None)
search f zero = inr (λ j h. absurd (omega (arith, h)))
search {A} f (suc n) = elim (search f n) [
  | inl l ↦ inl l
  | inr none ↦ go (f n) refl none
]
  where
    go : (o : Option A) → f n ≡ o → ((j : ℕ) → j < n → f j ≡ None) → Least f ⊎ ((j : ℕ) → j < suc n → f j ≡ None)
    go (Some a) e none = inl (n, a, (e, none))
    go None e none = inr (λ j h. elim (split (ltb j n)) [
      | inl i ↦ none j (ltb-true j n i)
      | inr i ↦ let m : n ≤ j = ltb-false j n i in let q : j ≡ n = omega (arith, m, h) in ap f q ∙ e
    ])

-- it is one
least-one : {A : Type 0} (f : ℕ → Option A) (i j : ℕ) (a c : A) → f i ≡ Some a → ((h : ℕ) → h < i → f h ≡ None) → f j ≡ Some c → ((h : ℕ) → h < j → f h ≡ None) → i ≡ j
least-one f i j a c e none g no' = elim (split (ltb i j)) [
  | inl h ↦ absurd (cc (e, no' i (ltb-true i j h)))
  | inr h ↦ elim (split (ltb j i)) [
    | inl m ↦ absurd (cc (g, none j (ltb-true j i m)))
    | inr m ↦ let x : j ≤ i = ltb-false i j h in let y : i ≤ j = ltb-false j i m in omega (arith, x, y)
  ]
]

-- Choices

abbrev count_branches : Branches → ℕ
count_branches b.no_branches = 0
count_branches (b.branch_then x body rows) = suc (count_branches rows)

-- as many as a race has branches, and else one
abbrev body_choices : Body → ℕ
body_choices (b.Then a rest) = 1
body_choices (b.Halt at x) = 1
body_choices (b.Hcase at x rows) = 1
body_choices (b.Fork at x y left z right) = 1
body_choices (b.Plug at links parts) = 1
body_choices (b.Race at rows) = count_branches rows
body_choices (b.Case at a rows) = 1
body_choices (b.Identity at x negated y) = 1
body_choices (b.Call at x args inputs outputs) = 1

abbrev term_choices : Term → ℕ
term_choices (Doing body) = body_choices body
term_choices (Plugging links parts) = 1

abbrev state_choices : State → ℕ
state_choices (Runs r) = term_choices r.term
state_choices (Serves s) = 1

no-branch : (rows : Branches) (i : ℕ) → count_branches rows ≤ i → branch_at rows i ≡ None
no-branch b.no_branches i h = refl
no-branch (b.branch_then x body rows) zero h = absurd (omega (arith, h))
no-branch (b.branch_then x body rows) (suc i) h = no-branch rows i (omega (arith, h))

module _ (w : World) (c : Configuration) where
  -- beyond its choices a node does nothing, or what it does at the first
  abbrev Beyond : Who → State → ℕ → Type 0
  Beyond who s i = (reduce_state w c who i (Some s) ≡ None) ⊎ ((reduce_state w c who i (Some s) ≡ reduce_state w c who 0 (Some s)) × (state_choices s ≡ 1))

  beyond-body : (p : Path) (r : Running) (i : ℕ) (body : Body) → body_choices body ≤ i →
      (reduce_command c (Process p) (next_command w p r i body) ≡ None)
      ⊎ ((reduce_command c (Process p) (next_command w p r i body) ≡ reduce_command c (Process p) (next_command w p r 0 body)) × (body_choices body ≡ 1))
  beyond-body p r i (b.Then (b.Put at a x) rest) h = inr (refl, refl)
  beyond-body p r i (b.Then (b.Get at v x) rest) h = inr (refl, refl)
  beyond-body p r i (b.Then (b.Hput at n x) rest) h = inr (refl, refl)
  beyond-body p r i (b.Then (b.Split at x y z) rest) h = inr (refl, refl)
  beyond-body p r i (b.Then (b.Close at x) rest) h = inr (refl, refl)
  beyond-body p r i (b.Halt at None) h = inr (refl, refl)
  beyond-body p r i (b.Halt at (Some x)) h = inr (refl, refl)
  beyond-body p r i (b.Hcase at x rows) h = inr (refl, refl)
  beyond-body p r i (b.Fork at x y left z right) h = inr (refl, refl)
  beyond-body p r i (b.Plug at links parts) h = inr (refl, refl)
  beyond-body p r i (b.Race at rows) h = inl (go (are_held rows r.ends) (branch_at rows i) (no-branch rows i h))
    where
      go : (t : Bool) (o : Option (Name × Body)) → o ≡ None → reduce_command c (Process p) (if t then chooses r i o else command (k.Choose i) None Breaks) ≡ None
      go true o e = rw e refl
      go false o e = refl
  beyond-body p r i (b.Case at a rows) h = inr (refl, refl)
  beyond-body p r i (b.Identity at x negated y) h = inr (refl, refl)
  beyond-body p r i (b.Call at x args inputs outputs) h = inr (refl, refl)

  beyond-term : (p : Path) (r : Running) (i : ℕ) (t : Term) → term_choices t ≤ i →
      (reduce_command c (Process p) (term_command w p r i t) ≡ None)
      ⊎ ((reduce_command c (Process p) (term_command w p r i t) ≡ reduce_command c (Process p) (term_command w p r 0 t)) × (term_choices t ≡ 1))
  beyond-term p r i (Doing body) h = beyond-body p r i body h
  beyond-term p r i (Plugging links parts) h = inr (refl, refl)

  beyond : (who : Who) (s : State) (i : ℕ) → state_choices s ≤ i → Beyond who s i
  beyond (Process p) (Runs r) i h = beyond-term p r i r.term h
  beyond (Service n) (Serves s) i h = inr (refl, refl)
  beyond (Process p) (Serves s) i h = inl refl
  beyond (Service n) (Runs r) i h = inl refl

  -- whether a node has a reduction
  decide : (who : Who) → Least (reduce w c who) ⊎ ((i : ℕ) → reduce w c who i ≡ None)
  decide who = go (c.nodes who) refl
    where
      go : (o : Option State) → c.nodes who ≡ o → Least (reduce w c who) ⊎ ((i : ℕ) → reduce w c who i ≡ None)
      go None is = inr (λ i. ap (reduce_state w c who i) is)
      go (Some s) is = elim (search (reduce w c who) (state_choices s)) [
        | inl l ↦ inl l
        | inr none ↦ inr (λ i. elim (split (ltb i (state_choices s))) [
          | inl h ↦ none i (ltb-true i (state_choices s) h)
          | inr h ↦ elim (beyond who s i (ltb-false i (state_choices s) h)) [
            | inl e ↦ ap (reduce_state w c who i) is ∙ e
            | inr (e, one) ↦ ap (reduce_state w c who i) is ∙ (e ∙ (sym (ap (reduce_state w c who 0) is) ∙ none 0 (omega (arith, one))))
          ]
        ])
      ]

  -- The first of a list

  record IsBest (ws : List Who) : Type 0 where
    who : Who
    least : Least (reduce w c who)
    first : (v : Who) → Within ws v → MayReduce w c v → is_before v who ≡ false

  best : (ws : List Who) → IsBest ws ⊎ ((v : Who) → Within ws v → MayReduce w c v → ⊥)
  best [] = inr (λ v h m. h)
  best (x ∷ ws) = elim (decide x) [
    | inr none ↦ elim (best ws) [
      | inl o ↦ inl (record { who = o.who; least = o.least; first = λ v h m. elim h [ inl e ↦ absurd (idle none v e m) | inr i ↦ o.first v i m ] })
      | inr no' ↦ inr (λ v h m. elim h [ inl e ↦ idle none v e m | inr i ↦ no' v i m ])
    ]
    | inl l ↦ elim (best ws) [
      | inr no' ↦ inl (record { who = x; least = l; first = λ v h m. elim h [ inl e ↦ own v e | inr i ↦ absurd (no' v i m) ] })
      | inl o ↦ elim (split (is_before x o.who)) [
        | inl t ↦ inl (record { who = x; least = l; first = λ v h m. elim h [ inl e ↦ own v e | inr i ↦ not-before v x o.who t (o.first v i m) ] })
        | inr f ↦ inl (record { who = o.who; least = o.least; first = λ v h m. elim h [ inl e ↦ subst (λ z. is_before z o.who ≡ false) (sym e) f | inr i ↦ o.first v i m ] })
      ]
    ]
  ]
    where
      idle : ((i : ℕ) → reduce w c x i ≡ None) → (v : Who) → v ≡ x → MayReduce w c v → ⊥
      idle none v e (i, next, r) = let q : reduce w c v i ≡ None = ap (λ z. reduce w c z i) e ∙ none i in cc (q, r)

      own : (v : Who) → v ≡ x → is_before v x ≡ false
      own v e = subst (λ z. is_before z x ≡ false) (sym e) (before-itself x)

-- what may make a reduction is there
is-there : (w : World) (c : Configuration) (v : Who) → MayReduce w c v → (s : State) × (c.nodes v ≡ Some s)
is-there w c v (i, next, r) = go (c.nodes v) refl
  where
    go : (o : Option State) → c.nodes v ≡ o → (s : State) × (c.nodes v ≡ Some s)
    go None is = let q : reduce w c v i ≡ None = ap (reduce_state w c v i) is in absurd (cc (q, r))
    go (Some s) is = (s, is)

-- there is a first reduction, or none at all
abbrev IsNext : World → Configuration → Type 0
IsNext w c = (l : Who × ℕ × Event) × (d : Configuration) × FirstReduces w c l d

pub next-or-none : (source : Program) (c : Configuration) → Lawful source c → IsNext (world_of source) c ⊎ (IsEnabled (world_of source) c → ⊥)
next-or-none source c l = elim (best (world_of source) c l.nodes) [
  | inl o ↦
      let (i, next, (e, none)) = o.least in
      inl (
        (o.who, i, next.0),
        next.1,
        record {
          reduces = e;
          first = λ v m. let (s, is) = is-there (world_of source) c v m in o.first v (l.listed v s is) m;
          ready = none;
        },
      )
  | inr no' ↦ inr (λ h. let (s, is) = is-there (world_of source) c h.0 h.1 in no' h.0 (l.listed h.0 s is) h.1)
]

-- Each budget has a run

record HasRun (w : World) (c : Configuration) (done more budget : ℕ) : Type 0 where
  ending : Ending
  n : ℕ
  last : Configuration
  run : Run (FirstReduces w) n c last
  within : n ≤ more
  ends : IsEnd w last (done + n) budget ending

module _ (source : Program) (budget : ℕ) where
  abbrev w : World
  w = world_of source

  -- steps matter to a run alone that is out of them
  same-steps : (c : Configuration) (n m : ℕ) (ending : Ending) → n ≡ m → IsEnd w c n budget ending → IsEnd w c m budget ending
  same-steps c n m ending i = subst (λ z. IsEnd w c z budget ending) i

  over : (c : Configuration) (done more : ℕ) → Lawful source c → (IsEnabled w c → ⊥) → HasRun w c done more budget
  over c done more l quiet = elim (progress source c l quiet (done + 0) budget) [
    | inl e ↦ record { ending = Finished; n = 0; last = c; run = refl; within = omega arith; ends = e }
    | inr (inl e) ↦ record { ending = Broken; n = 0; last = c; run = refl; within = omega arith; ends = e }
    | inr (inr e) ↦ record { ending = Awaiting; n = 0; last = c; run = refl; within = omega arith; ends = e }
  ]

  has-run : (more done : ℕ) (c : Configuration) → done + more ≡ budget → Lawful source c → HasRun w c done more budget
  has-run zero done c i l = elim (next-or-none source c l) [
    | inr quiet ↦ over c done 0 l quiet
    | inl ((who, j, x), d, f) ↦ record { ending = OutOfSteps; n = 0; last = c; run = refl; within = omega arith; ends = (i, (who, (j, (x, d), f.reduces))) }
  ]
  has-run (suc more) done c i l = elim (next-or-none source c l) [
    | inr quiet ↦ over c done (suc more) l quiet
    | inl (label, d, f) ↦
        let r : HasRun w d (suc done) more budget = has-run more (suc done) d (omega (arith, i)) ((all-kept source).goes_on c d label.0 l (label.2, (label.1, f.reduces))) in
        record {
          ending = r.ending;
          n = suc r.n;
          last = r.last;
          run = (label, d, f, r.run);
          within = omega (arith, r.within);
          ends = same-steps r.last (suc done + r.n) (done + suc r.n) r.ending (omega arith) r.ends;
        }
  ]

pub some-run : (source : Program) (scripts : List Lines) (budget : ℕ) → IsAccepted source → (ending : Ending) × (n : ℕ) × (c : Configuration) × RunsFromStart (world_of source) scripts budget ending n c
some-run source scripts budget accepted =
    let r : HasRun (world_of source) (start (world_of source) scripts) 0 budget budget =
    has-run source budget budget 0 (start (world_of source) scripts) (omega arith) ((all-kept source).begins scripts accepted) in
    (r.ending, r.n, r.last, record { run = r.run; within = r.within; ends = subst (λ z. IsEnd (world_of source) r.last z budget r.ending) (zero-add r.n) r.ends })

-- And only one

module _ (w : World) where
  one-next : (c a d : Configuration) (l m : Who × ℕ × Event) → FirstReduces w c l a → FirstReduces w c m d → a ≡ d
  one-next c a d (p, i, x) (q, j, y) f g =
      let pq : p ≡ q = one-first p q (g.first p (i, (x, a), f.reduces)) (f.first q (j, (y, d), g.reduces)) in
      let f2 : reduce w c q i ≡ Some (x, a) = subst (λ z. reduce w c z i ≡ Some (x, a)) pq f.reduces in
      let ij : i ≡ j = least-one (reduce w c q) i j (x, a) (y, d) f2 (λ h k. subst (λ z. reduce w c z h ≡ None) pq (f.ready h k)) g.reduces g.ready in
      let same : ◌≡◌ {A = Event × Configuration} (x, a) (y, d) = cc (f2, g.reduces, ij) in
      ap (λ (z : Event × Configuration). z.1) same

  -- where a run ends within its budget, no step is left of it
  no-more : (c d : Configuration) (l : Who × ℕ × Event) (n budget : ℕ) (e : Ending) → IsEnd w c n budget e → FirstReduces w c l d → n ≡ budget
  no-more c d (p, i, x) n budget Finished h f = absurd (h.1 (p, (i, (x, d), f.reduces)))
  no-more c d (p, i, x) n budget Broken h f = absurd (h.0 (p, (i, (x, d), f.reduces)))
  no-more c d (p, i, x) n budget Awaiting h f = absurd (h.0 (p, (i, (x, d), f.reduces)))
  no-more c d l n budget OutOfSteps h f = h.0

  all-endings : (c : Configuration) (n budget : ℕ) (e f : Ending) → IsEnd w c n budget e → IsEnd w c n budget f → e ≡ f
  all-endings c n budget OutOfSteps OutOfSteps h k = refl
  all-endings c n budget OutOfSteps Finished h k = absurd (k.1 h.1)
  all-endings c n budget OutOfSteps Broken h k = absurd (k.0 h.1)
  all-endings c n budget OutOfSteps Awaiting h k = absurd (k.0 h.1)
  all-endings c n budget Finished OutOfSteps h k = absurd (h.1 k.1)
  all-endings c n budget Broken OutOfSteps h k = absurd (h.0 k.1)
  all-endings c n budget Awaiting OutOfSteps h k = absurd (h.0 k.1)
  all-endings c n budget Finished Finished h k = one-ending w c n n budget budget Finished Finished (λ i. cc i) (λ i. cc i) h k
  all-endings c n budget Finished Broken h k = one-ending w c n n budget budget Finished Broken (λ i. cc i) (λ i. cc i) h k
  all-endings c n budget Finished Awaiting h k = one-ending w c n n budget budget Finished Awaiting (λ i. cc i) (λ i. cc i) h k
  all-endings c n budget Broken Finished h k = one-ending w c n n budget budget Broken Finished (λ i. cc i) (λ i. cc i) h k
  all-endings c n budget Broken Broken h k = one-ending w c n n budget budget Broken Broken (λ i. cc i) (λ i. cc i) h k
  all-endings c n budget Broken Awaiting h k = one-ending w c n n budget budget Broken Awaiting (λ i. cc i) (λ i. cc i) h k
  all-endings c n budget Awaiting Finished h k = one-ending w c n n budget budget Awaiting Finished (λ i. cc i) (λ i. cc i) h k
  all-endings c n budget Awaiting Broken h k = one-ending w c n n budget budget Awaiting Broken (λ i. cc i) (λ i. cc i) h k
  all-endings c n budget Awaiting Awaiting h k = one-ending w c n n budget budget Awaiting Awaiting (λ i. cc i) (λ i. cc i) h k

  pub one-run : (n m done budget : ℕ) (c a d : Configuration) (e f : Ending) → Run (FirstReduces w) n c a → Run (FirstReduces w) m c d → done + n ≤ budget → done + m ≤ budget →
      IsEnd w a (done + n) budget e → IsEnd w d (done + m) budget f → (n ≡ m) × (e ≡ f) × (a ≡ d)
  one-run zero zero done budget c a d e f r s i j h k =
      (refl, all-endings a (done + 0) budget e f h (subst (λ (z : Configuration). IsEnd w z (done + 0) budget f) (sym s ∙ r) k), sym r ∙ s)
  one-run zero (suc m) done budget c a d e f r (l, x, g, more) i j h k =
      let q : done + 0 ≡ budget = no-more a x l (done + 0) budget e h (subst (λ (z : Configuration). FirstReduces w z l x) r g) in
      absurd (omega (arith, q, j))
  one-run (suc n) zero done budget c a d e f (l, x, g, more) s i j h k =
      let q : done + 0 ≡ budget = no-more d x l (done + 0) budget f k (subst (λ (z : Configuration). FirstReduces w z l x) s g) in
      absurd (omega (arith, q, i))
  one-run (suc n) (suc m) done budget c a d e f (l, x, g, more) (u, y, o, rest) i j h k =
      let xy : x ≡ y = one-next c x y l u g o in
      let move : (o : ℕ) → done + suc o ≡ suc done + o = λ o. omega arith in
      let (nm, ef, ad) = one-run n m (suc done) budget x a d e f more (subst (λ (z : Configuration). Run (FirstReduces w) m z d) (sym xy) rest) (omega (arith, i)) (omega (arith, j))
      (subst (λ z. IsEnd w a z budget e) (move n) h) (subst (λ z. IsEnd w d z budget f) (move m) k) in
      (ap suc nm, ef, ad)

pub only-run : (w : World) (scripts : List Lines) (budget n m : ℕ) (e f : Ending) (c d : Configuration) → RunsFromStart w scripts budget e n c → RunsFromStart w scripts budget f m d → (n ≡ m) × (e ≡ f) × (c ≡ d)
only-run w scripts budget n m e f c d r s =
    one-run w n m 0 budget (start w scripts) c d e f r.run s.run (subst (λ z. z ≤ budget) (sym (zero-add n)) r.within) (subst (λ z. z ≤ budget) (sym (zero-add m)) s.within)
    (subst (λ z. IsEnd w c z budget e) (sym (zero-add n)) r.ends) (subst (λ z. IsEnd w d z budget f) (sym (zero-add m)) s.ends)
