-- A lawful configuration in which nothing is enabled is finished, broken or awaiting.
use Rattle.std.proofs.Common.{◌≡◌, ◌≢◌, ℕ, Bool, true, false, List, [], ◌∷◌, ◌++◌, ◌⊎◌, inl, inr, refl, sym, ap, subst, ◌∙◌, true≢false, map, Option, Some, None}
use Rattle.campl_tree.specs.Plain.Decl.{Program}
use Rattle.campl_machine.specs.Names.{Path, End, Who, Process, Service, TellsApart, same_end, same_who}
use Rattle.campl_machine.specs.Machine.{Act, Moves, Looks, Links, Stands, Breaks, moved, performs}
use Rattle.campl_machine.specs.Graph.{Graph, Leads}
use Rattle.campl_machine.specs.Progress.{Within, Points}
use Rattle.campl_machine.proofs.Same.{same_end-is, same_end-refl, same_who-is, same_who-refl}
use Rattle.campl_machine.proofs.Updates.{split}
use Rattle.campl_machine.proofs.Descent.{some-stops}
use Rattle.campl_types.specs.World.{World, world_of}
use Rattle.campl_types.specs.Views.{turned}
use Rattle.campl_service.specs.declared.phase.Phase.{Phase}
use Rattle.campl_service.specs.declared.phase.Phase.TheVariants as phase
use Rattle.campl_meaning.specs.States.{Message, State, Runs, Serves}
use Rattle.campl_meaning.specs.Reductions.{Configuration, act_of}
use Rattle.campl_meaning.specs.Ends.{IsEnabled, HasNoProcess, HasProcess, NeverActs, IsBrokenAt, IsAsked, Finished, Broken, Awaiting, IsEnd}
use Rattle.campl_meaning.specs.Views.{TakesAll}
use Rattle.campl_meaning.specs.Apart.{Place, At, In, Gone, IsJoined, IsOfKind, Node, Holder, Pair, owes_pair, node_of, graph}
use Rattle.campl_meaning.specs.Lawful.{Lawful, Agree, seen}
use Rattle.campl_meaning.proofs.Pairs.{the-pair, carried-owes}
use Rattle.campl_meaning.proofs.Graphs.{same_node, nodes-apart}
use Rattle.campl_meaning.proofs.Phases.{is_open, open-kept}
use Rattle.campl_progress.proofs.Waits.{Waits, not-both-wait, takes-waits, still, IsOver, over-is-still, over-turned}
use Rattle.campl_progress.proofs.Acts.{IsReceipt, Answers}
use Rattle.campl_progress.proofs.Takes.{MayStand, MayBreak, may, node-answers, takes-first}

abbrev is_there : Option State → Bool
is_there None = false
is_there (Some (Runs r)) = true
is_there (Some (Serves s)) = is_open s.serving.phase

-- the end on which a step waits
abbrev waits_on : Act State Message → Option End
waits_on (Moves m) = None
waits_on (Looks t x f) = Some x
waits_on (Links x y) = None
waits_on Stands = None
waits_on Breaks = None

abbrev waits_of : World → Who → Option State → Option End
waits_of w who None = None
waits_of w who (Some s) = waits_on (act_of w who s 0)

-- Lists

within-front : {A : Type 0} (x : A) (xs ys : List A) → Within xs x → Within (xs ++ ys) x
within-front x [] ys i = absurd i
within-front x (y ∷ xs) ys (inl i) = inl i
within-front x (y ∷ xs) ys (inr i) = inr (within-front x xs ys i)

within-behind : {A : Type 0} (x : A) (xs ys : List A) → Within ys x → Within (xs ++ ys) x
within-behind x [] ys i = i
within-behind x (y ∷ xs) ys i = inr (within-behind x xs ys i)

within-map : {A B : Type 0} (f : A → B) (x : A) (xs : List A) → Within xs x → Within (map f xs) (f x)
within-map f x [] i = absurd i
within-map f x (y ∷ xs) (inl i) = inl (ap f i)
within-map f x (y ∷ xs) (inr i) = inr (within-map f x xs i)

-- Pairs

owes-some : (ms : List Message) → owes_pair ms ≡ true → (m : Message) × (more : List Message) × (ms ≡ m ∷ more)
owes-some [] i = absurd (true≢false (sym i))
owes-some (m ∷ ms) i = (m, ms, refl)

-- among the processes of a list one has it, or none
some-or-none : (P : Path → Type 0) → ((p : Path) → P p ⊎ (P p → ⊥)) → (ws : List Who) → ((p : Path) × P p) ⊎ ((p : Path) → Within ws (Process p) → P p → ⊥)
some-or-none P decide [] = inr (λ p i h. i)
some-or-none P decide (Service n ∷ ws) = elim (some-or-none P decide ws) [
  | inl h ↦ inl h
  | inr none ↦ inr (λ p i h. elim i [ inl j ↦ absurd (cc j) | inr j ↦ none p j h ])
]
some-or-none P decide (Process q ∷ ws) = elim (decide q) [
  | inl h ↦ inl (q, h)
  | inr not ↦ elim (some-or-none P decide ws) [
    | inl h ↦ inl h
    | inr none ↦ inr (λ p i h. elim i [ inl j ↦ (let e : p ≡ q = cc j in not (subst P e h)) | inr j ↦ none p j h ])
  ]
]

module _ (source : Program) (c : Configuration) (l : Lawful source c) (quiet : IsEnabled (world_of source) c → ⊥) where
  abbrev w : World
  w = world_of source

  abbrev g : Graph End Node
  g = graph c l.place

  abbrev there : Node → Bool
  there (Holder who) = is_there (c.nodes who)
  there (Pair e) = owes_pair (c.owed e)

  abbrev point : Node → Option End
  point (Holder who) = waits_of w who (c.nodes who)
  point (Pair e) = Some e

  abbrev all_nodes : List Node
  all_nodes = map Holder l.nodes ++ map Pair l.ends

  -- a node that waits, with nothing owed to it
  record IsStuck (who : Who) (x : End) : Type 0 where
    at : l.place x ≡ At who
    joined : IsJoined c x
    waits : Waits w (seen l.channel x)
    empty : (z : End) → c.partner x ≡ Some z → c.owed z ≡ []

  stuck : (who : Who) (x : End) → waits_of w who (c.nodes who) ≡ Some x → IsStuck who x
  stuck who x i = state (c.nodes who) refl i
    where
      act : (s : State) → c.nodes who ≡ Some s → (A : Act State Message) → act_of w who s 0 ≡ A → Answers w c l.channel l.place who (MayStand who s 0) (MayBreak w who s) A → waits_on A ≡ Some x → IsStuck who x
      act s is (Looks t y f) e h j =
          let yx : y ≡ x = cc j in
          let k : IsReceipt w c l.channel l.place who x f = subst (λ z. IsReceipt w c l.channel l.place who z f) yx h in
          let e2 : act_of w who s 0 ≡ Looks t x f = subst (λ z. act_of w who s 0 ≡ Looks t z f) yx e in
          record { at = k.at; joined = k.joined; waits = k.waits; empty = λ z pz. nothing t f e2 z pz (c.owed z) refl }
        where
          nothing : (t : Bool) (f : Message → Option State) → act_of w who s 0 ≡ Looks t x f → (z : End) → c.partner x ≡ Some z → (ms : List Message) → c.owed z ≡ ms → c.owed z ≡ []
          nothing t f e z pz [] o = o
          nothing t f e z pz (m ∷ ms) o = (let h = takes-first source c l who s 0 t x z f m ms is e pz o in absurd (quiet (who, (0, h.0, h.1))))
      act s is (Moves m) e h j = absurd (cc j)
      act s is (Links y z) e h j = absurd (cc j)
      act s is Stands e h j = absurd (cc j)
      act s is Breaks e h j = absurd (cc j)

      state : (o : Option State) → c.nodes who ≡ o → waits_of w who o ≡ Some x → IsStuck who x
      state None is j = absurd (cc j)
      state (Some s) is j = act s is (act_of w who s 0) refl (node-answers source c l who s 0 is) j

  -- what has a partner stands at a node that is there, unless it was given up

  holder-there : (who : Who) (e : End) → IsJoined c e → l.place e ≡ At who → is_there (c.nodes who) ≡ true
  holder-there (Process p) e j i = let (r, x, is, f) = l.apart.placed.holder p e j i in rw is refl
  holder-there (Service n) e j i = let (s, is, same, not_closed) = l.apart.placed.server n e j i in rw is (open-kept s.serving.phase not_closed)

  node-there : (e : End) → IsJoined c e → (IsOver (l.channel e) → ⊥) → (v : Node) × (g.at e ≡ Some v) × (there v ≡ true)
  node-there e j not_over = go (l.place e) refl
    where
      go : (pl : Place) → l.place e ≡ pl → (v : Node) × (g.at e ≡ Some v) × (there v ≡ true)
      go (At who) i = (Holder who, ap (λ z. node_of z e (c.owed e)) i, holder-there who e j i)
      go (In y) i = (Pair y, ap (λ z. node_of z e (c.owed e)) i, carried-owes (c.owed y) e (l.apart.placed.carrier y e j i))
      go Gone i = absurd (not_over (l.given_up e j i))

  -- the partner of an end that waits
  partner-there : (x z : End) → c.partner x ≡ Some z → Waits w (seen l.channel x) → c.owed z ≡ [] → (v : Node) × (g.at z ≡ Some v) × (there v ≡ true)
  partner-there x z pz ws none = node-there z (x, l.apart.placed.paired.back x z pz) over
    where
      over : IsOver (l.channel z) → ⊥
      over o =
          let a : Agree w c l.channel x z = l.agree x z pz in
          let left : seen l.channel x ≡ a.left = subst (λ ms. TakesAll w (seen l.channel x) ms a.left) none a.mine in
          let same : seen l.channel z ≡ turned a.left = still w (seen l.channel z) (c.owed x) (turned a.left) (over-is-still w (l.channel z) o) a.yours in
          over-turned w (l.channel z) a.left o same (subst (Waits w) left ws)

  -- an end that owes a pair
  record IsPair (z : End) : Type 0 where
    gone : l.place z ≡ Gone
    over : l.channel z ≡ None
    partner : End
    joined : c.partner z ≡ Some partner

  pair-there : (z : End) → owes_pair (c.owed z) ≡ true → IsPair z
  pair-there z i =
      let h = the-pair (c.owed z) i in
      let up = l.pairs.given_up z h.one h.other h.before h.after h.is in
      go (c.partner z) refl up
    where
      go : (o : Option End) → c.partner z ≡ o → (l.place z ≡ Gone) × (l.channel z ≡ None) → IsPair z
      go None j up = absurd (true≢false (sym i ∙ ap owes_pair (l.apart.placed.idle z j)))
      go (Some y) j up = record { gone = up.0; over = up.1; partner = y; joined = j }

  -- who takes it waits
  taker-waits : (z y : End) → c.partner z ≡ Some y → owes_pair (c.owed z) ≡ true → Waits w (seen l.channel y)
  taker-waits z y pz i =
      let a : Agree w c l.channel z y = l.agree z y pz in
      let (m, ms, q) = owes-some (c.owed z) i in
      takes-waits w (seen l.channel y) m ms (turned a.left) (subst (λ t. TakesAll w (seen l.channel y) t (turned a.left)) q a.yours)

  -- a pair's node is where pairs are
  owes-there : (e z : End) → IsJoined c e → g.at e ≡ Some (Pair z) → owes_pair (c.owed z) ≡ true
  owes-there e z j i = go (l.place e) refl i
    where
      go : (pl : Place) → l.place e ≡ pl → node_of pl e (c.owed e) ≡ Some (Pair z) → owes_pair (c.owed z) ≡ true
      go (At who) is k = let h : Holder who ≡ Pair z = cc k in absurd (cc h)
      go (In y) is k =
          let h : Pair y ≡ Pair z = cc k in
          let yz : y ≡ z = cc h in
          subst (λ t. owes_pair (c.owed t) ≡ true) yz (carried-owes (c.owed y) e (l.apart.placed.carrier y e j is))
      go Gone is k = elim (split (owes_pair (c.owed e))) [
        | inl t ↦ let h : Some (Pair e) ≡ Some (Pair z) = rw t at k in let m : Pair e ≡ Pair z = cc h in let ez : e ≡ z = cc m in subst (λ q. owes_pair (c.owed q) ≡ true) ez t
        | inr t ↦ let h : None ≡ Some (Pair z) = rw t at k in absurd (cc h)
      ]

  -- each node points along an edge to a node that is there
  along : (u : Node) (e : End) → there u ≡ true → point u ≡ Some e → (f : End) × (v : Node) × Leads g e f u v × (there v ≡ true)
  along (Holder who) e t i =
      let k : IsStuck who e = stuck who e i in
      let (z, pz) = k.joined in
      let (v, at, tv) = partner-there e z pz k.waits (k.empty z pz) in
      (z, v, record { there = pz; back = l.apart.placed.paired.back e z pz; from = ap (λ q. node_of q e (c.owed e)) k.at; to = at }, tv)
  along (Pair z) e t i =
      let ze : z ≡ e = cc i in
      let k : IsPair z = pair-there z t in
      let not_over : IsOver (l.channel k.partner) → ⊥ = λ o. over-is-still w (l.channel k.partner) o (taker-waits z k.partner k.joined t) in
      let back : c.partner k.partner ≡ Some z = l.apart.placed.paired.back z k.partner k.joined in
      let (v, at, tv) = node-there k.partner (z, back) not_over in
      (k.partner, v, subst (λ q. Leads g q k.partner (Pair z) v) ze (record { there = k.joined; back = back; from = ap (λ q. node_of q z (c.owed z)) k.gone ∙ rw t refl; to = at }), tv)

  -- what is seen of an end with nothing owed to it
  seen-left : (x z : End) (a : Agree w c l.channel x z) → c.owed z ≡ [] → seen l.channel x ≡ a.left
  seen-left x z a none = subst (λ ms. TakesAll w (seen l.channel x) ms a.left) none a.mine

  seen-right : (x z : End) (a : Agree w c l.channel x z) → c.owed x ≡ [] → seen l.channel z ≡ turned a.left
  seen-right x z a none = subst (λ ms. TakesAll w (seen l.channel z) ms (turned a.left)) none a.yours

  -- a pair at e, and a node that waits for it with nothing owed
  not-owed : (who : Who) (e f : End) → IsStuck who f → c.partner f ≡ Some e → owes_pair (c.owed e) ≡ true → ⊥
  not-owed who e f k pe t = true≢false (sym t ∙ ap owes_pair (k.empty e pe))

  -- no edge is pointed at from both its halves
  once : (u v : Node) (e f : End) → point u ≡ Some e → point v ≡ Some f → Leads g e f u v → ⊥
  once (Holder p) (Holder q) e f i j k =
      let m : IsStuck p e = stuck p e i in
      let n : IsStuck q f = stuck q f j in
      let a : Agree w c l.channel e f = l.agree e f k.there in
      not-both-wait w a.left (subst (Waits w) (seen-left e f a (m.empty f k.there)) m.waits) (subst (Waits w) (seen-right e f a (n.empty e k.back)) n.waits)
  once (Holder p) (Pair z) e f i j k =
      let zf : z ≡ f = cc j in
      let t : owes_pair (c.owed z) ≡ true = owes-there f z (e, k.back) k.to in
      not-owed p f e (stuck p e i) k.there (subst (λ q. owes_pair (c.owed q) ≡ true) zf t)
  once (Pair z) (Holder q) e f i j k =
      let ze : z ≡ e = cc i in
      let t : owes_pair (c.owed z) ≡ true = owes-there e z (f, k.there) k.from in
      not-owed q e f (stuck q f j) k.back (subst (λ q. owes_pair (c.owed q) ≡ true) ze t)
  once (Pair z) (Pair y) e f i j k =
      let ze : z ≡ e = cc i in
      let yf : y ≡ f = cc j in
      let tz : owes_pair (c.owed e) ≡ true = subst (λ q. owes_pair (c.owed q) ≡ true) ze (owes-there e z (f, k.there) k.from) in
      let ty : owes_pair (c.owed f) ≡ true = subst (λ q. owes_pair (c.owed q) ≡ true) yf (owes-there f y (e, k.back) k.to) in
      let m : IsPair e = pair-there e tz in
      over-is-still w (l.channel e) (inl m.over) (taker-waits f e k.back ty)

  listed : (u : Node) → there u ≡ true → Within all_nodes u
  listed (Holder who) t = go (c.nodes who) refl t
    where
      go : (o : Option State) → c.nodes who ≡ o → is_there o ≡ true → Within all_nodes (Holder who)
      go None is i = absurd (true≢false (sym i))
      go (Some s) is i = within-front (Holder who) (map Holder l.nodes) (map Pair l.ends) (within-map Holder who l.nodes (l.listed who s is))
  listed (Pair z) t =
      let k : IsPair z = pair-there z t in
      within-behind (Pair z) (map Holder l.nodes) (map Pair l.ends) (within-map Pair z l.ends (l.joined z (k.partner, k.joined)))

  points : Points g all_nodes there point
  points = record { listed = listed; along = along; once = once }

  -- a node that is there and points at nothing is a broken process, or a service that was asked with its script spent
  ends-here : (v : Node) → there v ≡ true → point v ≡ None → ((p : Path) × IsBrokenAt w c p) ⊎ ((n : ℕ) × IsAsked c n)
  ends-here (Pair e) t i = absurd (cc i)
  ends-here (Holder who) t i = state (c.nodes who) refl t i
    where
      enabled : (s : State) → c.nodes who ≡ Some s → (d : Configuration) → performs c who (act_of w who s 0) ≡ Some d → ⊥
      enabled s is d h = let k = may w c d who s 0 is h in quiet (who, (0, k.0, k.1))

      stands : (v : Who) → who ≡ v → (s : State) → c.nodes v ≡ Some s → MayStand v s 0 → is_there (Some s) ≡ true → ((p : Path) × IsBrokenAt w c p) ⊎ ((n : ℕ) × IsAsked c n)
      stands (Process p) vw (Runs r) is h t = absurd (h refl)
      stands (Service n) vw (Serves s) is (inl spent) t = inr (n, (s, is, spent))
      stands (Service n) vw (Serves s) is (inr closed) t = absurd (true≢false (sym t ∙ ap is_open closed))
      stands (Process p) vw (Serves s) is h t = absurd h
      stands (Service n) vw (Runs r) is h t = absurd h

      breaks : (v : Who) (s : State) → c.nodes v ≡ Some s → act_of w v s 0 ≡ Breaks → MayBreak w v s → ((p : Path) × IsBrokenAt w c p) ⊎ ((n : ℕ) × IsAsked c n)
      breaks (Process p) (Runs r) is e h = inl (p, (Runs r, is, subst (NeverActs c (Process p)) (sym e) tt))
      breaks (Service n) (Serves s) is e h = absurd h
      breaks (Process p) (Serves s) is e h = absurd h
      breaks (Service n) (Runs r) is e h = absurd h

      act : (s : State) → c.nodes who ≡ Some s → is_there (Some s) ≡ true → (A : Act State Message) → act_of w who s 0 ≡ A → Answers w c l.channel l.place who (MayStand who s 0) (MayBreak w who s) A → waits_on A ≡ None →
          ((p : Path) × IsBrokenAt w c p) ⊎ ((n : ℕ) × IsAsked c n)
      act s is t (Moves m) e h j = absurd (enabled s is (moved c who m) (ap (performs c who) e))
      act s is t (Looks x y f) e h j = absurd (cc j)
      act s is t (Links x y) e (d, h) j = absurd (enabled s is d (ap (performs c who) e ∙ h))
      act s is t Stands e h j = stands who refl s is h t
      act s is t Breaks e h j = breaks who s is e h

      state : (o : Option State) → c.nodes who ≡ o → is_there o ≡ true → waits_of w who o ≡ None → ((p : Path) × IsBrokenAt w c p) ⊎ ((n : ℕ) × IsAsked c n)
      state None is t j = absurd (true≢false (sym t))
      state (Some s) is t j = act s is t (act_of w who s 0) refl (node-answers source c l who s 0 is) j

  -- where some process is left, the walk ends
  walk : HasProcess c → ((p : Path) × IsBrokenAt w c p) ⊎ ((n : ℕ) × IsAsked c n)
  walk (p, s, is) =
      let tells_ends : TellsApart same_end = record { is = same_end-is; own = same_end-refl } in
      let (v, tv, pv) = some-stops same_end same_node tells_ends nodes-apart g all_nodes there point points l.apart.forest (Holder (Process p)) (rw is (runs s (l.apart.placed.kinds (Process p) s is))) in
      ends-here v tv pv
    where
      runs : (s : State) → IsOfKind (Process p) s → is_there (Some s) ≡ true
      runs (Runs r) k = refl
      runs (Serves s) k = absurd k

  -- whether a process is left, and whether one is broken

  process-at : (p : Path) → ((s : State) × (c.nodes (Process p) ≡ Some s)) ⊎ (((s : State) × (c.nodes (Process p) ≡ Some s)) → ⊥)
  process-at p = go (c.nodes (Process p)) refl
    where
      go : (o : Option State) → c.nodes (Process p) ≡ o → ((s : State) × (c.nodes (Process p) ≡ Some s)) ⊎ (((s : State) × (c.nodes (Process p) ≡ Some s)) → ⊥)
      go None is = inr (λ h. cc (is, h.1))
      go (Some s) is = inl (s, is)

  never-or-not : (who : Who) (A : Act State Message) → NeverActs c who A ⊎ (NeverActs c who A → ⊥)
  never-or-not who Breaks = inl tt
  never-or-not who (Links x y) = go (performs c who (Links x y)) refl
    where
      go : (o : Option Configuration) → performs c who (Links x y) ≡ o → NeverActs c who (Links x y) ⊎ (NeverActs c who (Links x y) → ⊥)
      go None is = inl is
      go (Some d) is = inr (λ h. cc (is, h))
  never-or-not who (Moves m) = inr (λ h. h)
  never-or-not who (Looks t x f) = inr (λ h. h)
  never-or-not who Stands = inr (λ h. h)

  broken-at : (p : Path) → IsBrokenAt w c p ⊎ (IsBrokenAt w c p → ⊥)
  broken-at p = elim (process-at p) [
    | inl h ↦ elim (never-or-not (Process p) (act_of w (Process p) h.0 0)) [
      | inl k ↦ inl (h.0, h.1, k)
      | inr k ↦ inr (λ b. let e : b.0 ≡ h.0 = cc (b.1, h.1) in k (subst (λ z. NeverActs c (Process p) (act_of w (Process p) z 0)) e b.2))
    ]
    | inr n ↦ inr (λ b. n (b.0, b.1))
  ]

  no-process : ((p : Path) → Within l.nodes (Process p) → ((s : State) × (c.nodes (Process p) ≡ Some s)) → ⊥) → HasNoProcess c
  no-process none p = go (c.nodes (Process p)) refl
    where
      go : (o : Option State) → c.nodes (Process p) ≡ o → c.nodes (Process p) ≡ None
      go None is = is
      go (Some s) is = absurd (none p (l.listed (Process p) s is) (s, is))

  abbrev SomeState : Path → Type 0
  SomeState p = (s : State) × (c.nodes (Process p) ≡ Some s)

  left : (p : Path) → SomeState p → HasProcess c
  left p (s, is) = (p, s, is)

  -- progress
  pub progress : (steps budget : ℕ) → IsEnd w c steps budget Finished ⊎ (IsEnd w c steps budget Broken ⊎ IsEnd w c steps budget Awaiting)
  progress steps budget = elim (some-or-none SomeState process-at l.nodes) [
    | inr none ↦ inl (no-process none, quiet)
    | inl some ↦ elim (some-or-none (IsBrokenAt w c) broken-at l.nodes) [
      | inl broken ↦ inr (inl (quiet, broken))
      | inr whole ↦ elim (walk (left some.0 some.1)) [
        | inl broken ↦ inr (inl (quiet, broken))
        | inr asked ↦ inr (inr (quiet, (λ p b. whole p (l.listed (Process p) b.0 b.1) b), left some.0 some.1, asked))
      ]
    ]
  ]
