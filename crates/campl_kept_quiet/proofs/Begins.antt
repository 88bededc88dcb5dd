-- The start of an accepted source with any scripts is lawful.
use Rattle.std.proofs.Common.{◌≡◌, ◌≢◌, ◌∙◌, ◌⊎◌, inl, inr, refl, sym, ap, ap₂, subst, ℕ, zero, suc, arith, true, IsTrue, List, [], ◌∷◌, ◌++◌, Option, Some, None, map, length, true≢false, append_assoc, codes}
use Rattle.campl_tree.specs.declared.place.Ident.{Ident}
use Rattle.campl_tree.specs.declared.process.Binder.{Binder}
use Rattle.campl_tree.specs.declared.service.Side.{Side}
use Rattle.campl_tree.specs.declared.service.Side.TheVariants.{Input, Output}
use Rattle.campl_tree.specs.Side.{opposite}
use Rattle.campl_tree.specs.declared.service.ServiceName.{ServiceName}
use Rattle.campl_tree.specs.Plain.SeqType.{SeqType, no_types, type_then}
use Rattle.campl_tree.specs.Plain.ChanType.{ChanType, Put, Get, Tensor, Par, TopBot, Neg, Named}
use Rattle.campl_tree.specs.Plain.Decl.{Program, ProcessDecl}
use Rattle.campl_machine.specs.Names.{Path, Half, First, Second, End, Who, Process, Service, same_end, same_who}
use Rattle.campl_machine.specs.Machine.{update, both_ways}
use Rattle.campl_machine.specs.Graph.{Graph, Leads, Mutual, NoCycle}
use Rattle.campl_machine.specs.Progress.{Within}
use Rattle.campl_machine.proofs.Bridges.{Bridge, no_cycle}
use Rattle.campl_types.specs.Names.{Name, found, are_distinct, is_empty}
use Rattle.campl_types.specs.SameType.{nowhere, IsSameChan}
use Rattle.campl_types.specs.World.{World, world_of, names_of, process_named}
use Rattle.campl_types.specs.Patterns.{bound_by_all}
use Rattle.campl_types.specs.Known.{each, in_decl}
use Rattle.campl_types.specs.Twice.{twice_faults}
use Rattle.campl_types.specs.Run.{is_type_named, all, has_services_alone, run_faults, service, services_of}
use Rattle.campl_types.specs.Views.{turned}
use Rattle.campl_types.specs.Held.{Channel, On, nothing_held}
use Rattle.campl_types.specs.Linear.{IsWellFormed, ProcessIsTyped, row_channels, row_variables}
use Rattle.campl_types.proofs.Names.{same-is}
use Rattle.campl_types.proofs.Turned.{turned-twice}
use Rattle.campl_service.specs.declared.phase.Phase.TheVariants as phase
use Rattle.campl_service.specs.Scripts.{Lines}
use Rattle.campl_evaluation.specs.Typed.{AreBound}
use Rattle.campl_peel.specs.Terms.{Doing, held_ends}
use Rattle.campl_peel.proofs.Found.{found-trees}
use Rattle.campl_meaning.specs.States.{Message, EndPair, Ends, Running, Attending, State, Runs, Serves}
use Rattle.campl_meaning.specs.Reductions.{Configuration}
use Rattle.campl_meaning.specs.Start.{half, near, far, wires, holding, kind_at, attending, running, start}
use Rattle.campl_meaning.specs.Views.{view_in}
use Rattle.campl_meaning.specs.Apart.{Place, At, In, Gone, IsPlaced, IsJoined, IsHeldBy, IsServedBy, IsNamed, IsAtMost, number_after, number_in_end, IsOfKind, Node, Holder, node_of, graph, end_names}
use Rattle.campl_meaning.specs.Lawful.{IsAccepted, Channels, seen, IsTypedAt, Agree, AreLastPairs, IsInPhase, service_side, Lawful}
use Rattle.campl_meaning.proofs.Run.{run-is}
use Rattle.campl_types.proofs.DeclaredOnce.{no-second}
use Rattle.campl_kept_quiet.specs.Quiet.{IsAlike}
use Rattle.campl_kept_quiet.proofs.Alike.{alike-itself, alike-seen, alike-on}
use Rattle.campl_kept_quiet.proofs.Handed.{distinct-right, Among, found-among, among-found, one-name, Fit, retyped, retyped-alike, listed, held-is}
use Rattle.campl_kept_quiet.proofs.Calls.{heading, channels-listed}
use Rattle.campl_kept_quiet.proofs.Wires.{Wired, near-far, partner-near, partner-far, partner-is, own, base, base-near, base-far, among-holding, holding-is, holding-differ, holding-names, Suit, suit-append, suit-fit, attend, no-process, serving-is, serving-there, service_names, service-listed, wired_ends, joined-listed}
use Rattle.campl_types.proofs.Lowers.{process-typed}
use Rattle.campl_peel.proofs.Standing.{and-both}

no-variables : (xs : List Binder) (ts : List SeqType) → is_empty ts ≡ true → row_variables xs ts ≡ []
no-variables [] ts i = refl
no-variables (x ∷ xs) [] i = refl
no-variables (x ∷ xs) (t ∷ ts) i = absurd (true≢false (sym i))

-- the type of a service
named-same : (x : Name) (t : ChanType) → is_type_named x t ≡ true → IsSameChan (Named nowhere x no_types) t
named-same x (Put t y) i = absurd (true≢false (sym i))
named-same x (Get t y) i = absurd (true≢false (sym i))
named-same x (Tensor y z) i = absurd (true≢false (sym i))
named-same x (Par y z) i = absurd (true≢false (sym i))
named-same x TopBot i = absurd (true≢false (sym i))
named-same x (Neg y) i = absurd (true≢false (sym i))
named-same x (Named at y no_types) i = ap (λ z. Named nowhere z no_types) (same-is x y i)
named-same x (Named at y (type_then t ts)) i = absurd (true≢false (sym i))

suit-side : (s : Side) (x : Name) → own s ≡ Named nowhere x no_types → (ys : List Ident) (ts : List ChanType) → length ys ≡ length ts → all (is_type_named x) ts ≡ true
    → Suit (map (service s) ys) (map (On s) ts)
suit-side s x o [] [] i h = tt
suit-side s x o (y ∷ ys) (t ∷ ts) i h =
    let (a, k) = and-both (is_type_named x t) (all (is_type_named x) ts) h in
    ((refl, subst (λ z. IsSameChan z t) (sym o) (named-same x t a)), suit-side s x o ys ts (cc i) k)
suit-side s x o [] (t ∷ ts) i h = absurd (cc i)
suit-side s x o (y ∷ ys) [] i h = absurd (cc i)

names-are : (s : Side) (ys : List Ident) → map (λ (x : ServiceName). x.name) (map (service s) ys) ≡ names_of ys
names-are s [] = refl
names-are s (y ∷ ys) = ap (λ z. y.name ∷ z) (names-are s ys)

names-join : (xs ys : List ServiceName) → map (λ (x : ServiceName). x.name) (xs ++ ys) ≡ map (λ (x : ServiceName). x.name) xs ++ map (λ (x : ServiceName). x.name) ys
names-join [] ys = refl
names-join (x ∷ xs) ys = ap (λ z. x.name ∷ z) (names-join xs ys)

-- Sides

far-seen : (s : Side) → view_in (Some (On (opposite s) (own s))) ≡ turned (view_in (Some (On s (own s))))
far-seen Input = refl
far-seen Output = refl

far-side : (s : Side) → opposite s ≡ service_side (kind_at s)
far-side Input = refl
far-side Output = refl

-- Places

abbrev pred : ℕ → ℕ
pred zero = 0
pred (suc n) = n

abbrev stood : Half → ℕ → Place
stood First n = At (Process [])
stood Second n = At (Service (pred n))

abbrev if_joined : Option End → Place → Place
if_joined None a = Gone
if_joined (Some f) a = a

module _ (source : Program) (accepted : IsAccepted source) (q : ProcessDecl) (q-is : process_named (world_of source) (codes "run") ≡ Some q) (alone : has_services_alone q ≡ true) (scripts : List Lines) where
  abbrev w : World
  w = world_of source

  abbrev xs : List ServiceName
  xs = map (service Input) q.row.inputs ++ map (service Output) q.row.outputs

  abbrev ends : Ends
  ends = holding 0 xs

  abbrev first : Running
  first = record { term = Doing q.row.body; variables = []; ends = ends; steps = 0; spent = 0 }

  abbrev c : Configuration
  c = record {
    nodes = update same_who (running (Some q) ends ++ attending 0 xs scripts) (λ who. None);
    partner = update same_end (both_ways (wires 0 xs)) (λ e. None);
    owed = λ e. [];
  }

  abbrev stands : End → Place
  stands e = if_joined (c.partner e) (stood e.half e.channel)

  stands-near : (e : End) (m : ℕ) (x : ServiceName) → Wired 0 xs m x → e ≡ near m → stands e ≡ At (Process [])
  stands-near e m x h i = ap stands i ∙ ap (λ o. if_joined o (At (Process []))) (partner-near 0 xs m x h)

  stands-far : (e : End) (m : ℕ) (x : ServiceName) → Wired 0 xs m x → e ≡ far m → stands e ≡ At (Service m)
  stands-far e m x h i = ap stands i ∙ ap (λ o. if_joined o (At (Service m))) (partner-far 0 xs m x h)

  q-typed : ProcessIsTyped w q
  q-typed = process-typed source accepted.typed (codes "run") q q-is

  services : (is_empty q.parameters ≡ true) × (all (is_type_named (codes "Console")) q.inputs ≡ true) × (all (is_type_named (codes "StringTerminal")) q.outputs ≡ true)
  services =
      let (a, d) = and-both _ _ alone in
      let (b, e) = and-both _ _ a in
      let (f, g) = and-both _ _ b in
      (f, g, e)

  suits : Suit xs (heading q)
  suits =
      let (distinct, long, longer, longest, closed, well) = q-typed in
      suit-append (map (service Input) q.row.inputs) (map (service Output) q.row.outputs) (map (On Input) q.inputs) (map (On Output) q.outputs)
      (suit-side Input (codes "Console") refl q.row.inputs q.inputs longer services.1)
      (suit-side Output (codes "StringTerminal") refl q.row.outputs q.outputs longest services.2)

  fit : Fit (base 0 xs) ends (heading q)
  fit = suit-fit (base 0 xs) 0 xs (heading q) (λ m x h. base-near 0 xs m x h) suits

  end-names : end_names ends ≡ names_of q.row.inputs ++ names_of q.row.outputs
  end-names =
      holding-names 0 xs ∙ (names-join (map (service Input) q.row.inputs) (map (service Output) q.row.outputs)
      ∙ ap₂ ◌++◌ (names-are Input q.row.inputs) (names-are Output q.row.outputs))

  own-names : IsTrue (are_distinct (end_names ends))
  own-names =
      let (distinct, long, longer, longest, closed, well) = q-typed in
      subst (λ z. IsTrue (are_distinct z)) (sym end-names) (distinct-right (bound_by_all q.row.variables) (names_of q.row.inputs ++ names_of q.row.outputs)
      (subst (λ z. IsTrue (are_distinct z)) (append_assoc (bound_by_all q.row.variables) (names_of q.row.inputs) (names_of q.row.outputs)) distinct))

  abbrev channel : Channels
  channel = retyped ends (heading q) (base 0 xs)

  alike : (e : End) → IsAlike (base 0 xs e) (channel e)
  alike e = retyped-alike (base 0 xs) (λ a. alike-itself (base 0 xs a)) ends (heading q) e fit

  -- Nodes

  node-is : (p : Path) (s : State) → c.nodes (Process p) ≡ Some s → (p ≡ []) × (s ≡ Runs first)
  node-is [] s i = (refl, sym (cc i))
  node-is (b ∷ p) s i = absurd (cc (sym (no-process 0 xs scripts (b ∷ p)) ∙ i))

  runs-is : (p : Path) (r : Running) → c.nodes (Process p) ≡ Some (Runs r) → (p ≡ []) × (r ≡ first)
  runs-is p r i = let (e, f) = node-is p (Runs r) i in (e, cc f)

  service-is : (m : ℕ) (s : Attending) → c.nodes (Service m) ≡ Some (Serves s) → (x : ServiceName) × (lines : Lines) × Wired 0 xs m x × (s ≡ attend m x lines)
  service-is m s i = let (x, lines, h, j) = serving-is 0 xs scripts m (Serves s) i in (x, lines, h, cc j)

  kinds : (who : Who) (s : State) → c.nodes who ≡ Some s → IsOfKind who s
  kinds (Process p) s i = let (e, f) = node-is p s i in subst (IsOfKind (Process p)) (sym f) tt
  kinds (Service m) s i = let (x, lines, h, j) = serving-is 0 xs scripts m s i in subst (IsOfKind (Service m)) (sym j) tt

  listed-node : (who : Who) (s : State) → c.nodes who ≡ Some s → Within (Process [] ∷ service_names 0 xs) who
  listed-node (Process p) s i = inl (ap Process (node-is p s i).0)
  listed-node (Service m) s i = let (x, lines, h, j) = serving-is 0 xs scripts m s i in inr (service-listed 0 xs m x h)

  -- Places

  held : (p : Path) (e : End) → IsHeldBy c p e → (stands e ≡ At (Process p)) × IsJoined c e
  held p e (r, x, i, f) =
      let (pe, re) = runs-is p r i in
      let a : found x ends ≡ Some e = subst (λ (z : Running). found x z.ends ≡ Some e) re f in
      let (m, y, h, j) = holding-is 0 xs e (found-among x ends e a) in
      (stands-near e m y h j ∙ ap (λ z. At (Process z)) (sym pe), (far m, ap c.partner j ∙ partner-near 0 xs m y h))

  served : (n : ℕ) (e : End) → IsServedBy c n e → (stands e ≡ At (Service n)) × IsJoined c e
  served n e (s, i, f, g) =
      let (x, lines, h, j) = service-is n s i in
      let k : far n ≡ e = sym (ap (λ (z : Attending). z.end) j) ∙ f in
      (stands-far e n x h (sym k), (near n, ap c.partner (sym k) ∙ partner-far 0 xs n x h))

  holder : (p : Path) (e : End) → IsJoined c e → stands e ≡ At (Process p) → IsHeldBy c p e
  holder p e (f, i) j = go (partner-is 0 xs e f i)
    where
      go : ((m : ℕ) × (x : ServiceName) × Wired 0 xs m x × (((e ≡ near m) × (f ≡ far m)) ⊎ ((e ≡ far m) × (f ≡ near m)))) → IsHeldBy c p e
      go (m, x, h, inl (k, l)) =
          let a : Among e ends = subst (λ z. Among z ends) (sym k) (among-holding 0 xs m x h) in
          let (y, g) = among-found ends e own-names a in
          let pe : [] ≡ p = cc (sym (stands-near e m x h k) ∙ j) in
          (first, y, subst (λ z. c.nodes (Process z) ≡ Some (Runs first)) pe refl, g)
      go (m, x, h, inr (k, l)) = absurd (cc (sym (stands-far e m x h k) ∙ j))

  server : (n : ℕ) (e : End) → IsJoined c e → stands e ≡ At (Service n) → IsServedBy c n e
  server n e (f, i) j = go (partner-is 0 xs e f i)
    where
      go : ((m : ℕ) × (x : ServiceName) × Wired 0 xs m x × (((e ≡ near m) × (f ≡ far m)) ⊎ ((e ≡ far m) × (f ≡ near m)))) → IsServedBy c n e
      go (m, x, h, inl (k, l)) = absurd (cc (sym (stands-near e m x h k) ∙ j))
      go (m, x, h, inr (k, l)) =
          let (lines, g) = serving-there 0 xs scripts m x h in
          let mn : m ≡ n = cc (sym (stands-far e m x h k) ∙ j) in
          (attend m x lines, subst (λ z. c.nodes (Service z) ≡ Some (Serves (attend m x lines))) mn g, sym k, λ z. cc z)

  -- each service is open
  open-yet : (n : ℕ) (s : Attending) → c.nodes (Service n) ≡ Some (Serves s) → s.serving.phase ≢ phase.Closed
  open-yet n s i g = let (x, lines, h, j) = service-is n s i in let k : phase.Pick ≡ phase.Closed = sym (ap (λ (z : Attending). z.serving.phase) j) ∙ g in cc k

  nowhere-else : (e : End) (a : Place) → IsJoined c e → stands e ≡ a → ((who : Who) → At who ≢ a) → ⊥
  nowhere-else e a (f, i) j n = go (partner-is 0 xs e f i)
    where
      go : ((m : ℕ) × (x : ServiceName) × Wired 0 xs m x × (((e ≡ near m) × (f ≡ far m)) ⊎ ((e ≡ far m) × (f ≡ near m)))) → ⊥
      go (m, x, h, inl (k, l)) = n (Process []) (sym (stands-near e m x h k) ∙ j)
      go (m, x, h, inr (k, l)) = n (Service m) (sym (stands-far e m x h k) ∙ j)

  paired : Mutual c.partner
  paired = record {
    back = λ e f i. back e f (partner-is 0 xs e f i);
    other = λ e i. other e (partner-is 0 xs e e i);
  }
    where
      back : (e f : End) → ((m : ℕ) × (x : ServiceName) × Wired 0 xs m x × (((e ≡ near m) × (f ≡ far m)) ⊎ ((e ≡ far m) × (f ≡ near m)))) → c.partner f ≡ Some e
      back e f (m, x, h, inl (k, l)) = ap c.partner l ∙ (partner-far 0 xs m x h ∙ ap Some (sym k))
      back e f (m, x, h, inr (k, l)) = ap c.partner l ∙ (partner-near 0 xs m x h ∙ ap Some (sym k))

      other : (e : End) → ((m : ℕ) × (x : ServiceName) × Wired 0 xs m x × (((e ≡ near m) × (e ≡ far m)) ⊎ ((e ≡ far m) × (e ≡ near m)))) → ⊥
      other e (m, x, h, inl (k, l)) = near-far m m (sym k ∙ l)
      other e (m, x, h, inr (k, l)) = near-far m m (sym l ∙ k)

  placed : IsPlaced c stands
  placed = record {
    kinds = kinds;
    paired = paired;
    idle = λ e i. refl;
    nowhere = λ e i. ap (λ o. if_joined o (stood e.half e.channel)) i;
    held = held;
    served = served;
    carried = λ z e i. absurd i;
    shut = λ n s i g. absurd (open-yet n s i g);
    holder = holder;
    server = server;
    carrier = λ z e i j. absurd (nowhere-else e (In z) i j (λ who k. cc k));
    names = λ p r i. subst (λ (z : Running). IsTrue (are_distinct (end_names z.ends))) (sym (runs-is p r i).1) own-names;
    ends = λ p r x y e i f g. let re : r ≡ first = (runs-is p r i).1 in
        one-name ends x y e (holding-differ 0 xs) (subst (λ (z : Running). found x z.ends ≡ Some e) re f) (subst (λ (z : Running). found y z.ends ≡ Some e) re g);
  }

  -- Each service is on an edge of its own

  abbrev Wire : End → End → Type 0
  Wire e f = (m : ℕ) × (x : ServiceName) × Wired 0 xs m x × (((e ≡ near m) × (f ≡ far m)) ⊎ ((e ≡ far m) × (f ≡ near m)))

  abbrev g : Graph End Node
  g = graph c stands

  at-near : (e : End) (m : ℕ) (x : ServiceName) → Wired 0 xs m x → (u : Node) → e ≡ near m → g.at e ≡ Some u → u ≡ Holder (Process [])
  at-near e m x h u i j = let k : Some (Holder (Process [])) ≡ Some u = sym (ap (λ a. node_of a e []) (stands-near e m x h i)) ∙ j in cc k

  at-far : (e : End) (m : ℕ) (x : ServiceName) → Wired 0 xs m x → (u : Node) → e ≡ far m → g.at e ≡ Some u → u ≡ Holder (Service m)
  at-far e m x h u i j = let k : Some (Holder (Service m)) ≡ Some u = sym (ap (λ a. node_of a e []) (stands-far e m x h i)) ∙ j in cc k

  bridge : (e f : End) (u v : Node) → Leads g e f u v → Wire e f → (S : Node → Type 0) × Bridge g e f u v S
  bridge e f u v l (m, x, h, inl (i, j)) = (
    (λ z. z ≡ Holder (Service m)),
    record {
      near = λ s. cc (sym (at-near e m x h u i l.from) ∙ s);
      far = at-far f m x h v j l.to;
      kept = λ y z a b k ny nz s. kept y z a b k ny nz s (partner-is 0 xs y z k.there);
    },
  )
    where
      kept : (y z : End) (a b : Node) → Leads g y z a b → y ≢ e → y ≢ f → a ≡ Holder (Service m) → Wire y z → b ≡ Holder (Service m)
      kept y z a b k ny nz s (n, t, o, inl (p, r)) = absurd (cc (sym (at-near y n t o a p k.from) ∙ s))
      kept y z a b k ny nz s (n, t, o, inr (p, r)) =
          let same : n ≡ m = cc (sym (at-far y n t o a p k.from) ∙ s) in
          absurd (nz (p ∙ (ap far same ∙ sym j)))
  bridge e f u v l (m, x, h, inr (i, j)) = (
    (λ z. z ≡ Holder (Service m) → ⊥),
    record {
      near = λ s. s (at-far e m x h u i l.from);
      far = λ s. cc (sym (at-near f m x h v j l.to) ∙ s);
      kept = λ y z a b k ny nz s t. kept y z a b k ny nz t (partner-is 0 xs y z k.there);
    },
  )
    where
      kept : (y z : End) (a b : Node) → Leads g y z a b → y ≢ e → y ≢ f → b ≡ Holder (Service m) → Wire y z → ⊥
      kept y z a b k ny nz s (n, t, o, inl (p, r)) =
          let same : n ≡ m = cc (sym (at-far z n t o b r k.to) ∙ s) in
          nz (p ∙ (ap near same ∙ sym j))
      kept y z a b k ny nz s (n, t, o, inr (p, r)) = cc (sym (at-near z n t o b r k.to) ∙ s)

  forest : NoCycle g
  forest = no_cycle g (λ e f u v l. bridge e f u v l (partner-is 0 xs e f l.there))

  -- Names

  none-after : (p o : Path) → p ≡ [] → o ≡ [] → number_after p o ≡ None
  none-after p o i j = rw (i, j) refl

  first-step : (p : Path) (e : End) → p ≡ [] → (m : ℕ) (h : Half) → e ≡ half m h → number_in_end p e ≡ Some 0
  first-step p e i m h j = rw (i, j) refl

  named : IsNamed c
  named = record {
    paths = λ p o r s i j. subst (λ z. IsAtMost z r.steps) (sym (none-after p o (runs-is p r i).0 (node-is o s j).0)) tt;
    channels = λ p r e i joined. subst (λ z. IsAtMost z r.steps) (sym (at-start p e (runs-is p r i).0 (partner-is 0 xs e joined.0 joined.1))) (omega arith);
  }
    where
      at-start : (p : Path) (e : End) → p ≡ [] → {f : End} → Wire e f → number_in_end p e ≡ Some 0
      at-start p e i (m, x, h, inl (k, l)) = first-step p e i m First k
      at-start p e i (m, x, h, inr (k, l)) = first-step p e i m Second k

  -- Types

  seen-base : (e : End) → seen channel e ≡ seen (base 0 xs) e
  seen-base e = alike-seen (base 0 xs e) (channel e) (alike e)

  seen-near : (m : ℕ) (x : ServiceName) (e : End) → Wired 0 xs m x → e ≡ near m → seen channel e ≡ view_in (Some (On x.side (own x.side)))
  seen-near m x e h i = seen-base e ∙ ap view_in (ap (base 0 xs) i ∙ base-near 0 xs m x h)

  seen-far : (m : ℕ) (x : ServiceName) (e : End) → Wired 0 xs m x → e ≡ far m → seen channel e ≡ turned (view_in (Some (On x.side (own x.side))))
  seen-far m x e h i = seen-base e ∙ (ap view_in (ap (base 0 xs) i ∙ base-far 0 xs m x h) ∙ far-seen x.side)

  agree : (e f : End) → Wire e f → Agree w c channel e f
  agree e f (m, x, h, inl (i, j)) = record { left = seen channel e; mine = refl; yours = seen-far m x f h j ∙ ap turned (sym (seen-near m x e h i)) }
  agree e f (m, x, h, inr (i, j)) = record {
    left = seen channel e;
    mine = refl;
    yours = seen-near m x f h j ∙ (sym (turned-twice (view_in (Some (On x.side (own x.side))))) ∙ ap turned (sym (seen-far m x e h i)));
  }

  no-messages : (before after : List Message) (a b : End) → [] ≡ before ++ (EndPair a b ∷ after) → ⊥
  no-messages [] after a b i = cc i
  no-messages (m ∷ before) after a b i = cc i

  pairs : AreLastPairs w c stands channel
  pairs = record {
    different = λ z a b before after i. absurd (no-messages before after a b i);
    last = λ z a b before after i. absurd (no-messages before after a b i);
    given_up = λ z a b before after i. absurd (no-messages before after a b i);
    typed = λ z a b y before after i j. absurd (no-messages before after a b i);
  }

  has-type : (p : Path) (e : End) → IsHeldBy c p e → (x : Channel) × (channel e ≡ Some x)
  has-type p e (r, x, i, f) =
      let a : found x ends ≡ Some e = subst (λ (z : Running). found x z.ends ≡ Some e) (runs-is p r i).1 f in
      let (m, y, h, j) = holding-is 0 xs e (found-among x ends e a) in
      let (u, g, k) = alike-on (base 0 xs e) (channel e) y.side (own y.side) (alike e) (ap (base 0 xs) j ∙ base-near 0 xs m y h) in
      (On y.side u, g)

  channels-same : row_channels q ≡ held_ends channel ends
  channels-same =
      let (distinct, long, longer, longest, closed, well) = q-typed in
      channels-listed q longer ∙ (ap (λ z. listed z (heading q) nothing_held) (sym end-names) ∙ sym (held-is (base 0 xs) ends (heading q) (holding-differ 0 xs) fit))

  typed-first : IsTypedAt w channel first
  typed-first =
      let (distinct, long, longer, longest, closed, well) = q-typed in
      record {
        vars = row_variables q.row.variables q.parameters;
        bound = subst (λ z. AreBound w [] [] z) (sym (no-variables q.row.variables q.parameters services.0)) tt;
        term = (subst (λ z. IsWellFormed w (row_variables q.row.variables q.parameters) z q.row.body) channels-same well, found-trees source accepted.trees (codes "run") q q-is);
      }

  in-phase : (m : ℕ) (x : ServiceName) (lines : Lines) → Wired 0 xs m x → IsInPhase channel (attend m x lines)
  in-phase m x lines h =
      let (u, f, j) = alike-on (base 0 xs (far m)) (channel (far m)) (service_side (kind_at x.side)) (own x.side) (alike (far m)) (base-far 0 xs m x h ∙ ap (λ z. Some (On z (own x.side))) (far-side x.side)) in
      record { channel_type = u; held = f; same = sym j }

  pub lawful-start : Lawful source c
  lawful-start = record {
    accepted = accepted;
    channel = channel;
    place = stands;
    nodes = Process [] ∷ service_names 0 xs;
    listed = listed-node;
    ends = wired_ends 0 xs;
    joined = λ e i. joined-listed 0 xs e i.0 i.1;
    has_type = has-type;
    apart = record { placed = placed; forest = forest; named = named };
    given_up = λ e i j. absurd (nowhere-else e Gone i j (λ who k. cc k));
    typed = λ p r i. subst (IsTypedAt w channel) (sym (runs-is p r i).1) typed-first;
    agree = λ e f i. agree e f (partner-is 0 xs e f i);
    pairs = pairs;
    phases = λ n s i. let (x, lines, h, j) = service-is n s i in subst (IsInPhase channel) (sym j) (in-phase n x lines h);
  }

services-are : (w : World) (q : ProcessDecl) → process_named w (codes "run") ≡ Some q → services_of w ≡ map (service Input) q.row.inputs ++ map (service Output) q.row.outputs
services-are w q i = rw i refl

abbrev start_of : Option ProcessDecl → List ServiceName → List Lines → Configuration
start_of o ys scripts = record {
  nodes = update same_who (running o (holding 0 ys) ++ attending 0 ys scripts) (λ who. None);
  partner = update same_end (both_ways (wires 0 ys)) (λ e. None);
  owed = λ e. [];
}

-- so the start of an accepted source is lawful
pub begins : (source : Program) (scripts : List Lines) → IsAccepted source → Lawful source (start (world_of source) scripts)
begins source scripts accepted =
    let faults : run_faults (world_of source) ≡ [] = no-second (twice_faults source ++ each (in_decl (world_of source)) source) (run_faults (world_of source)) accepted.typed.declared in
    let (q, q-is, alone) = run-is (world_of source) faults in
    subst (Lawful source) (sym (ap₂ (λ o ys. start_of o ys scripts) q-is (services-are (world_of source) q q-is))) (lawful-start source accepted q q-is alone scripts)
