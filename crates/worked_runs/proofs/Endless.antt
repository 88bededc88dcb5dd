-- A configuration that has all parts of `Lawful` but the list of its ends, in which a process waits for ever, for an end that travels in a pair, whose receiver travels in a pair, and so on.
use Rattle.std.proofs.Common.{◌≡◌, ◌≢◌, ℕ, zero, suc, ◌≤◌, arith, Bool, true, false, ◌||◌, IsTrue, List, [], ◌∷◌, ◌++◌, ◌⊎◌, inl, inr, refl, sym, ap, subst, ◌∙◌, true≢false, Option, Some, None, if◌then◌else◌}
use Rattle.std.specs.Prelude.{codes}
use Rattle.campl_tree.specs.declared.place.Ident.{Ident}
use Rattle.campl_tree.specs.declared.service.Side.{Side}
use Rattle.campl_tree.specs.declared.service.Side.TheVariants.{Input, Output}
use Rattle.campl_tree.specs.declared.process.Binder.TheVariants as binder
use Rattle.campl_tree.specs.Plain.SeqType as s
use Rattle.campl_tree.specs.Plain.ChanType.{ChanType, Get, Tensor, TopBot}
use Rattle.campl_tree.specs.Plain.Process as b
use Rattle.campl_tree.specs.Plain.Process.{Body}
use Rattle.campl_tree.specs.Plain.Decl.{Program}
use Rattle.campl_machine.specs.Names.{Path, Half, First, Second, End, Who, Process, Service}
use Rattle.campl_machine.specs.Graph.{Graph, Leads, NoCycle, Mutual}
use Rattle.campl_machine.specs.Progress.{Within}
use Rattle.campl_machine.proofs.Bridges.{Bridge, EachBridge, no_cycle}
use Rattle.campl_types.specs.Names.{Name, same_name, found, is_among, are_distinct}
use Rattle.campl_types.proofs.Names.{same-turned, same-is}
use Rattle.campl_types.specs.SameType.{nowhere, bare_chan}
use Rattle.campl_types.specs.World.{World, world_of}
use Rattle.campl_types.specs.Polarity.{Splits}
use Rattle.campl_types.specs.Views.{Nothing}
use Rattle.campl_types.specs.Held.{Channel, On, with}
use Rattle.campl_peel.specs.Terms.{Doing, held_ends}
use Rattle.campl_meaning.specs.States.{Message, EndPair, Running, Attending, State, Runs, Serves}
use Rattle.campl_meaning.specs.Reductions.{Configuration, act_of}
use Rattle.campl_meaning.specs.Ends.{IsEnabled, HasProcess, IsBrokenAt, IsAsked, NeverActs}
use Rattle.campl_meaning.specs.Apart.{Place, At, In, Gone, IsCarried, IsJoined, IsHeldBy, IsOfKind, IsPlaced, IsNamed, IsApart, IsAtMost, end_names, number_after, number_in_end, Node, Holder, Pair, node_of, graph}
use Rattle.campl_meaning.specs.Lawful.{IsAccepted, Channels, IsTypedAt, Agree, IsPairOf, AreLastPairs, IsInPhase}

-- `Lawful` without the list of ends
pub record LawfulBefore (source : Program) (c : Configuration) : Type 0 where
  pub accepted : IsAccepted source
  pub channel : Channels
  pub place : End → Place
  pub nodes : List Who
  pub listed : (who : Who) (s : State) → c.nodes who ≡ Some s → Within nodes who
  pub has_type : (p : Path) (e : End) → IsHeldBy c p e → (x : Channel) × (channel e ≡ Some x)
  pub apart : IsApart c place
  pub given_up : (e : End) → IsJoined c e → place e ≡ Gone → (channel e ≡ None) ⊎ ((s : Side) × (channel e ≡ Some (On s TopBot)))
  pub typed : (p : Path) (r : Running) → c.nodes (Process p) ≡ Some (Runs r) → IsTypedAt (world_of source) channel r
  pub agree : (e f : End) → c.partner e ≡ Some f → Agree (world_of source) c channel e f
  pub pairs : AreLastPairs (world_of source) c place channel
  pub phases : (n : ℕ) (s : Attending) → c.nodes (Service n) ≡ Some (Serves s) → IsInPhase channel s

-- Ends

abbrev link : ℕ → Half → End
link n h = record { bearer = []; step = 0; channel = n; half = h }

abbrev side : ℕ → Half → End
side n h = record { bearer = []; step = 1; channel = n; half = h }

abbrev other : Half → Half
other First = Second
other Second = First

abbrev chan : ℕ → ChanType
chan zero = Get s.Int TopBot
chan (suc n) = Tensor (chan n) TopBot

-- the halves of a channel
abbrev partner_at : Path → ℕ → Half → ℕ → Option End
partner_at [] zero h n = Some (link n (other h))
partner_at [] (suc zero) h n = Some (side n (other h))
partner_at [] (suc (suc k)) h n = None
partner_at (x ∷ p) k h n = None

-- the end link 0 First is held; each other link n First has sent the pair of link (n - 1) Second and side (n - 1) Second
abbrev place_at : Path → ℕ → Half → ℕ → Place
place_at [] zero First zero = At (Process [])
place_at [] zero First (suc n) = Gone
place_at [] zero Second n = In (link (suc n) First)
place_at [] (suc zero) First n = Gone
place_at [] (suc zero) Second n = In (link (suc n) First)
place_at [] (suc (suc k)) h n = Gone
place_at (x ∷ p) k h n = Gone

abbrev owed_at : Path → ℕ → Half → ℕ → List Message
owed_at [] zero First zero = []
owed_at [] zero First (suc n) = EndPair (link n Second) (side n Second) ∷ []
owed_at [] zero Second n = []
owed_at [] (suc k) h n = []
owed_at (x ∷ p) k h n = []

abbrev channel_of : Path → ℕ → Half → ℕ → Option Channel
channel_of [] zero First zero = Some (On Output (chan 0))
channel_of [] zero First (suc n) = None
channel_of [] zero Second n = Some (On Input (chan n))
channel_of [] (suc zero) First n = Some (On Output TopBot)
channel_of [] (suc zero) Second n = Some (On Input TopBot)
channel_of [] (suc (suc k)) h n = None
channel_of (x ∷ p) k h n = None

abbrev place : End → Place
place e = place_at e.bearer e.step e.half e.channel

abbrev channel : Channels
channel e = channel_of e.bearer e.step e.half e.channel

-- The process

abbrev x : Ident
x = record { place = nowhere; name = codes "x" }

abbrev body : Body
body = b.Then (b.Get nowhere (binder.Wildcard nowhere) x) (b.Halt nowhere (Some x))

abbrev runner : Running
runner = record { term = Doing body; variables = []; ends = (codes "x", link 0 First) ∷ []; steps = 1; spent = 0 }

abbrev nodes_at : Who → Option State
nodes_at (Process []) = Some (Runs runner)
nodes_at (Process (y ∷ p)) = None
nodes_at (Service n) = None

abbrev c : Configuration
c = record {
  nodes = nodes_at;
  partner = λ e. partner_at e.bearer e.step e.half e.channel;
  owed = λ e. owed_at e.bearer e.step e.half e.channel;
}

-- Partners

back-at : (p : Path) (k : ℕ) (h : Half) (n : ℕ) (f : End) → partner_at p k h n ≡ Some f → c.partner f ≡ Some (record { bearer = p; step = k; channel = n; half = h })
back-at [] zero First n f i = let e : link n Second ≡ f = cc i in subst (λ z. c.partner z ≡ Some (link n First)) e refl
back-at [] zero Second n f i = let e : link n First ≡ f = cc i in subst (λ z. c.partner z ≡ Some (link n Second)) e refl
back-at [] (suc zero) First n f i = let e : side n Second ≡ f = cc i in subst (λ z. c.partner z ≡ Some (side n First)) e refl
back-at [] (suc zero) Second n f i = let e : side n First ≡ f = cc i in subst (λ z. c.partner z ≡ Some (side n Second)) e refl
back-at [] (suc (suc k)) h n f i = absurd (cc i)
back-at (y ∷ p) k h n f i = absurd (cc i)

half-of : (e f : End) → e ≡ f → e.half ≡ f.half
half-of e f i = ap (λ (z : End). z.half) i

first-second : First ≢ Second
first-second i = cc i

other-at : (p : Path) (k : ℕ) (h : Half) (n : ℕ) → partner_at p k h n ≢ Some (record { bearer = p; step = k; channel = n; half = h })
other-at [] zero First n i = let e : link n Second ≡ link n First = cc i in first-second (sym (half-of _ _ e))
other-at [] zero Second n i = let e : link n First ≡ link n Second = cc i in first-second (half-of _ _ e)
other-at [] (suc zero) First n i = let e : side n Second ≡ side n First = cc i in first-second (sym (half-of _ _ e))
other-at [] (suc zero) Second n i = let e : side n First ≡ side n Second = cc i in first-second (half-of _ _ e)
other-at [] (suc (suc k)) h n i = cc i
other-at (y ∷ p) k h n i = cc i

idle-at : (p : Path) (k : ℕ) (h : Half) (n : ℕ) → partner_at p k h n ≡ None → owed_at p k h n ≡ []
idle-at [] zero h n i = absurd (cc i)
idle-at [] (suc k) h n i = refl
idle-at (y ∷ p) k h n i = refl

nowhere-at : (p : Path) (k : ℕ) (h : Half) (n : ℕ) → partner_at p k h n ≡ None → place_at p k h n ≡ Gone
nowhere-at [] zero h n i = absurd (cc i)
nowhere-at [] (suc zero) h n i = absurd (cc i)
nowhere-at [] (suc (suc k)) h n i = refl
nowhere-at (y ∷ p) k h n i = refl

mutuals : Mutual c.partner
mutuals = record { back = λ e f i. back-at e.bearer e.step e.half e.channel f i; other = λ e i. other-at e.bearer e.step e.half e.channel i }

-- Places

runs-here : (p : Path) (r : Running) → c.nodes (Process p) ≡ Some (Runs r) → (p ≡ []) × (r ≡ runner)
runs-here [] r i = let e : Runs runner ≡ Runs r = cc i in let h : runner ≡ r = cc e in (refl, sym h)
runs-here (y ∷ p) r i = absurd (cc i)

found-here : (y : Name) (e : End) → found y runner.ends ≡ Some e → (same_name y (codes "x") ≡ true) × (e ≡ link 0 First)
found-here y e i = go (same_name y (codes "x")) refl i
  where
    go : (t : Bool) → same_name y (codes "x") ≡ t → (if t then Some (link 0 First) else None) ≡ Some e → (same_name y (codes "x") ≡ true) × (e ≡ link 0 First)
    go true j k = let h : link 0 First ≡ e = cc k in (j, sym h)
    go false j k = absurd (cc k)

held : (p : Path) (e : End) → IsHeldBy c p e → (place e ≡ At (Process p)) × IsJoined c e
held p e (r, y, is, f) =
    let (pe, re) = runs-here p r is in
    let (same, ee) = found-here y e (subst (λ z. found y z.ends ≡ Some e) re f) in
    (subst (λ q. place e ≡ At (Process q)) (sym pe) (ap place ee), subst (IsJoined c) (sym ee) (link 0 Second, refl))

carried-at : (p : Path) (k : ℕ) (h : Half) (n : ℕ) (e : End) → IsCarried (owed_at p k h n) e → (place e ≡ In (record { bearer = p; step = k; channel = n; half = h })) × IsJoined c e
carried-at [] zero First zero e i = absurd i
carried-at [] zero First (suc n) e (inl i) = (ap place i, subst (IsJoined c) (sym i) (link n First, refl))
carried-at [] zero First (suc n) e (inr (inl i)) = (ap place i, subst (IsJoined c) (sym i) (side n First, refl))
carried-at [] zero First (suc n) e (inr (inr i)) = absurd i
carried-at [] zero Second n e i = absurd i
carried-at [] (suc k) h n e i = absurd i
carried-at (y ∷ p) k h n e i = absurd i

holder-at : (p : Path) (k : ℕ) (h : Half) (n : ℕ) (q : Path) → place_at p k h n ≡ At (Process q) → IsHeldBy c q (record { bearer = p; step = k; channel = n; half = h })
holder-at [] zero First zero q i =
    let e : Process [] ≡ Process q = cc i in
    let d : [] ≡ q = cc e in
    subst (λ z. IsHeldBy c z (link 0 First)) d (runner, codes "x", refl, refl)
holder-at [] zero First (suc n) q i = absurd (cc i)
holder-at [] zero Second n q i = absurd (cc i)
holder-at [] (suc zero) First n q i = absurd (cc i)
holder-at [] (suc zero) Second n q i = absurd (cc i)
holder-at [] (suc (suc k)) h n q i = absurd (cc i)
holder-at (y ∷ p) k h n q i = absurd (cc i)

server-at : (p : Path) (k : ℕ) (h : Half) (n : ℕ) (m : ℕ) → place_at p k h n ≡ At (Service m) → ⊥
server-at [] zero First zero m i = let e : Process [] ≡ Service m = cc i in cc e
server-at [] zero First (suc n) m i = cc i
server-at [] zero Second n m i = cc i
server-at [] (suc zero) First n m i = cc i
server-at [] (suc zero) Second n m i = cc i
server-at [] (suc (suc k)) h n m i = cc i
server-at (y ∷ p) k h n m i = cc i

carrier-at : (p : Path) (k : ℕ) (h : Half) (n : ℕ) (z : End) → place_at p k h n ≡ In z → IsCarried (c.owed z) (record { bearer = p; step = k; channel = n; half = h })
carrier-at [] zero First zero z i = absurd (cc i)
carrier-at [] zero First (suc n) z i = absurd (cc i)
carrier-at [] zero Second n z i = let e : link (suc n) First ≡ z = cc i in subst (λ y. IsCarried (c.owed y) (link n Second)) e (inl refl)
carrier-at [] (suc zero) First n z i = absurd (cc i)
carrier-at [] (suc zero) Second n z i = let e : link (suc n) First ≡ z = cc i in subst (λ y. IsCarried (c.owed y) (side n Second)) e (inr (inl refl))
carrier-at [] (suc (suc k)) h n z i = absurd (cc i)
carrier-at (y ∷ p) k h n z i = absurd (cc i)

kinds : (who : Who) (s : State) → c.nodes who ≡ Some s → IsOfKind who s
kinds (Process []) s i = let e : Runs runner ≡ s = cc i in subst (IsOfKind (Process [])) e tt
kinds (Process (y ∷ p)) s i = absurd (cc i)
kinds (Service n) s i = absurd (cc i)

placed : IsPlaced c place
placed = record {
  kinds = kinds;
  paired = mutuals;
  idle = λ e i. idle-at e.bearer e.step e.half e.channel i;
  nowhere = λ e i. nowhere-at e.bearer e.step e.half e.channel i;
  held = held;
  served = λ n e h. absurd (let z : None ≡ Some (Serves h.0) = h.1 in cc z);
  carried = λ z e i. carried-at z.bearer z.step z.half z.channel e i;
  shut = λ n s i h. absurd (let z : None ≡ Some (Serves s) = i in cc z);
  holder = λ p e j i. holder-at e.bearer e.step e.half e.channel p i;
  server = λ n e j i. absurd (server-at e.bearer e.step e.half e.channel n i);
  carrier = λ z e j i. carrier-at e.bearer e.step e.half e.channel z i;
  names = λ p r i. subst (λ (z : Running). IsTrue (are_distinct (end_names z.ends))) (sym (runs-here p r i).1) refl;
  ends = λ p r y z e i f g.
      let re = (runs-here p r i).1 in
      let a = found-here y e (subst (λ q. found y q.ends ≡ Some e) re f) in
      let d = found-here z e (subst (λ q. found z q.ends ≡ Some e) re g) in
      same-is y (codes "x") a.0 ∙ sym (same-is z (codes "x") d.0);
}

-- The graph is an endless line

abbrev g : Graph End Node
g = graph c place

abbrev rank : Node → ℕ
rank (Holder w) = 0
rank (Pair e) = e.channel

-- the node at a half of link n has this rank
abbrev level : Half → ℕ → ℕ
level First n = n
level Second n = suc n

-- what stands somewhere in the graph is a half of a link, or the second of a side
abbrev Stands : End → Node → Type 0
Stands e u = ((n : ℕ) × (h : Half) × (e ≡ link n h) × (rank u ≡ level h n)) ⊎ ((n : ℕ) × (e ≡ side n Second))

ranked : (u v : Node) (m : ℕ) → ◌≡◌ {A = Option Node} (Some u) (Some v) → rank u ≡ m → rank v ≡ m
ranked u v m i r = let e : u ≡ v = cc i in subst (λ z. rank z ≡ m) e r

stands-at : (p : Path) (k : ℕ) (h : Half) (n : ℕ) (u : Node) → node_of (place_at p k h n) (record { bearer = p; step = k; channel = n; half = h }) (owed_at p k h n) ≡ Some u → Stands (record { bearer = p; step = k; channel = n; half = h }) u
stands-at [] zero First zero u i = inl (0, First, refl, ranked (Holder (Process [])) u 0 i refl)
stands-at [] zero First (suc n) u i = inl (suc n, First, refl, ranked (Pair (link (suc n) First)) u (suc n) i refl)
stands-at [] zero Second n u i = inl (n, Second, refl, ranked (Pair (link (suc n) First)) u (suc n) i refl)
stands-at [] (suc zero) First n u i = absurd (cc i)
stands-at [] (suc zero) Second n u i = inr (n, refl)
stands-at [] (suc (suc k)) h n u i = absurd (cc i)
stands-at (y ∷ p) k h n u i = absurd (cc i)

stands : (e : End) (u : Node) → g.at e ≡ Some u → Stands e u
stands e u i = stands-at e.bearer e.step e.half e.channel u i

-- each edge is a link
pub record IsLink (e f : End) (u v : Node) : Type 0 where
  pub n : ℕ
  pub h : Half
  pub near : e ≡ link n h
  pub far : f ≡ link n (other h)
  pub one : rank u ≡ level h n
  pub two : rank v ≡ level (other h) n

same-link : (n m : ℕ) (h k : Half) → link n h ≡ link m k → (n ≡ m) × (h ≡ k)
same-link n m h k i = (ap (λ (z : End). z.channel) i, ap (λ (z : End). z.half) i)

not-side : (n m : ℕ) (h k : Half) → link n h ≡ side m k → ⊥
not-side n m h k i = let e : 0 ≡ 1 = ap (λ (z : End). z.step) i in cc e

is-link : (e f : End) (u v : Node) → Leads g e f u v → IsLink e f u v
is-link e f u v l = go (stands e u l.from) (stands f v l.to)
  where
    go : Stands e u → Stands f v → IsLink e f u v
    go (inl (n, h, en, ru)) (inl (m, k, fm, rv)) =
        let p : ◌≡◌ {A = Option End} (Some (link n (other h))) (Some f) = subst (λ z. c.partner z ≡ Some f) en l.there in
        let q : link n (other h) ≡ f = cc p in
        let (nm, hk) = same-link n m (other h) k (q ∙ fm) in
        record { n = n; h = h; near = en; far = sym q; one = ru; two = subst (λ z. rank v ≡ level z n) (sym hk) (subst (λ z. rank v ≡ level k z) (sym nm) rv) }
    go (inl (n, h, en, ru)) (inr (m, fm)) =
        let p : ◌≡◌ {A = Option End} (Some (link n (other h))) (Some f) = subst (λ z. c.partner z ≡ Some f) en l.there in
        let q : link n (other h) ≡ f = cc p in
        absurd (not-side n m (other h) Second (q ∙ fm))
    go (inr (n, en)) s =
        let p : ◌≡◌ {A = Option End} (Some (side n First)) (Some f) = subst (λ z. c.partner z ≡ Some f) en l.there in
        let q : side n First ≡ f = cc p in
        let z : ◌≡◌ {A = Option Node} None (Some v) = subst (λ y. g.at y ≡ Some v) (sym q) l.to in
        absurd (cc z)

-- above the edge of link n, and below
above : (n : ℕ) (e f : End) (u v : Node) → e ≡ link n First → f ≡ link n Second → rank u ≡ n → rank v ≡ suc n → Bridge g e f u v (λ z. suc n ≤ rank z)
above n e f u v en fn ru rv = record {
  near = λ h. omega (arith, h, ru);
  far = omega (arith, rv);
  kept = λ y z a d l ne nf h. go y z a d (is-link y z a d l) ne nf h;
}
  where
    go : (y z : End) (a d : Node) → IsLink y z a d → y ≢ e → y ≢ f → suc n ≤ rank a → suc n ≤ rank d
    go y z a d k ne nf h = by k.n k.h k.near k.one k.two
      where
        by : (m : ℕ) (t : Half) → y ≡ link m t → rank a ≡ level t m → rank d ≡ level (other t) m → suc n ≤ rank d
        by m First ym ra rd = omega (arith, h, ra, rd)
        by m Second ym ra rd =
            let apart : m ≢ n = λ i. nf (ym ∙ (ap (λ j. link j Second) i ∙ sym fn)) in
            omega (arith, h, ra, rd, apart)

below : (n : ℕ) (e f : End) (u v : Node) → e ≡ link n Second → f ≡ link n First → rank u ≡ suc n → rank v ≡ n → Bridge g e f u v (λ z. rank z ≤ n)
below n e f u v en fn ru rv = record {
  near = λ h. omega (arith, h, ru);
  far = omega (arith, rv);
  kept = λ y z a d l ne nf h. go y z a d (is-link y z a d l) ne nf h;
}
  where
    go : (y z : End) (a d : Node) → IsLink y z a d → y ≢ e → y ≢ f → rank a ≤ n → rank d ≤ n
    go y z a d k ne nf h = by k.n k.h k.near k.one k.two
      where
        by : (m : ℕ) (t : Half) → y ≡ link m t → rank a ≡ level t m → rank d ≡ level (other t) m → rank d ≤ n
        by m Second ym ra rd = omega (arith, h, ra, rd)
        by m First ym ra rd =
            let apart : m ≢ n = λ i. nf (ym ∙ (ap (λ j. link j First) i ∙ sym fn)) in
            omega (arith, h, ra, rd, apart)

bridges : EachBridge g
bridges e f u v l = go (is-link e f u v l)
  where
    go : IsLink e f u v → (S : Node → Type 0) × Bridge g e f u v S
    go k = by k.n k.h k.near k.far k.one k.two
      where
        by : (n : ℕ) (h : Half) → e ≡ link n h → f ≡ link n (other h) → rank u ≡ level h n → rank v ≡ level (other h) n → (S : Node → Type 0) × Bridge g e f u v S
        by n First en fn ru rv = ((λ z. suc n ≤ rank z), above n e f u v en fn ru rv)
        by n Second en fn ru rv = ((λ z. rank z ≤ n), below n e f u v en fn ru rv)

forest : NoCycle g
forest = no_cycle g bridges

-- Names

named-at : (p : Path) (k : ℕ) (h : Half) (n : ℕ) (f : End) → partner_at p k h n ≡ Some f → IsAtMost (number_in_end [] (record { bearer = p; step = k; channel = n; half = h })) 1
named-at [] zero h n f i = omega arith
named-at [] (suc zero) h n f i = omega arith
named-at [] (suc (suc k)) h n f i = absurd (cc i)
named-at (y ∷ p) k h n f i = absurd (cc i)

named : IsNamed c
named = record {
  paths = λ p q r s i j. paths p q r s (runs-here p r i) j;
  channels = λ p r e i j. channels p r e (runs-here p r i) j;
}
  where
    paths : (p q : Path) (r : Running) (s : State) → (p ≡ []) × (r ≡ runner) → c.nodes (Process q) ≡ Some s → IsAtMost (number_after p q) r.steps
    paths p [] r s (e, f) j = subst (λ z. IsAtMost (number_after z []) r.steps) (sym e) tt
    paths p (y ∷ q) r s (e, f) j = absurd (cc j)

    channels : (p : Path) (r : Running) (e : End) → (p ≡ []) × (r ≡ runner) → IsJoined c e → IsAtMost (number_in_end p e) r.steps
    channels p r e (pe, re) (f, j) =
        subst (λ z. IsAtMost (number_in_end z e) r.steps) (sym pe) (subst (λ z. IsAtMost (number_in_end [] e) z.steps) (sym re) (named-at e.bearer e.step e.half e.channel f j))

-- Types

given-up-at : (p : Path) (k : ℕ) (h : Half) (n : ℕ) → place_at p k h n ≡ Gone → (channel_of p k h n ≡ None) ⊎ ((s : Side) × (channel_of p k h n ≡ Some (On s TopBot)))
given-up-at [] zero First zero i = absurd (cc i)
given-up-at [] zero First (suc n) i = inl refl
given-up-at [] zero Second n i = absurd (cc i)
given-up-at [] (suc zero) First n i = inr (Output, refl)
given-up-at [] (suc zero) Second n i = absurd (cc i)
given-up-at [] (suc (suc k)) h n i = inl refl
given-up-at (y ∷ p) k h n i = inl refl

chan-bare : (n : ℕ) → bare_chan (chan n) ≡ chan n
chan-bare zero = refl
chan-bare (suc n) = ap (λ z. Tensor z TopBot) (chan-bare n)

module _ (source : Program) where
  abbrev w : World
  w = world_of source

  holds-only : (y : Name) → is_among y (codes "x" ∷ []) ≡ false → with (codes "x") (Some (On Output TopBot)) (held_ends channel runner.ends) y ≡ None
  holds-only y i = go (same_name y (codes "x")) refl i
    where
      go : (t : Bool) → same_name y (codes "x") ≡ t → (t || false) ≡ false → with (codes "x") (Some (On Output TopBot)) (held_ends channel runner.ends) y ≡ None
      go true j k = absurd (true≢false k)
      go false j k = rw (same-turned (codes "x") y ∙ j, j) refl

  typed : (p : Path) (r : Running) → c.nodes (Process p) ≡ Some (Runs r) → IsTypedAt w channel r
  typed p r i = subst (IsTypedAt w channel) (sym (runs-here p r i).1)
      (record {
        vars = [];
        bound = tt;
        term = ((Output, chan 0, s.Int, TopBot, refl, refl, (Output, TopBot, refl, refl, holds-only)), tt);
      })

  agree-at : (p : Path) (k : ℕ) (h : Half) (n : ℕ) (f : End) → partner_at p k h n ≡ Some f → Agree w c channel (record { bearer = p; step = k; channel = n; half = h }) f
  agree-at [] zero First zero f i = let e : link 0 Second ≡ f = cc i in subst (Agree w c channel (link 0 First)) e (record { left = _; mine = refl; yours = refl })
  agree-at [] zero First (suc n) f i = let e : link (suc n) Second ≡ f = cc i in subst (Agree w c channel (link (suc n) First)) e (record { left = Nothing; mine = refl; yours = (Nothing, refl, refl) })
  agree-at [] zero Second zero f i = let e : link 0 First ≡ f = cc i in subst (Agree w c channel (link 0 Second)) e (record { left = _; mine = refl; yours = refl })
  agree-at [] zero Second (suc n) f i = let e : link (suc n) First ≡ f = cc i in subst (Agree w c channel (link (suc n) Second)) e (record { left = Nothing; mine = (Nothing, refl, refl); yours = refl })
  agree-at [] (suc zero) First n f i = let e : side n Second ≡ f = cc i in subst (Agree w c channel (side n First)) e (record { left = _; mine = refl; yours = refl })
  agree-at [] (suc zero) Second n f i = let e : side n First ≡ f = cc i in subst (Agree w c channel (side n Second)) e (record { left = _; mine = refl; yours = refl })
  agree-at [] (suc (suc k)) h n f i = absurd (cc i)
  agree-at (y ∷ p) k h n f i = absurd (cc i)

  -- a pair that is owed
  pub record IsThePair (z a d : End) (before after : List Message) : Type 0 where
    pub n : ℕ
    pub at : z ≡ link (suc n) First
    pub first : a ≡ link n Second
    pub second : d ≡ side n Second
    pub nothing_before : before ≡ []
    pub nothing_after : after ≡ []

  one-pair : (n : ℕ) (a d : End) (before after : List Message) → EndPair (link n Second) (side n Second) ∷ [] ≡ before ++ (EndPair a d ∷ after) → (a ≡ link n Second) × (d ≡ side n Second) × (before ≡ []) × (after ≡ [])
  one-pair n a d [] after i =
      let p : EndPair (link n Second) (side n Second) ≡ EndPair a d = cc i in
      let q : [] ≡ after = cc i in
      let e : link n Second ≡ a = cc p in
      let f : side n Second ≡ d = cc p in
      (sym e, sym f, refl, sym q)
  one-pair n a d (m ∷ before) after i = let q : [] ≡ before ++ (EndPair a d ∷ after) = cc i in absurd (never before q)
    where
      never : (before : List Message) → [] ≡ before ++ (EndPair a d ∷ after) → ⊥
      never [] j = cc j
      never (m ∷ before) j = cc j

  nothing-owed : (a d : End) (before after : List Message) → [] ≡ before ++ (EndPair a d ∷ after) → ⊥
  nothing-owed a d [] after i = cc i
  nothing-owed a d (m ∷ before) after i = cc i

  the-pair-at : (p : Path) (k : ℕ) (h : Half) (n : ℕ) (a d : End) (before after : List Message) → owed_at p k h n ≡ before ++ (EndPair a d ∷ after) → IsThePair (record { bearer = p; step = k; channel = n; half = h }) a d before after
  the-pair-at [] zero First zero a d before after i = absurd (nothing-owed a d before after i)
  the-pair-at [] zero First (suc n) a d before after i = let (e, f, j, q) = one-pair n a d before after i in record { n = n; at = refl; first = e; second = f; nothing_before = j; nothing_after = q }
  the-pair-at [] zero Second n a d before after i = absurd (nothing-owed a d before after i)
  the-pair-at [] (suc k) h n a d before after i = absurd (nothing-owed a d before after i)
  the-pair-at (y ∷ p) k h n a d before after i = absurd (nothing-owed a d before after i)

  the-pair : (z a d : End) (before after : List Message) → c.owed z ≡ before ++ (EndPair a d ∷ after) → IsThePair z a d before after
  the-pair z a d before after i = the-pair-at z.bearer z.step z.half z.channel a d before after i

  pair-typed : (n : ℕ) → IsPairOf w channel [] (link (suc n) Second) (link n Second) (side n Second)
  pair-typed n = record {
    view = _;
    first = chan n;
    second = TopBot;
    reached = refl;
    splits = ap (λ z. Splits z TopBot) (chan-bare n);
    is_first = (chan n, refl, refl);
    is_second = (TopBot, refl, refl);
  }

  pairs : AreLastPairs w c place channel
  pairs = record {
    different = λ z a d before after i j.
        let k = the-pair z a d before after i in
        not-side k.n k.n Second Second (sym k.first ∙ (j ∙ k.second));
    last = λ z a d before after i. (the-pair z a d before after i).nothing_after;
    given_up = λ z a d before after i.
        let k = the-pair z a d before after i in
        (ap place k.at, ap channel k.at);
    typed = λ z a d y before after i pz.
        let k = the-pair z a d before after i in
        let p : ◌≡◌ {A = Option End} (Some (link (suc k.n) Second)) (Some y) = subst (λ q. c.partner q ≡ Some y) k.at pz in
        let q : link (suc k.n) Second ≡ y = cc p in
        subst (λ t. IsPairOf w channel before t a d) q
        (subst (λ t. IsPairOf w channel t (link (suc k.n) Second) a d) (sym k.nothing_before)
        (subst (λ t. IsPairOf w channel [] (link (suc k.n) Second) t d) (sym k.first)
        (subst (λ t. IsPairOf w channel [] (link (suc k.n) Second) (link k.n Second) t) (sym k.second) (pair-typed k.n))));
  }

  pub lawful : IsAccepted source → LawfulBefore source c
  lawful accepted = record {
    accepted = accepted;
    channel = channel;
    place = place;
    nodes = Process [] ∷ [];
    listed = listed;
    has_type = λ p e (r, y, is, f).
        let (pe, re) = runs-here p r is in
        let (same, ee) = found-here y e (subst (λ z. found y z.ends ≡ Some e) re f) in
        (On Output (chan 0), ap channel ee);
    apart = record { placed = placed; forest = forest; named = named };
    given_up = λ e j i. given-up-at e.bearer e.step e.half e.channel i;
    typed = typed;
    agree = λ e f i. agree-at e.bearer e.step e.half e.channel f i;
    pairs = pairs;
    phases = λ n a i. absurd (cc i);
  }
    where
      listed : (who : Who) (s : State) → c.nodes who ≡ Some s → Within (Process [] ∷ []) who
      listed (Process []) s i = inl refl
      listed (Process (y ∷ p)) s i = absurd (cc i)
      listed (Service n) s i = absurd (cc i)

  -- nothing is enabled, a process is left that isn't broken, and no service is there
  pub waits-for-ever : IsEnabled w c → ⊥
  waits-for-ever (Process [], (i, next, h)) = cc h
  waits-for-ever (Process (y ∷ p), (i, next, h)) = cc h
  waits-for-ever (Service n, (i, next, h)) = cc h

  pub is-left : HasProcess c
  is-left = ([], Runs runner, refl)

  pub is-not-broken : (p : Path) → IsBrokenAt w c p → ⊥
  is-not-broken [] (s, i, h) = let e : Runs runner ≡ s = cc i in subst (λ z. NeverActs c (Process []) (act_of w (Process []) z 0)) (sym e) h
  is-not-broken (y ∷ p) (s, i, h) = cc i

  pub none-is-asked : (n : ℕ) → IsAsked c n → ⊥
  none-is-asked n (s, i, h) = cc i
