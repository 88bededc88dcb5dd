-- The channels of the start, its services, and what `run` holds.
use Rattle.std.proofs.Common.{◌≡◌, ◌≢◌, ◌∙◌, ◌⊎◌, inl, inr, refl, sym, ap, ap₂, subst, ℕ, suc, ◌≤◌, arith, true, false, List, [], ◌∷◌, ◌++◌, Option, Some, None, map, if◌then◌else◌, eqb, eqb-true, eq-eqb}
use Rattle.campl_tree.specs.declared.service.Side.{Side}
use Rattle.campl_tree.specs.Side.{opposite}
use Rattle.campl_tree.specs.declared.service.ServiceName.{ServiceName}
use Rattle.campl_tree.specs.Plain.ChanType.{ChanType}
use Rattle.campl_machine.specs.Names.{Path, First, Second, End, Who, Process, Service, same_end, same_who}
use Rattle.campl_machine.specs.Machine.{update, both_ways}
use Rattle.campl_machine.specs.Progress.{Within}
use Rattle.campl_machine.proofs.Same.{same_end-is, same_end-refl}
use Rattle.campl_machine.proofs.Updates.{split}
use Rattle.campl_machine.proofs.Ends.{apart}
use Rattle.campl_types.specs.Held.{Channel, On}
use Rattle.campl_service.specs.declared.phase.Phase.TheVariants as phase
use Rattle.campl_service.specs.Scripts.{Lines}
use Rattle.campl_meaning.specs.States.{Attending, State, Serves}
use Rattle.campl_meaning.specs.Start.{near, far, wires, holding, kind_at, attending}
use Rattle.campl_meaning.specs.Apart.{end_names}
use Rattle.campl_meaning.specs.Lawful.{Channels, own_chan}
use Rattle.campl_kept_quiet.specs.Quiet.{IsAlike}
use Rattle.campl_kept_quiet.proofs.Handed.{Among, Differ, Fit}

-- the service x has the channel m, counted from n on
abbrev pub Wired : ℕ → List ServiceName → ℕ → ServiceName → Type 0
Wired n [] m x = ⊥
Wired n (y ∷ ys) m x = ((n ≡ m) × (y ≡ x)) ⊎ Wired (suc n) ys m x

pub wired-from : (n : ℕ) (xs : List ServiceName) (m : ℕ) (x : ServiceName) → Wired n xs m x → n ≤ m
wired-from n [] m x h = absurd h
wired-from n (y ∷ ys) m x (inl (i, j)) = omega (arith, i)
wired-from n (y ∷ ys) m x (inr h) = omega (arith, wired-from (suc n) ys m x h)

-- Ends

pub near-once : (m n : ℕ) → near m ≡ near n → m ≡ n
near-once m n i = let j : suc m ≡ suc n = ap (λ (e : End). e.channel) i in cc j

pub far-once : (m n : ℕ) → far m ≡ far n → m ≡ n
far-once m n i = let j : suc m ≡ suc n = ap (λ (e : End). e.channel) i in cc j

pub near-far : (m n : ℕ) → near m ≢ far n
near-far m n i = let j : First ≡ Second = ap (λ (e : End). e.half) i in cc j

module _ (n m : ℕ) (more : suc n ≤ m) where
  near-less : same_end (near n) (near m) ≡ false
  near-less = apart (near n) (near m) (λ i. omega (arith, near-once n m i))

  far-less : same_end (far n) (far m) ≡ false
  far-less = apart (far n) (far m) (λ i. omega (arith, far-once n m i))

crossed : (n m : ℕ) → same_end (near n) (far m) ≡ false
crossed n m = apart (near n) (far m) (near-far n m)

crossed-back : (n m : ℕ) → same_end (far n) (near m) ≡ false
crossed-back n m = apart (far n) (near m) (λ i. near-far m n (sym i))

near-here : (n m : ℕ) → n ≡ m → same_end (near n) (near m) ≡ true
near-here n m i = subst (λ z. same_end (near n) (near z) ≡ true) i (same_end-refl (near n))

far-here : (n m : ℕ) → n ≡ m → same_end (far n) (far m) ≡ true
far-here n m i = subst (λ z. same_end (far n) (far z) ≡ true) i (same_end-refl (far n))

-- Partners

abbrev pub partners : ℕ → List ServiceName → End → Option End
partners n xs = update same_end (both_ways (wires n xs)) (λ e. None)

pub partner-near : (n : ℕ) (xs : List ServiceName) (m : ℕ) (x : ServiceName) → Wired n xs m x → partners n xs (near m) ≡ Some (far m)
partner-near n [] m x h = absurd h
partner-near n (y ∷ ys) m x (inl (i, j)) = rw (near-here n m i) (ap (λ z. Some (far z)) i)
partner-near n (y ∷ ys) m x (inr h) = rw (near-less n m (wired-from (suc n) ys m x h), crossed-back n m) (partner-near (suc n) ys m x h)

pub partner-far : (n : ℕ) (xs : List ServiceName) (m : ℕ) (x : ServiceName) → Wired n xs m x → partners n xs (far m) ≡ Some (near m)
partner-far n [] m x h = absurd h
partner-far n (y ∷ ys) m x (inl (i, j)) = rw (crossed n m, far-here n m i) (ap (λ z. Some (near z)) i)
partner-far n (y ∷ ys) m x (inr h) = rw (crossed n m, far-less n m (wired-from (suc n) ys m x h)) (partner-far (suc n) ys m x h)

-- what has a partner is one of them
pub partner-is : (n : ℕ) (xs : List ServiceName) (e f : End) → partners n xs e ≡ Some f
    → (m : ℕ) × (x : ServiceName) × Wired n xs m x × (((e ≡ near m) × (f ≡ far m)) ⊎ ((e ≡ far m) × (f ≡ near m)))
partner-is n [] e f i = absurd (cc i)
partner-is n (y ∷ ys) e f i = elim (split (same_end (near n) e)) [
  | inl j ↦ let k : Some (far n) ≡ Some f = rw j at i in (n, y, inl (refl, refl), inl (sym (same_end-is (near n) e j), sym (cc k)))
  | inr j ↦ elim (split (same_end (far n) e)) [
    | inl k ↦ let h : Some (near n) ≡ Some f = rw (j, k) at i in (n, y, inl (refl, refl), inr (sym (same_end-is (far n) e k), sym (cc h)))
    | inr k ↦ let (m, x, w, h) = partner-is (suc n) ys e f (rw (j, k) at i) in (m, x, inr w, h)
  ]
]

-- Types

abbrev pub own : Side → ChanType
own s = own_chan (kind_at s)

abbrev pub base : ℕ → List ServiceName → Channels
base n [] e = None
base n (x ∷ xs) e = if same_end (near n) e then Some (On x.side (own x.side)) else if same_end (far n) e then Some (On (opposite x.side) (own x.side)) else base (suc n) xs e

pub base-near : (n : ℕ) (xs : List ServiceName) (m : ℕ) (x : ServiceName) → Wired n xs m x → base n xs (near m) ≡ Some (On x.side (own x.side))
base-near n [] m x h = absurd h
base-near n (y ∷ ys) m x (inl (i, j)) = rw (near-here n m i) (ap (λ (z : ServiceName). Some (On z.side (own z.side))) j)
base-near n (y ∷ ys) m x (inr h) = rw (near-less n m (wired-from (suc n) ys m x h), crossed-back n m) (base-near (suc n) ys m x h)

pub base-far : (n : ℕ) (xs : List ServiceName) (m : ℕ) (x : ServiceName) → Wired n xs m x → base n xs (far m) ≡ Some (On (opposite x.side) (own x.side))
base-far n [] m x h = absurd h
base-far n (y ∷ ys) m x (inl (i, j)) = rw (crossed n m, far-here n m i) (ap (λ (z : ServiceName). Some (On (opposite z.side) (own z.side))) j)
base-far n (y ∷ ys) m x (inr h) = rw (crossed n m, far-less n m (wired-from (suc n) ys m x h)) (base-far (suc n) ys m x h)

-- What `run` holds

pub among-holding : (n : ℕ) (xs : List ServiceName) (m : ℕ) (x : ServiceName) → Wired n xs m x → Among (near m) (holding n xs)
among-holding n [] m x h = absurd h
among-holding n (y ∷ ys) m x (inl (i, j)) = inl (ap near i)
among-holding n (y ∷ ys) m x (inr h) = inr (among-holding (suc n) ys m x h)

pub holding-is : (n : ℕ) (xs : List ServiceName) (e : End) → Among e (holding n xs) → (m : ℕ) × (x : ServiceName) × Wired n xs m x × (e ≡ near m)
holding-is n [] e a = absurd a
holding-is n (y ∷ ys) e (inl i) = (n, y, inl (refl, refl), sym i)
holding-is n (y ∷ ys) e (inr a) = let (m, x, h, i) = holding-is (suc n) ys e a in (m, x, inr h, i)

pub holding-differ : (n : ℕ) (xs : List ServiceName) → Differ (holding n xs)
holding-differ n [] = tt
holding-differ n (y ∷ ys) = (
  (λ a. let (m, x, h, i) = holding-is (suc n) ys (near n) a in omega (arith, near-once n m i, wired-from (suc n) ys m x h)),
  holding-differ (suc n) ys,
)

pub holding-names : (n : ℕ) (xs : List ServiceName) → end_names (holding n xs) ≡ map (λ (x : ServiceName). x.name) xs
holding-names n [] = refl
holding-names n (x ∷ xs) = ap (λ z. x.name ∷ z) (holding-names (suc n) xs)

-- the types of the services are those of the channels but for places
abbrev pub Suit : List ServiceName → List Channel → Type 0
Suit [] [] = Unit {0}
Suit (x ∷ xs) (c ∷ cs) = IsAlike (Some (On x.side (own x.side))) (Some c) × Suit xs cs
Suit [] (c ∷ cs) = ⊥
Suit (x ∷ xs) [] = ⊥

pub suit-append : (xs ys : List ServiceName) (cs ds : List Channel) → Suit xs cs → Suit ys ds → Suit (xs ++ ys) (cs ++ ds)
suit-append [] ys [] ds h k = k
suit-append (x ∷ xs) ys (c ∷ cs) ds (i, h) k = (i, suit-append xs ys cs ds h k)
suit-append [] ys (c ∷ cs) ds h k = absurd h
suit-append (x ∷ xs) ys [] ds h k = absurd h

pub suit-fit : (channel : Channels) (n : ℕ) (xs : List ServiceName) (cs : List Channel) → ((m : ℕ) (x : ServiceName) → Wired n xs m x → channel (near m) ≡ Some (On x.side (own x.side)))
    → Suit xs cs → Fit channel (holding n xs) cs
suit-fit channel n [] [] at h = tt
suit-fit channel n (x ∷ xs) (c ∷ cs) at (i, h) =
    (subst (λ z. IsAlike z (Some c)) (sym (at n x (inl (refl, refl)))) i, suit-fit channel (suc n) xs cs (λ m y k. at m y (inr k)) h)
suit-fit channel n [] (c ∷ cs) at h = absurd h
suit-fit channel n (x ∷ xs) [] at h = absurd h

-- Services

abbrev pub attend : ℕ → ServiceName → Lines → Attending
attend m x lines = record { end = far m; serving = record { kind = kind_at x.side; phase = phase.Pick; script = lines; transcript = [] } }

abbrev pub serving_nodes : ℕ → List ServiceName → List Lines → Who → Option State
serving_nodes n xs scripts = update same_who (attending n xs scripts) (λ who. None)

pub no-process : (n : ℕ) (xs : List ServiceName) (scripts : List Lines) (p : Path) → serving_nodes n xs scripts (Process p) ≡ None
no-process n [] scripts p = refl
no-process n (x ∷ xs) [] p = no-process (suc n) xs [] p
no-process n (x ∷ xs) (lines ∷ scripts) p = no-process (suc n) xs scripts p

one-serving : (n : ℕ) (x : ServiceName) (xs : List ServiceName) (lines : Lines) (scripts : List Lines) (m : ℕ) (s : State)
    → (if eqb n m then Some (Serves (attend n x lines)) else serving_nodes (suc n) xs scripts (Service m)) ≡ Some s
    → (serving_nodes (suc n) xs scripts (Service m) ≡ Some s → (y : ServiceName) × (given : Lines) × Wired (suc n) xs m y × (s ≡ Serves (attend m y given)))
    → (y : ServiceName) × (given : Lines) × Wired n (x ∷ xs) m y × (s ≡ Serves (attend m y given))
one-serving n x xs lines scripts m s i later = elim (split (eqb n m)) [
  | inl j ↦
      let nm : n ≡ m = eqb-true n m j in
      let k : Some (Serves (attend n x lines)) ≡ Some s = rw j at i in
      let h : Serves (attend n x lines) ≡ s = cc k in
      (x, lines, inl (nm, refl), sym h ∙ ap (λ z. Serves (attend z x lines)) nm)
  | inr j ↦ let (y, given, w, h) = later (rw j at i) in (y, given, inr w, h)
]

pub serving-is : (n : ℕ) (xs : List ServiceName) (scripts : List Lines) (m : ℕ) (s : State) → serving_nodes n xs scripts (Service m) ≡ Some s
    → (x : ServiceName) × (lines : Lines) × Wired n xs m x × (s ≡ Serves (attend m x lines))
serving-is n [] scripts m s i = absurd (cc i)
serving-is n (x ∷ xs) [] m s i = one-serving n x xs [] [] m s i (serving-is (suc n) xs [] m s)
serving-is n (x ∷ xs) (lines ∷ scripts) m s i = one-serving n x xs lines scripts m s i (serving-is (suc n) xs scripts m s)

one-there : (n : ℕ) (y : ServiceName) (ys : List ServiceName) (lines : Lines) (scripts : List Lines) (m : ℕ) (x : ServiceName) → Wired n (y ∷ ys) m x
    → (Wired (suc n) ys m x → (given : Lines) × (serving_nodes (suc n) ys scripts (Service m) ≡ Some (Serves (attend m x given))))
    → (given : Lines) × ((if eqb n m then Some (Serves (attend n y lines)) else serving_nodes (suc n) ys scripts (Service m)) ≡ Some (Serves (attend m x given)))
one-there n y ys lines scripts m x (inl (i, j)) later = (lines, rw (eq-eqb n m i) (ap₂ (λ z q. Some (Serves (attend z q lines))) i j))
one-there n y ys lines scripts m x (inr h) later =
    let (given, k) = later h in
    (given, elim (split (eqb n m)) [ inl i ↦ absurd (omega (arith, eqb-true n m i, wired-from (suc n) ys m x h)) | inr i ↦ rw i k ])

pub serving-there : (n : ℕ) (xs : List ServiceName) (scripts : List Lines) (m : ℕ) (x : ServiceName) → Wired n xs m x → (lines : Lines) × (serving_nodes n xs scripts (Service m) ≡ Some (Serves (attend m x lines)))
serving-there n [] scripts m x h = absurd h
serving-there n (y ∷ ys) [] m x h = one-there n y ys [] [] m x h (serving-there (suc n) ys [] m x)
serving-there n (y ∷ ys) (lines ∷ scripts) m x h = one-there n y ys lines scripts m x h (serving-there (suc n) ys scripts m x)

abbrev pub service_names : ℕ → List ServiceName → List Who
service_names n [] = []
service_names n (x ∷ xs) = Service n ∷ service_names (suc n) xs

pub service-listed : (n : ℕ) (xs : List ServiceName) (m : ℕ) (x : ServiceName) → Wired n xs m x → Within (service_names n xs) (Service m)
service-listed n [] m x h = absurd h
service-listed n (y ∷ ys) m x (inl (i, j)) = inl (ap Service (sym i))
service-listed n (y ∷ ys) m x (inr h) = inr (service-listed (suc n) ys m x h)

-- the ends that have a partner
abbrev pub wired_ends : ℕ → List ServiceName → List End
wired_ends n [] = []
wired_ends n (x ∷ xs) = near n ∷ (far n ∷ wired_ends (suc n) xs)

both-listed : (n : ℕ) (xs : List ServiceName) (m : ℕ) (x : ServiceName) → Wired n xs m x → Within (wired_ends n xs) (near m) × Within (wired_ends n xs) (far m)
both-listed n [] m x h = absurd h
both-listed n (y ∷ ys) m x (inl (i, j)) = (inl (ap near (sym i)), inr (inl (ap far (sym i))))
both-listed n (y ∷ ys) m x (inr h) = let (a, b) = both-listed (suc n) ys m x h in (inr (inr a), inr (inr b))

pub joined-listed : (n : ℕ) (xs : List ServiceName) (e f : End) → partners n xs e ≡ Some f → Within (wired_ends n xs) e
joined-listed n xs e f i = go (partner-is n xs e f i)
  where
    go : ((m : ℕ) × (x : ServiceName) × Wired n xs m x × (((e ≡ near m) × (f ≡ far m)) ⊎ ((e ≡ far m) × (f ≡ near m)))) → Within (wired_ends n xs) e
    go (m, x, h, inl (k, l)) = subst (Within (wired_ends n xs)) (sym k) (both-listed n xs m x h).0
    go (m, x, h, inr (k, l)) = subst (Within (wired_ends n xs)) (sym k) (both-listed n xs m x h).1
