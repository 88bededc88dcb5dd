-- Slots and where the names stand in them.
use Rattle.std.proofs.Common.{◌≡◌, ◌∙◌, refl, sym, ap, subst, ℕ, zero, suc, ◌+◌, ◌<◌, ◌≤◌, drop, Bool, true, false, cond, if◌then◌else◌, List, [], ◌∷◌, ◌++◌, length, take, get_or, Option, Some, None, option_map, slice_get, slice_set, arith}
use Rattle.std.proofs.lemmas.List.{map-append, drop_more, drop_all}
use Rattle.std.specs.Map.{lookup}
use Rattle.campl_types.specs.Names.{Name, same_name, found}
use Rattle.campl_types.specs.Held.{Channel}
use Rattle.campl_types.proofs.Names.{same-is, same-turned}
use Rattle.campl_linear.specs.Holding.{Holding, those, given_up, goes_on, comes}
use Rattle.campl_held.specs.declared.channel.HeldChannel.{HeldChannel}
use Rattle.campl_held.specs.Slots.{view_channel, view_one, view_held, live, is_of, place, AreOnce, slot_at, is_kept}

abbrev pub Slot : Type 0
Slot = Option HeldChannel

slot-later : (o : Slot) (s : List Slot) (p : Option ℕ) → slot_at (o ∷ s) (option_map suc p) ≡ slot_at s p
slot-later o s None = refl
slot-later o s (Some n) = refl

none-later : (b : Bool) (p : Option ℕ) → cond b (Some 0) (option_map suc p) ≡ None → (b ≡ false) × (p ≡ None)
none-later true p i = absurd (let none : ⊥ = cc in none)
none-later false None i = (refl, refl)
none-later false (Some n) i = absurd (let none : ⊥ = cc in none)

some-later : (p : Option ℕ) (n : ℕ) → option_map suc p ≡ Some n → (m : ℕ) × (p ≡ Some m) × (suc m ≡ n)
some-later None n i = absurd (let none : ⊥ = cc in none)
some-later (Some m) n i = (m, refl, cc)

-- What is found

pub found-slot : (x : Name) (s : List Slot) → found x (view_held (live s)) ≡ option_map view_channel (slot_at s (place x s))
found-slot x [] = refl
found-slot x (None ∷ s) = found-slot x s ∙ sym (ap (option_map view_channel) (slot-later None s (place x s)))
found-slot x (Some h ∷ s) = go (same_name x h.name) (found-slot x s)
  where
    go : (b : Bool) → found x (view_held (live s)) ≡ option_map view_channel (slot_at s (place x s))
        → (if b then Some (view_channel h) else found x (view_held (live s))) ≡ option_map view_channel (slot_at (Some h ∷ s) (cond b (Some 0) (option_map suc (place x s))))
    go true i = refl
    go false i = i ∙ sym (ap (option_map view_channel) (slot-later (Some h) s (place x s)))

pub none-placed : (x : Name) (s : List Slot) → found x (view_held (live s)) ≡ None → place x s ≡ None
none-placed x [] i = refl
none-placed x (None ∷ s) i = ap (option_map suc) (none-placed x s i)
none-placed x (Some h ∷ s) i = go (same_name x h.name) i (λ j. none-placed x s j)
  where
    go : (b : Bool) → (if b then Some (view_channel h) else found x (view_held (live s))) ≡ None → (found x (view_held (live s)) ≡ None → place x s ≡ None)
        → cond b (Some 0) (option_map suc (place x s)) ≡ None
    go true j later = absurd (let none : ⊥ = cc in none)
    go false j later = ap (option_map suc) (later j)

pub place-within : (x : Name) (s : List Slot) (n : ℕ) → place x s ≡ Some n → n < length s
place-within x [] n i = absurd (let none : ⊥ = cc in none)
place-within x (o ∷ s) n i = go (is_of x o) (place x s) (λ m j. place-within x s m j) i
  where
    go : (b : Bool) (p : Option ℕ) → ((m : ℕ) → p ≡ Some m → m < length s) → cond b (Some 0) (option_map suc p) ≡ Some n → n < suc (length s)
    go true p within j = let e : 0 ≡ n = cc in omega (arith, e)
    go false None within j = absurd (let none : ⊥ = cc in none)
    go false (Some m) within j = let e : suc m ≡ n = cc in let l : m < length s = within m refl in omega (arith, e, l)

-- Given up

pub not-there : (x : Name) (s : List Slot) → place x s ≡ None → given_up x (view_held (live s)) ≡ view_held (live s)
not-there x [] i = refl
not-there x (None ∷ s) i = not-there x s (none-later false (place x s) i).1
not-there x (Some h ∷ s) i =
    let n = none-later (same_name x h.name) (place x s) i in
    rw n.0 (ap (λ t. view_one h ∷ t) (not-there x s n.1))

pub emptied : (x : Name) (s : List Slot) (n : ℕ) → AreOnce s → place x s ≡ Some n → view_held (live (slice_set s n None)) ≡ given_up x (view_held (live s))
emptied x [] n once i = absurd (let none : ⊥ = cc in none)
emptied x (None ∷ s) n once i =
    let l = some-later (place x s) n i in
    subst (λ q. view_held (live (slice_set (None ∷ s) q None)) ≡ given_up x (view_held (live s))) l.2 (emptied x s l.0 once l.1)
emptied x (Some h ∷ s) n once i = go (same_name x h.name) (λ m j. emptied x s m once.1 j) refl i
  where
    go : (b : Bool) → ((m : ℕ) → place x s ≡ Some m → view_held (live (slice_set s m None)) ≡ given_up x (view_held (live s))) → same_name x h.name ≡ b → cond b (Some 0) (option_map suc (place x s)) ≡ Some n
        → view_held (live (slice_set (Some h ∷ s) n None)) ≡ given_up x (view_held (live (Some h ∷ s)))
    go true more j k =
        let e : 0 ≡ n = cc in
        subst (λ q. view_held (live (slice_set (Some h ∷ s) q None)) ≡ given_up x (view_held (live (Some h ∷ s)))) e
        (rw j (sym (not-there x s (subst (λ y. place y s ≡ None) (sym (same-is x h.name j)) once.0))))
    go false more j k =
        let l = some-later (place x s) n k in
        subst (λ q. view_held (live (slice_set (Some h ∷ s) q None)) ≡ given_up x (view_held (live (Some h ∷ s)))) l.2
        (rw j (ap (λ t. view_one h ∷ t) (more l.0 l.1)))

cond-later : (b : Bool) (p : Option ℕ) → option_map suc (cond b None p) ≡ cond b None (option_map suc p)
cond-later true p = refl
cond-later false p = refl

pub emptied-place : (x y : Name) (s : List Slot) (n : ℕ) → AreOnce s → place x s ≡ Some n → place y (slice_set s n None) ≡ cond (same_name x y) None (place y s)
emptied-place x y [] n once i = absurd (let none : ⊥ = cc in none)
emptied-place x y (None ∷ s) n once i =
    let l = some-later (place x s) n i in
    subst (λ q. place y (slice_set (None ∷ s) q None) ≡ cond (same_name x y) None (option_map suc (place y s))) l.2
    (ap (option_map suc) (emptied-place x y s l.0 once l.1) ∙ cond-later (same_name x y) (place y s))
emptied-place x y (Some h ∷ s) n once i = go (same_name x h.name) (λ m j. emptied-place x y s m once.1 j) refl i
  where
    here : (c : Bool) → same_name x y ≡ c → same_name x h.name ≡ true → option_map suc (place y s) ≡ cond c None (cond (same_name y h.name) (Some 0) (option_map suc (place y s)))
    here true j k = ap (option_map suc) (subst (λ z. place z s ≡ None) (sym (same-is x h.name k) ∙ same-is x y j) once.0)
    here false j k = rw (sym (ap (same_name y) (same-is x h.name k)) ∙ same-turned y x ∙ j) refl

    later : (c : Bool) (p : Option ℕ) → same_name x y ≡ c → same_name x h.name ≡ false → p ≡ cond c None (place y s)
        → cond (same_name y h.name) (Some 0) (option_map suc p) ≡ cond c None (cond (same_name y h.name) (Some 0) (option_map suc (place y s)))
    later true p j k m = rw (m, ap (λ z. same_name z h.name) (sym (same-is x y j)) ∙ k) refl
    later false p j k m = rw m refl

    go : (b : Bool) → ((m : ℕ) → place x s ≡ Some m → place y (slice_set s m None) ≡ cond (same_name x y) None (place y s)) → same_name x h.name ≡ b → cond b (Some 0) (option_map suc (place x s)) ≡ Some n
        → place y (slice_set (Some h ∷ s) n None) ≡ cond (same_name x y) None (cond (same_name y h.name) (Some 0) (option_map suc (place y s)))
    go true more j k =
        let e : 0 ≡ n = cc in
        subst (λ q. place y (slice_set (Some h ∷ s) q None) ≡ cond (same_name x y) None (cond (same_name y h.name) (Some 0) (option_map suc (place y s)))) e (here (same_name x y) refl j)
    go false more j k =
        let l = some-later (place x s) n k in
        subst (λ q. place y (slice_set (Some h ∷ s) q None) ≡ cond (same_name x y) None (cond (same_name y h.name) (Some 0) (option_map suc (place y s)))) l.2
        (later (same_name x y) (place y (slice_set s l.0 None)) refl j (more l.0 l.1))

no-place : (b : Bool) (p : Option ℕ) → p ≡ None → cond b None p ≡ None
no-place true p i = refl
no-place false p i = i

pub emptied-once : (x : Name) (s : List Slot) (n : ℕ) → AreOnce s → place x s ≡ Some n → AreOnce (slice_set s n None)
emptied-once x [] n once i = absurd (let none : ⊥ = cc in none)
emptied-once x (None ∷ s) n once i =
    let l = some-later (place x s) n i in subst (λ q. AreOnce (slice_set (None ∷ s) q None)) l.2 (emptied-once x s l.0 once l.1)
emptied-once x (Some h ∷ s) n once i = go (same_name x h.name) (λ m j. emptied-once x s m once.1 j) i
  where
    go : (b : Bool) → ((m : ℕ) → place x s ≡ Some m → AreOnce (slice_set s m None)) → cond b (Some 0) (option_map suc (place x s)) ≡ Some n → AreOnce (slice_set (Some h ∷ s) n None)
    go true more k = let e : 0 ≡ n = cc in subst (λ q. AreOnce (slice_set (Some h ∷ s) q None)) e once.1
    go false more k =
        let l = some-later (place x s) n k in
        subst (λ q. AreOnce (slice_set (Some h ∷ s) q None)) l.2
        (emptied-place x h.name s l.0 once.1 l.1 ∙ no-place (same_name x h.name) (place h.name s) once.0, more l.0 l.1)

-- Going on

pub stays : (x : Name) (c : Channel) (s : List Slot) → place x s ≡ None → goes_on x c (view_held (live s)) ≡ view_held (live s)
stays x c [] i = refl
stays x c (None ∷ s) i = stays x c s (none-later false (place x s) i).1
stays x c (Some h ∷ s) i =
    let n = none-later (same_name x h.name) (place x s) i in
    rw n.0 (ap (λ t. view_one h ∷ t) (stays x c s n.1))

module _ (x : Name) (g : HeldChannel) (is : g.name ≡ x) where
  pub refilled : (s : List Slot) (n : ℕ) → place x s ≡ Some n → view_held (live (slice_set s n (Some g))) ≡ goes_on x (view_channel g) (view_held (live s))
  refilled [] n i = absurd (let none : ⊥ = cc in none)
  refilled (None ∷ s) n i =
      let l = some-later (place x s) n i in
      subst (λ q. view_held (live (slice_set (None ∷ s) q (Some g))) ≡ goes_on x (view_channel g) (view_held (live s))) l.2 (refilled s l.0 l.1)
  refilled (Some h ∷ s) n i = go (same_name x h.name) (λ m j. refilled s m j) refl i
    where
      go : (b : Bool) → ((m : ℕ) → place x s ≡ Some m → view_held (live (slice_set s m (Some g))) ≡ goes_on x (view_channel g) (view_held (live s))) → same_name x h.name ≡ b → cond b (Some 0) (option_map suc (place x s)) ≡ Some n
          → view_held (live (slice_set (Some h ∷ s) n (Some g))) ≡ goes_on x (view_channel g) (view_held (live (Some h ∷ s)))
      go true more j k =
          let e : 0 ≡ n = cc in
          subst (λ q. view_held (live (slice_set (Some h ∷ s) q (Some g))) ≡ goes_on x (view_channel g) (view_held (live (Some h ∷ s)))) e
          (rw j (ap (λ y. (y, view_channel g) ∷ view_held (live s)) (is ∙ same-is x h.name j)))
      go false more j k =
          let l = some-later (place x s) n k in
          subst (λ q. view_held (live (slice_set (Some h ∷ s) q (Some g))) ≡ goes_on x (view_channel g) (view_held (live (Some h ∷ s)))) l.2
          (rw j (ap (λ t. view_one h ∷ t) (more l.0 l.1)))

  pub refilled-place : (y : Name) (s : List Slot) (n : ℕ) → place x s ≡ Some n → place y (slice_set s n (Some g)) ≡ place y s
  refilled-place y [] n i = absurd (let none : ⊥ = cc in none)
  refilled-place y (None ∷ s) n i =
      let l = some-later (place x s) n i in
      subst (λ q. place y (slice_set (None ∷ s) q (Some g)) ≡ option_map suc (place y s)) l.2 (ap (option_map suc) (refilled-place y s l.0 l.1))
  refilled-place y (Some h ∷ s) n i = go (same_name x h.name) (λ m j. refilled-place y s m j) refl i
    where
      go : (b : Bool) → ((m : ℕ) → place x s ≡ Some m → place y (slice_set s m (Some g)) ≡ place y s) → same_name x h.name ≡ b → cond b (Some 0) (option_map suc (place x s)) ≡ Some n
          → place y (slice_set (Some h ∷ s) n (Some g)) ≡ place y (Some h ∷ s)
      go true more j k =
          let e : 0 ≡ n = cc in
          subst (λ q. place y (slice_set (Some h ∷ s) q (Some g)) ≡ place y (Some h ∷ s)) e
          (ap (λ z. cond (same_name y z) (Some 0) (option_map suc (place y s))) (is ∙ same-is x h.name j))
      go false more j k =
          let l = some-later (place x s) n k in
          subst (λ q. place y (slice_set (Some h ∷ s) q (Some g)) ≡ place y (Some h ∷ s)) l.2
          (ap (λ p. cond (same_name y h.name) (Some 0) (option_map suc p)) (more l.0 l.1))

  pub refilled-once : (s : List Slot) (n : ℕ) → AreOnce s → place x s ≡ Some n → AreOnce (slice_set s n (Some g))
  refilled-once [] n once i = absurd (let none : ⊥ = cc in none)
  refilled-once (None ∷ s) n once i =
      let l = some-later (place x s) n i in subst (λ q. AreOnce (slice_set (None ∷ s) q (Some g))) l.2 (refilled-once s l.0 once l.1)
  refilled-once (Some h ∷ s) n once i = go (same_name x h.name) (λ m j. refilled-once s m once.1 j) refl i
    where
      go : (b : Bool) → ((m : ℕ) → place x s ≡ Some m → AreOnce (slice_set s m (Some g))) → same_name x h.name ≡ b → cond b (Some 0) (option_map suc (place x s)) ≡ Some n → AreOnce (slice_set (Some h ∷ s) n (Some g))
      go true more j k =
          let e : 0 ≡ n = cc in
          subst (λ q. AreOnce (slice_set (Some h ∷ s) q (Some g))) e (subst (λ z. place z s ≡ None) (sym (is ∙ same-is x h.name j)) once.0, once.1)
      go false more j k =
          let l = some-later (place x s) n k in
          subst (λ q. AreOnce (slice_set (Some h ∷ s) q (Some g))) l.2 (refilled-place h.name s l.0 l.1 ∙ once.0, more l.0 l.1)

-- A new one

module _ (g : HeldChannel) where
  pub behind : (s : List Slot) → view_held (live (s ++ Some g ∷ [])) ≡ comes g.name (view_channel g) (view_held (live s))
  behind [] = refl
  behind (None ∷ s) = behind s
  behind (Some h ∷ s) = ap (λ t. view_one h ∷ t) (behind s)

  pub behind-place : (y : Name) (s : List Slot) → place g.name s ≡ None → place y (s ++ Some g ∷ []) ≡ cond (same_name g.name y) (Some (length s)) (place y s)
  behind-place y [] i = rw (same-turned y g.name) refl
  behind-place y (o ∷ s) i =
      let n = none-later (is_of g.name o) (place g.name s) i in go (same_name g.name y) (place y (s ++ Some g ∷ [])) refl n.0 (behind-place y s n.1)
    where
      go : (c : Bool) (p : Option ℕ) → same_name g.name y ≡ c → is_of g.name o ≡ false → p ≡ cond c (Some (length s)) (place y s)
          → cond (is_of y o) (Some 0) (option_map suc p) ≡ cond c (Some (suc (length s))) (cond (is_of y o) (Some 0) (option_map suc (place y s)))
      go true p j k m = rw (m, ap (λ z. is_of z o) (sym (same-is g.name y j)) ∙ k) refl
      go false p j k m = rw m refl

  pub behind-once : (s : List Slot) → AreOnce s → place g.name s ≡ None → AreOnce (s ++ Some g ∷ [])
  behind-once [] once i = (refl, tt)
  behind-once (None ∷ s) once i = behind-once s once (none-later false (place g.name s) i).1
  behind-once (Some h ∷ s) once i =
      let n = none-later (same_name g.name h.name) (place g.name s) i in
      (behind-place h.name s n.1 ∙ ap (λ b. cond b (Some (length s)) (place h.name s)) n.0 ∙ once.0, behind-once s once.1 n.1)

-- Copied in order

there : (x : Name) (s : List Slot) (i : ℕ) (g : HeldChannel) → i < length s → Some g ≡ get_or s i (Some g) → place x s ≡ None → same_name x g.name ≡ false
there x [] i g l is k = absurd (let none : ⊥ = omega (arith, l) in none)
there x (o ∷ s) zero g l is k = ap (is_of x) is ∙ (none-later (is_of x o) (place x s) k).0
there x (o ∷ s) (suc i) g l is k = there x s i g (omega (arith, l)) is (none-later (is_of x o) (place x s) k).1

-- what stands before a channel hasn't its name
apart : (s : List Slot) (i : ℕ) (g : HeldChannel) → AreOnce s → i < length s → Some g ≡ get_or s i (Some g) → found g.name (view_held (live (take i s))) ≡ None
apart [] i g once l is = absurd (let none : ⊥ = omega (arith, l) in none)
apart (o ∷ s) zero g once l is = refl
apart (None ∷ s) (suc i) g once l is = apart s i g once (omega (arith, l)) is
apart (Some h ∷ s) (suc i) g once l is =
    rw (same-turned g.name h.name, there h.name s i g (omega (arith, l)) is once.0) (apart s i g once.1 (omega (arith, l)) is)

live-append : (s t : List Slot) → live (s ++ t) ≡ live s ++ live t
live-append [] t = refl
live-append (None ∷ s) t = live-append s t
live-append (Some h ∷ s) t = ap (λ l. h ∷ l) (live-append s t)

take-more : (s : List Slot) (n : ℕ) (o : Slot) → n < length s → o ≡ get_or s n o → take (suc n) s ≡ take n s ++ o ∷ []
take-more [] n o within is = absurd (let none : ⊥ = omega (arith, within) in none)
take-more (c ∷ s) zero o within is = ap (λ d. d ∷ []) (sym is)
take-more (c ∷ s) (suc n) o within is = ap (λ l. c ∷ l) (take-more s n o (omega (arith, within)) is)

one-more : (s : List Slot) (i : ℕ) (o : Slot) → i < length s → o ≡ get_or s i o → live (take (i + 1) s) ≡ live (take i s) ++ live (o ∷ [])
one-more s i o l is =
    let next : i + 1 ≡ suc i = omega arith in
    ap (λ n. live (take n s)) next ∙ ap live (take-more s i o l is) ∙ live-append (take i s) (o ∷ [])

those-both : (f : Name → Bool) (h k : Holding) → those f (h ++ k) ≡ those f h ++ those f k
those-both f [] k = refl
those-both f (e ∷ h) k = go (f e.0) (those-both f h k)
  where
    go : (b : Bool) → those f (h ++ k) ≡ those f h ++ those f k → (if b then e ∷ those f (h ++ k) else those f (h ++ k)) ≡ (if b then e ∷ those f h else those f h) ++ those f k
    go true i = ap (λ l. e ∷ l) i
    go false i = i

none-of-those : (f : Name → Bool) (x : Name) (h : Holding) → found x h ≡ None → found x (those f h) ≡ None
none-of-those f x [] i = refl
none-of-those f x (e ∷ h) i = go (same_name x e.0) refl i (λ j. none-of-those f x h j)
  where
    kept : (b : Bool) → same_name x e.0 ≡ false → found x (those f h) ≡ None → found x (if b then e ∷ those f h else those f h) ≡ None
    kept true s j = rw s j
    kept false s j = j

    go : (c : Bool) → same_name x e.0 ≡ c → (if c then Some e.1 else found x h) ≡ None → (found x h ≡ None → found x (those f h) ≡ None) → found x (if f e.0 then e ∷ those f h else those f h) ≡ None
    go true s j later = absurd (let none : ⊥ = cc in none)
    go false s j later = kept (f e.0) s (later j)

-- what stands before a channel hasn't its name, and fewer haven't either
pub apart-kept : (f : Name → Bool) (s : List Slot) (i : ℕ) (g : HeldChannel) → AreOnce s → i < length s → Some g ≡ get_or s i (Some g) → found g.name (those f (view_held (live (take i s)))) ≡ None
apart-kept f s i g once l is = none-of-those f g.name (view_held (live (take i s))) (apart s i g once l is)

pub copied-more : (f : Name → Bool) (s : List Slot) (i : ℕ) (o : Slot) (before held : List HeldChannel) → i < length s → o ≡ get_or s i o → view_held before ≡ those f (view_held (live (take i s)))
    → view_held held ≡ view_held before ++ those f (view_held (live (o ∷ []))) → view_held held ≡ those f (view_held (live (take (i + 1) s)))
copied-more f s i o before held l is k e =
    e ∙ ap (λ h. h ++ those f (view_held (live (o ∷ [])))) k ∙ sym (those-both f (view_held (live (take i s))) (view_held (live (o ∷ []))))
    ∙ ap (those f) (sym (map-append view_one (live (take i s)) (live (o ∷ [])))) ∙ ap (λ t. those f (view_held t)) (sym (one-more s i o l is))

-- where no name is left out
pub all-those : (h : Holding) → those (is_kept false []) h ≡ h
all-those [] = refl
all-those (e ∷ h) = ap (λ l. e ∷ l) (all-those h)

-- What the map of places tells

abbrev pub Tell : List (Name × ℕ) → List Slot → Type 0
Tell es s = (x : Name) → lookup (same_name x) es ≡ place x s

pub gave-up : (x : Name) (es after : List (Name × ℕ)) (s : List Slot) (n : ℕ) → Tell es s → AreOnce s → Some n ≡ lookup (same_name x) es
    → ((y : Name) → lookup (same_name y) after ≡ cond (same_name x y) None (lookup (same_name y) es)) → Tell after (slice_set s n None) × AreOnce (slice_set s n None)
gave-up x es after s n tell once is rest =
    let p : place x s ≡ Some n = sym (tell x) ∙ sym is in
    (λ y. rest y ∙ ap (cond (same_name x y) None) (tell y) ∙ sym (emptied-place x y s n once p), emptied-once x s n once p)

none-there : (x y : Name) (s : List Slot) → place x s ≡ None → cond (same_name x y) None (place y s) ≡ place y s
none-there x y s i = go (same_name x y) refl
  where
    go : (b : Bool) → same_name x y ≡ b → cond b None (place y s) ≡ place y s
    go true j = sym i ∙ ap (λ z. place z s) (same-is x y j)
    go false j = refl

pub gave-none : (x : Name) (es after : List (Name × ℕ)) (s : List Slot) → Tell es s → None ≡ lookup (same_name x) es
    → ((y : Name) → lookup (same_name y) after ≡ cond (same_name x y) None (lookup (same_name y) es)) → Tell after s
gave-none x es after s tell is rest y = rest y ∙ ap (cond (same_name x y) None) (tell y) ∙ none-there x y s (sym (tell x) ∙ sym is)

pub went-on : (x : Name) (g : HeldChannel) (es : List (Name × ℕ)) (s : List Slot) (n : ℕ) → g.name ≡ x → Tell es s → AreOnce s → Some n ≡ lookup (same_name x) es
    → Tell es (slice_set s n (Some g)) × AreOnce (slice_set s n (Some g))
went-on x g es s n i tell once is =
    let p : place x s ≡ Some n = sym (tell x) ∙ sym is in (λ y. tell y ∙ sym (refilled-place x g i y s n p), refilled-once x g i s n once p)

-- an empty slot more
empty-place : (y : Name) (s : List Slot) → place y (s ++ None ∷ []) ≡ place y s
empty-place y [] = refl
empty-place y (o ∷ s) = ap (λ p. cond (is_of y o) (Some 0) (option_map suc p)) (empty-place y s)

empty-once : (s : List Slot) → AreOnce s → AreOnce (s ++ None ∷ [])
empty-once [] once = tt
empty-once (None ∷ s) once = empty-once s once
empty-once (Some h ∷ s) once = (empty-place h.name s ∙ once.0, empty-once s once.1)

pub emptier : (es after : List (Name × ℕ)) (s : List Slot) → Tell es s → AreOnce s → ((y : Name) → lookup (same_name y) after ≡ lookup (same_name y) es)
    → Tell after (s ++ None ∷ []) × AreOnce (s ++ None ∷ [])
emptier es after s tell once same = (λ y. same y ∙ tell y ∙ sym (empty-place y s), empty-once s once)

pub last-set : (s : List Slot) (o p : Slot) → slice_set (s ++ o ∷ []) (length s) p ≡ s ++ p ∷ []
last-set [] o p = refl
last-set (q ∷ s) o p = ap (λ t. q ∷ t) (last-set s o p)

pub came : (g : HeldChannel) (key : Name) (at : ℕ) (es after : List (Name × ℕ)) (s : List Slot) → Tell es s → AreOnce s → place g.name s ≡ None → key ≡ g.name → at ≡ length s
    → ((y : Name) → lookup (same_name y) after ≡ cond (same_name key y) (Some at) (lookup (same_name y) es)) → Tell after (s ++ Some g ∷ []) × AreOnce (s ++ Some g ∷ [])
came g key at es after s tell once none k l rest = (
  λ y. rest y ∙ ap (λ z. cond (same_name z y) (Some at) (lookup (same_name y) es)) k ∙ ap (λ n. cond (same_name g.name y) (Some n) (lookup (same_name y) es)) l
      ∙ ap (cond (same_name g.name y) (Some (length s))) (tell y) ∙ sym (behind-place g y s none),
  behind-once g s once none,
)

set-last : (s t u : List Slot) (at : ℕ) (g : HeldChannel) → t ≡ s ++ None ∷ [] → at ≡ length s → u ≡ slice_set t at (Some g) → u ≡ s ++ Some g ∷ []
set-last s t u at g i j k = k ∙ ap (λ r. slice_set r at (Some g)) i ∙ ap (λ n. slice_set (s ++ None ∷ []) n (Some g)) j ∙ last-set s None (Some g)

pub came-so : (x : Name) (g : HeldChannel) (key : Name) (at : ℕ) (es after : List (Name × ℕ)) (s t u : List Slot) (l : List HeldChannel) → Tell es s → AreOnce s → live s ≡ l
    → found x (view_held l) ≡ None → g.name ≡ x → key ≡ x → at ≡ length s → t ≡ s ++ None ∷ [] → u ≡ slice_set t at (Some g)
    → ((y : Name) → lookup (same_name y) after ≡ cond (same_name key y) (Some at) (lookup (same_name y) es)) → Tell after u × AreOnce u
came-so x g key at es after s t u l tell once view none i j k m n rest =
    let p : place x s ≡ None = none-placed x s (ap (λ h. found x (view_held h)) view ∙ none) in
    subst (λ v. Tell after v × AreOnce v) (sym (set-last s t u at g m k n)) (came g key at es after s tell once (ap (λ y. place y s) i ∙ p) (j ∙ sym i) k rest)

pub came-view : (x : Name) (g : HeldChannel) (at : ℕ) (s t u : List Slot) (l : List HeldChannel) → live s ≡ l → g.name ≡ x → at ≡ length s → t ≡ s ++ None ∷ []
    → u ≡ slice_set t at (Some g) → view_held (live u) ≡ comes x (view_channel g) (view_held l)
came-view x g at s t u l view i k m n =
    ap (λ v. view_held (live v)) (set-last s t u at g m k n) ∙ behind g s ∙ ap (λ h. comes g.name (view_channel g) (view_held h)) view ∙ ap (λ y. comes y (view_channel g) (view_held l)) i

-- where a loop stands in slots
live-at : (s : List Slot) (i : ℕ) (o : Slot) → i < length s → o ≡ get_or s i o → live (drop i s) ≡ live (o ∷ drop (i + 1) s)
live-at s i o l is = ap live (drop_more s i o l ∙ ap (λ y. y ∷ drop (i + 1) s) (sym is))

pub passed : (s : List Slot) (i : ℕ) (o : Slot) → i < length s → o ≡ get_or s i o → o ≡ None → live (drop i s) ≡ live s → live (drop (i + 1) s) ≡ live s
passed s i o l is none inv = sym (live-at s i o l is ∙ ap (λ p. live (p ∷ drop (i + 1) s)) none) ∙ inv

pub first-is : (s : List Slot) (i : ℕ) (o : Slot) (h : HeldChannel) → i < length s → o ≡ get_or s i o → o ≡ Some h → live (drop i s) ≡ live s → Some h ≡ slice_get (live s) 0
first-is s i o h l is some inv = ap (λ t. slice_get t 0) (sym (ap (λ p. live (p ∷ drop (i + 1) s)) some) ∙ sym (live-at s i o l is) ∙ inv)

pub first-none : (s : List Slot) (i : ℕ) → length s ≤ i → live (drop i s) ≡ live s → None ≡ slice_get (live s) 0
first-none s i l inv = ap (λ t. slice_get t 0) (sym (ap live (drop_all i s l)) ∙ inv)

pub ruleset looking = (passed, first-is, first-none)

-- the first of those whose names are wanted

module _ (f : Name → Bool) (s : List Slot) (i : ℕ) where
  those-at : (o : Slot) → i < length s → o ≡ get_or s i o
      → those f (view_held (live (drop i s))) ≡ those f (view_held (live (o ∷ []))) ++ those f (view_held (live (drop (i + 1) s)))
  those-at o l is =
      let rest = drop (i + 1) s in
      ap (λ t. those f (view_held t)) (live-at s i o l is ∙ live-append (o ∷ []) rest)
      ∙ ap (those f) (map-append view_one (live (o ∷ [])) (live rest)) ∙ those-both f (view_held (live (o ∷ []))) (view_held (live rest))

  pub those-passed : (o : Slot) → i < length s → o ≡ get_or s i o → None ≡ slice_get (those f (view_held (live (o ∷ [])))) 0
      → those f (view_held (live (drop i s))) ≡ those f (view_held (live s)) → those f (view_held (live (drop (i + 1) s))) ≡ those f (view_held (live s))
  those-passed o l is none inv = go (those f (view_held (live (o ∷ [])))) none (those-at o l is)
    where
      go : (h : Holding) → None ≡ slice_get h 0 → those f (view_held (live (drop i s))) ≡ h ++ those f (view_held (live (drop (i + 1) s))) → those f (view_held (live (drop (i + 1) s))) ≡ those f (view_held (live s))
      go [] n e = sym e ∙ inv
      go (c ∷ h) n e = absurd (let none : ⊥ = cc in none)

  pub those-first : (o : Slot) (c : Name × Channel) → i < length s → o ≡ get_or s i o → Some c ≡ slice_get (those f (view_held (live (o ∷ [])))) 0
      → those f (view_held (live (drop i s))) ≡ those f (view_held (live s)) → Some c ≡ slice_get (those f (view_held (live s))) 0
  those-first o c l is some inv = go (those f (view_held (live (o ∷ [])))) some (those-at o l is)
    where
      go : (h : Holding) → Some c ≡ slice_get h 0 → those f (view_held (live (drop i s))) ≡ h ++ those f (view_held (live (drop (i + 1) s))) → Some c ≡ slice_get (those f (view_held (live s))) 0
      go [] n e = absurd (let none : ⊥ = cc in none)
      go (d ∷ h) n e = n ∙ ap (λ l. slice_get l 0) (sym e ∙ inv)

  pub those-none : length s ≤ i → those f (view_held (live (drop i s))) ≡ those f (view_held (live s)) → None ≡ slice_get (those f (view_held (live s))) 0
  those-none l inv = ap (λ t. slice_get t 0) (sym (ap (λ t. those f (view_held (live t))) (drop_all i s l)) ∙ inv)
