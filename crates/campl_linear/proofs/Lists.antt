-- The list of held channels, seen by name.
use Rattle.std.proofs.Common.{◌≡◌, ◌∙◌, refl, sym, ap, subst, Bool, true, false, not, if◌then◌else◌, List, [], ◌∷◌, ◌++◌, Option, Some, None}
use Rattle.std.proofs.Math.Path.{fun_ext}
use Rattle.campl_tree.specs.declared.place.Place.{Place}
use Rattle.campl_types.specs.Names.{Name, same_name, is_among, found}
use Rattle.campl_types.specs.World.{or_else}
use Rattle.campl_types.specs.Held.{Channel, Held, with, without, only, HoldsOnly}
use Rattle.campl_types.proofs.Names.{same-is, same-itself, same-turned}
use Rattle.campl_seqcheck.specs.Judged.{Fine, fine, Is}
use Rattle.campl_linear.specs.Holding.{Holding, as_held, goes_on, those, given_up, comes}
use Rattle.campl_linear.specs.Channels.{none_left}
use Rattle.campl_types.proofs.Truth.{or-none, no-both}

-- Those that are kept

found-those : (keep : Name → Bool) (held : Holding) (y : Name) → found y (those keep held) ≡ (if keep y then found y held else None)
found-those keep [] y = go (keep y) None refl
  where
    go : (p : Bool) (o : Option Channel) → None ≡ o → None ≡ (if p then o else None)
    go true o i = i
    go false o i = refl
found-those keep (e ∷ es) y = go (keep e.0) refl (same_name y e.0) refl (found-those keep es y)
  where
    go : (p : Bool) → keep e.0 ≡ p → (q : Bool) → same_name y e.0 ≡ q → found y (those keep es) ≡ (if keep y then found y es else None)
        → found y (if p then e ∷ those keep es else those keep es) ≡ (if keep y then (if q then Some e.1 else found y es) else None)
    go true kp true sq ih = let k : keep y ≡ true = ap keep (same-is y e.0 sq) ∙ kp in rw (sq, k) refl
    go true kp false sq ih = rw sq ih
    go false kp true sq ih = let k : keep y ≡ false = ap keep (same-is y e.0 sq) ∙ kp in let j : found y (those keep es) ≡ None = rw k at ih in rw k j
    go false kp false sq ih = ih

pub held-those : (keep : Name → Bool) (held : Holding) → as_held (those keep held) ≡ only keep (as_held held)
held-those keep held = fun_ext (λ y. found-those keep held y)

pub held-given-up : (x : Name) (held : Holding) → as_held (given_up x held) ≡ without x (as_held held)
held-given-up x held = fun_ext (λ y. found-those (λ z. not (same_name x z)) held y ∙ go y (same_name x y))
  where
    go : (y : Name) (p : Bool) → (if not p then found y held else None) ≡ (if p then None else found y held)
    go y true = refl
    go y false = refl

-- A channel that goes on

other-goes : (x : Name) (c : Channel) (held : Holding) (y : Name) → same_name x y ≡ false → found y (goes_on x c held) ≡ found y held
other-goes x c [] y i = refl
other-goes x c (e ∷ es) y i = go (same_name x e.0) refl (same_name y e.0) refl (other-goes x c es y i)
  where
    go : (p : Bool) → same_name x e.0 ≡ p → (q : Bool) → same_name y e.0 ≡ q → found y (goes_on x c es) ≡ found y es
        → found y (if p then (e.0, c) ∷ es else e ∷ goes_on x c es) ≡ (if q then Some e.1 else found y es)
    go true sp true sq ih = absurd (no-both (same_name x y) (ap (same_name x) (same-is y e.0 sq) ∙ sp) i)
    go true sp false sq ih = rw sq refl
    go false sp true sq ih = rw sq refl
    go false sp false sq ih = rw sq ih

itself-goes : (x : Name) (c d : Channel) (held : Holding) → found x held ≡ Some d → found x (goes_on x c held) ≡ Some c
itself-goes x c d [] i = absurd (cc i)
itself-goes x c d (e ∷ es) i = go (same_name x e.0) refl i (itself-goes x c d es)
  where
    go : (q : Bool) → same_name x e.0 ≡ q → (if q then Some e.1 else found x es) ≡ Some d → (found x es ≡ Some d → found x (goes_on x c es) ≡ Some c)
        → found x (if q then (e.0, c) ∷ es else e ∷ goes_on x c es) ≡ Some c
    go true sq j ih = rw sq refl
    go false sq j ih = rw sq (ih j)

pub held-goes-on : (x : Name) (c d : Channel) (held : Holding) → found x held ≡ Some d → as_held (goes_on x c held) ≡ with x (Some c) (as_held held)
held-goes-on x c d held i = fun_ext (λ y. go y (same_name x y) refl)
  where
    go : (y : Name) (p : Bool) → same_name x y ≡ p → found y (goes_on x c held) ≡ (if p then Some c else found y held)
    go y true s = ap (λ z. found z (goes_on x c held)) (sym (same-is x y s)) ∙ itself-goes x c d held i
    go y false s = other-goes x c held y s

-- A new channel

pub found-append : (y : Name) (ds bs : Holding) → found y (ds ++ bs) ≡ or_else (found y ds) (found y bs)
found-append y [] bs = refl
found-append y (e ∷ es) bs = go (same_name y e.0) (found-append y es bs)
  where
    go : (q : Bool) → found y (es ++ bs) ≡ or_else (found y es) (found y bs)
        → (if q then Some e.1 else found y (es ++ bs)) ≡ or_else (if q then Some e.1 else found y es) (found y bs)
    go true ih = refl
    go false ih = ih

or-else-none : (o : Option Channel) → or_else o None ≡ o
or-else-none None = refl
or-else-none (Some c) = refl

pub held-comes : (x : Name) (c : Channel) (held : Holding) → found x held ≡ None → as_held (comes x c held) ≡ with x (Some c) (as_held held)
held-comes x c held i = fun_ext (λ y. found-append y held ((x, c) ∷ []) ∙ go y (same_name x y) refl)
  where
    go : (y : Name) (p : Bool) → same_name x y ≡ p → or_else (found y held) (if same_name y x then Some c else None) ≡ (if p then Some c else found y held)
    go y true s = let t : same_name y x ≡ true = same-turned y x ∙ s in let j : found y held ≡ None = ap (λ z. found z held) (sym (same-is x y s)) ∙ i in rw (t, j) refl
    go y false s = let t : same_name y x ≡ false = same-turned y x ∙ s in rw t (or-else-none (found y held))

pub held-first : (x : Name) (c : Channel) (held : Holding) → as_held ((x, c) ∷ held) ≡ with x (Some c) (as_held held)
held-first x c held = fun_ext (λ y. ap (λ p. if p then Some c else found y held) (same-turned y x))

-- None left

pub none-left : (at : Place) (held : Holding) (f : Fine) → none_left at held ≡ Is f → HoldsOnly [] (as_held held)
none-left at [] f i = λ y j. refl
none-left at (e ∷ es) f i = absurd (cc i)

pub left-none : (at : Place) (held : Holding) → HoldsOnly [] (as_held held) → none_left at held ≡ Is fine
left-none at [] h = refl
left-none at (e ∷ es) h = absurd (let i : found e.0 (e ∷ es) ≡ None = h e.0 refl in let s : same_name e.0 e.0 ≡ true = same-itself e.0 in cc (rw s at i))

pub only-behind : (x : Name) (names : List Name) (held : Held) → HoldsOnly names (without x held) → HoldsOnly (x ∷ names) held
only-behind x names held h y i = let n = or-none (same_name y x) (is_among y names) i in let t : same_name x y ≡ false = same-turned x y ∙ n.0 in let k : without x held y ≡ None = h y n.1 in rw t at k

pub only-before : (x : Name) (names : List Name) (held : Held) → HoldsOnly (x ∷ names) held → HoldsOnly names (without x held)
only-before x names held h y i = go (same_name x y) refl
  where
    go : (p : Bool) → same_name x y ≡ p → (if p then None else held y) ≡ None
    go true s = refl
    go false s = let t : same_name y x ≡ false = same-turned y x ∙ s in h y (rw (t, i) refl)

-- the channels of these names given up
abbrev pub all_given_up : List Name → Holding → Holding
all_given_up [] held = held
all_given_up (x ∷ xs) held = all_given_up xs (given_up x held)

pub all-only : (names more : List Name) (held : Holding) → HoldsOnly more (as_held (all_given_up names held)) → HoldsOnly (names ++ more) (as_held held)
all-only [] more held h = h
all-only (x ∷ xs) more held h = only-behind x (xs ++ more) (as_held held) (subst (λ (k : Held). HoldsOnly (xs ++ more) k) (held-given-up x held) (all-only xs more (given_up x held) h))

pub only-all : (names more : List Name) (held : Holding) → HoldsOnly (names ++ more) (as_held held) → HoldsOnly more (as_held (all_given_up names held))
only-all [] more held h = h
only-all (x ∷ xs) more held h = only-all xs more (given_up x held) (subst (λ (k : Held). HoldsOnly (xs ++ more) k) (sym (held-given-up x held)) (only-before x (xs ++ more) (as_held held) h))
