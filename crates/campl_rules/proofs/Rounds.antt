-- Rounds that give heights.
use Rattle.std.proofs.Common.{◌≡◌, refl, ℕ, zero, suc, ◌+◌, ◌<◌, ◌≤◌, ◌≢◌, Bool, true, false, List, [], ◌∷◌, map, length, get_or, inl, inr, ◌⊎◌, ap, sym, subst, ◌∙◌, Option, Some, None, arith}
use Rattle.std.proofs.lemmas.Bool.{eq-eqb, ne_eqb}
use Rattle.std.proofs.lemmas.Bool.Decides.{eqb_tells}
use Rattle.std.proofs.lemmas.List.Sorted.{Contains-permutation, IsNonDecreasingBy-from_sort}
use Rattle.std.proofs.lemmas.Option.{slice_get-map, slice_get_past, slice_get_within}
use Rattle.std.specs.List.{Contains}
use Rattle.std.specs.List.Sorted.{IsPermutation, IsSorted}
use Rattle.std.specs.Ordering.{nat_cmp}
use Rattle.std.specs.Prelude.{slice_get, option_map, unwrap_or, eqb, if◌then◌else◌, ◌&&◌, ◌||◌}
use Rattle.campl_code.specs.Heights.{Heights, given_height, handed, handed_by, height_behind, has_operands, is_among, next_heights, or_later, rounds}
use Rattle.campl_code.specs.Instructions.{Instr, Code}
use Rattle.campl_code.specs.Operands.{is_sound, ways_from}
use Rattle.campl_code.specs.Rules.{height_at, or_none}
use Rattle.campl_rules.specs.Found.{AreFound, Changed, Covers, Rising, first, handed_at, handed_in, handed_there, is_new, settles, taken_now, takes, ways_at, ways_in}
use Rattle.campl_rules.specs.Given.{TakesLater, given_at}
use Rattle.campl_rules.proofs.Changing.{among-both}
use Rattle.campl_rules.proofs.Items.{same-items}
use mathlib.Core.Bool.{or-true}
use Rattle.campl_types.proofs.Truth.{and-second}

-- The instructions at ascending places hand on what all do, where no other has a new height

abbrev in-order : (ℕ → Option ℕ) → List ℕ → Option ℕ
in-order give [] = None
in-order give (f ∷ fs) = or_later (give f) (in-order give fs)

abbrev first-of : (ℕ → Option ℕ) → ℕ → ℕ → Option ℕ
first-of give at zero = None
first-of give at (suc n) = or_later (give at) (first-of give (suc at) n)

abbrev above : ℕ → List ℕ → List ℕ
above at [] = []
above at (f ∷ fs) = if eqb f at then above at fs else f ∷ fs

rising-from : (lo at : ℕ) (fs : List ℕ) → Rising at fs → lo ≤ at → Rising lo fs
rising-from lo at [] r le = tt
rising-from lo at (f ∷ fs) r le = (let k : lo ≤ f = omega (arith, le, r.0) in k, r.1)

among-below : (lo at : ℕ) (fs : List ℕ) → Rising lo fs → at < lo → is_among at fs ≡ false
among-below lo at [] r h = refl
among-below lo at (f ∷ fs) r h =
    let under : at < f = omega (arith, h, r.0) in
    ap (λ b. b || is_among at fs) (ne_eqb at f (λ e. omega (arith, e, under))) ∙ among-below f at fs r.1 under

or-again : (x y : Option ℕ) (b : Bool) → or_later x (or_later (if b then x else None) y) ≡ or_later x y
or-again (Some h) y b = refl
or-again None y true = refl
or-again None y false = refl

first-apart : (give : ℕ → Option ℕ) (at : ℕ) (fs : List ℕ) → Rising at fs → in-order give fs ≡ or_later (if is_among at fs then give at else None) (in-order give (above at fs))
first-apart give at [] r = refl
first-apart give at (f ∷ fs) r = go (λ q. first-apart give at fs q) (eqb_tells f at)
  where
    go : (Rising at fs → in-order give fs ≡ or_later (if is_among at fs then give at else None) (in-order give (above at fs))) → ((eqb f at ≡ true) × (f ≡ at)) ⊎ ((eqb f at ≡ false) × (f ≢ at)) → in-order give (f ∷ fs) ≡ or_later (if is_among at (f ∷ fs) then give at else None) (in-order give (above at (f ∷ fs)))
    go again (inl t) =
        ap (λ x. or_later x (in-order give fs)) (ap give t.1)
        ∙ ap (or_later (give at)) (again (rising-from at f fs r.1 r.0))
        ∙ or-again (give at) (in-order give (above at fs)) (is_among at fs)
        ∙ ap (λ b. or_later (if b || is_among at fs then give at else None) (in-order give (above at fs))) (sym (eq-eqb at f (sym t.1)))
        ∙ ap (λ b. or_later (if is_among at (f ∷ fs) then give at else None) (in-order give (if b then above at fs else f ∷ fs))) (sym t.0)
    go again (inr n) =
        let over : at < f = omega (arith, r.0, n.1) in
        ap (λ b. or_later (if b then give at else None) (in-order give (f ∷ fs))) (sym (among-below (suc at) at (f ∷ fs) (over, r.1) (omega arith)))
        ∙ ap (λ b. or_later (if is_among at (f ∷ fs) then give at else None) (in-order give (if b then above at fs else f ∷ fs))) (sym n.0)

rising-above : (at : ℕ) (fs : List ℕ) → Rising at fs → Rising (suc at) (above at fs)
rising-above at [] r = tt
rising-above at (f ∷ fs) r = go (λ q. rising-above at fs q) (eqb_tells f at)
  where
    go : (Rising at fs → Rising (suc at) (above at fs)) → ((eqb f at ≡ true) × (f ≡ at)) ⊎ ((eqb f at ≡ false) × (f ≢ at)) → Rising (suc at) (above at (f ∷ fs))
    go again (inl t) = subst (λ b. Rising (suc at) (if b then above at fs else f ∷ fs)) (sym t.0) (again (rising-from at f fs r.1 r.0))
    go again (inr n) = subst (λ b. Rising (suc at) (if b then above at fs else f ∷ fs)) (sym n.0) (let over : suc at ≤ f = omega (arith, r.0, n.1) in over, r.1)

among-above : (at i : ℕ) (fs : List ℕ) → at < i → is_among i fs ≡ is_among i (above at fs)
among-above at i [] h = refl
among-above at i (f ∷ fs) h = go (among-above at i fs h) (eqb_tells f at)
  where
    go : is_among i fs ≡ is_among i (above at fs) → ((eqb f at ≡ true) × (f ≡ at)) ⊎ ((eqb f at ≡ false) × (f ≢ at)) → is_among i (f ∷ fs) ≡ is_among i (above at (f ∷ fs))
    go again (inl t) =
        ap (λ b. b || is_among i fs) (ne_eqb i f (λ e. omega (arith, e, t.1, h))) ∙ again ∙ ap (λ b. is_among i (if b then above at fs else f ∷ fs)) (sym t.0)
    go again (inr n) = ap (λ b. is_among i (if b then above at fs else f ∷ fs)) (sym n.0)

none-in-order : (give : ℕ → Option ℕ) (at : ℕ) (fs : List ℕ) → Rising at fs → ((i : ℕ) → at ≤ i → give i ≡ None) → in-order give fs ≡ None
none-in-order give at [] r n = refl
none-in-order give at (f ∷ fs) r n =
    ap (λ x. or_later x (in-order give fs)) (n f r.0) ∙ none-in-order give f fs r.1 (λ i h. n i (let k : at ≤ i = omega (arith, h, r.0) in k))

if-there : (b : Bool) (x : Option ℕ) → (b ≡ false → x ≡ None) → (if b then x else None) ≡ x
if-there true x h = refl
if-there false x h = sym (h refl)

all-in-order : (give : ℕ → Option ℕ) (n at : ℕ) (fs : List ℕ) → Rising at fs → ((i : ℕ) → at ≤ i → is_among i fs ≡ false → give i ≡ None) → ((i : ℕ) → at + n ≤ i → give i ≡ None) → in-order give fs ≡ first-of give at n
all-in-order give zero at fs r c p = none-in-order give at fs r (λ i h. p i (let k : at + 0 ≤ i = omega (arith, h) in k))
all-in-order give (suc n) at fs r c p =
    let here : at ≤ at = omega arith in
    first-apart give at fs r
    ∙ ap (λ x. or_later x (in-order give (above at fs))) (if-there (is_among at fs) (give at) (c at here))
    ∙ ap (or_later (give at))
    (all-in-order give n (suc at) (above at fs) (rising-above at fs r)
    (λ i h a. let lt : at < i = omega (arith, h) in let le : at ≤ i = omega (arith, h) in c i le (among-above at i fs lt ∙ a))
    (λ i h. p i (let k : at + suc n ≤ i = omega (arith, h) in k)))

handed-first : (code : Code) (p : Bool) (block : List Instr) (give : ℕ → Option ℕ) (at : ℕ) (rest : List Instr) (heights : Heights) (to : ℕ)
    → ((k n : ℕ) → n ≡ at + k → give n ≡ handed_there code p block n (slice_get rest k) to (height_at heights k)) → first-of give at (length rest) ≡ handed code p block at rest heights to
handed-first code p block give at [] heights to e = refl
handed-first code p block give at (x ∷ rest) [] to e =
    ap (λ o. or_later o (first-of give (suc at) (length rest))) (e zero at (omega arith)) ∙ handed-first code p block give (suc at) rest [] to (λ k n s. e (suc k) n (omega (arith, s))) ∙ go rest
  where
    go : (xs : List Instr) → handed code p block (suc at) xs [] to ≡ None
    go [] = refl
    go (y ∷ xs) = refl
handed-first code p block give at (x ∷ rest) (h ∷ heights) to e =
    ap (λ o. or_later o (first-of give (suc at) (length rest))) (e zero at (omega arith))
    ∙ ap (or_later (handed_by code p block at x to h)) (handed-first code p block give (suc at) rest heights to (λ k n s. e (suc k) n (omega (arith, s))))

-- what has no new height hands on nothing
old-hands-nothing : (code : Code) (p : Bool) (block : List Instr) (at : ℕ) (o : Option Instr) (to : ℕ) (h : Option (ℕ × Bool)) → is_new h ≡ false → handed_there code p block at o to h ≡ None
old-hands-nothing code p block at None to h e = refl
old-hands-nothing code p block at (Some x) to None e = refl
old-hands-nothing code p block at (Some x) to (Some (height, true)) e = absurd cc
old-hands-nothing code p block at (Some x) to (Some (height, false)) e = refl

contains-among : (fs : List ℕ) (i k : ℕ) → k < length fs → get_or fs k i ≡ i → is_among i fs ≡ true
contains-among [] i k h e = absurd (omega (arith, h))
contains-among (f ∷ fs) i zero h e = ap (λ b. b || is_among i fs) (eq-eqb i f (sym e))
contains-among (f ∷ fs) i (suc k) h e = let lt : k < length fs = omega (arith, h) in ap (λ b. eqb i f || b) (contains-among fs i k lt e) ∙ or-true (eqb i f)

not-among : (fs : List ℕ) (i : ℕ) (b : Bool) → (b ≡ true → Contains fs i) → is_among i fs ≡ false → b ≡ false
not-among fs i true h e = let there = h refl in let f : true ≡ false = sym (contains-among fs i there.0 there.1 there.2) ∙ e in absurd cc
not-among fs i false h e = refl

order-is : (code : Code) (p : Bool) (block : List Instr) (heights : Heights) (fs : List ℕ) (to : ℕ) → handed_in code p block heights fs to ≡ in-order (λ f. handed_at code p block heights f to) fs
order-is code p block heights [] to = refl
order-is code p block heights (f ∷ fs) to = ap (or_later (handed_at code p block heights f to)) (order-is code p block heights fs to)

all-handed : (code : Code) (p : Bool) (block : List Instr) (heights : Heights) (fs : List ℕ) (to : ℕ) → Rising 0 fs → Covers fs heights → handed_in code p block heights fs to ≡ handed code p block 0 block heights to
all-handed code p block heights fs to r c =
    let give : ℕ → Option ℕ = λ f. handed_at code p block heights f to in
    order-is code p block heights fs to
    ∙ all-in-order give (length block) 0 fs r
    (λ i h a. old-hands-nothing code p block i (slice_get block i) to (height_at heights i) (not-among fs i (is_new (height_at heights i)) (c i) a))
    (λ i h. ap (λ o. handed_there code p block i o to (height_at heights i)) (slice_get_past block i (omega (arith, h))))
    ∙ handed-first code p block give 0 block heights to (λ k n s. let same : n ≡ k = omega (arith, s) in ap (λ m. handed_there code p block n (slice_get block m) to (height_at heights m)) same)

-- What is handed to a place comes by a way to it

if-some : (b : Bool) (n m : ℕ) → (if b then Some n else None) ≡ Some m → b ≡ true
if-some true n m e = refl
if-some false n m e = absurd cc

by-way : (code : Code) (p : Bool) (block : List Instr) (at : ℕ) (o : Option Instr) (to m : ℕ) (h : Option (ℕ × Bool)) → handed_there code p block at o to h ≡ Some m → is_among to (ways_at o at) ≡ true
by-way code p block at None to m h e = absurd cc
by-way code p block at (Some x) to m None e = absurd cc
by-way code p block at (Some x) to m (Some (height, true)) e =
    and-second (is_sound code p block at x && has_operands code x height) (is_among to (ways_from at x))
    (if-some (is_sound code p block at x && has_operands code x height && is_among to (ways_from at x)) (height_behind code x height) m e)
by-way code p block at (Some x) to m (Some (height, false)) e = absurd cc

by-ways : (code : Code) (p : Bool) (block : List Instr) (heights : Heights) (fs : List ℕ) (to m : ℕ) → handed_in code p block heights fs to ≡ Some m → is_among to (ways_in block fs) ≡ true
by-ways code p block heights [] to m e = absurd cc
by-ways code p block heights (f ∷ fs) to m e =
    among-both (ways_at (slice_get block f) f) (ways_in block fs) to ∙ go (handed_at code p block heights f to) refl (λ k. by-ways code p block heights fs to m k)
  where
    go : (o : Option ℕ) → handed_at code p block heights f to ≡ o → (handed_in code p block heights fs to ≡ Some m → is_among to (ways_in block fs) ≡ true) → is_among to (ways_at (slice_get block f) f) || is_among to (ways_in block fs) ≡ true
    go (Some n) s rest = ap (λ b. b || is_among to (ways_in block fs)) (by-way code p block f (slice_get block f) to n (height_at heights f) s)
    go None s rest =
        ap (λ b. is_among to (ways_at (slice_get block f) f) || b) (rest (sym (ap (λ x. or_later x (handed_in code p block heights fs to)) s) ∙ e)) ∙ or-true (is_among to (ways_at (slice_get block f) f))

-- A round

item-next : (f : ℕ → Option ℕ) (at : ℕ) (heights : Heights) (i : ℕ) → slice_get (next_heights f at heights) i ≡ option_map (λ h. given_height h (f (at + i))) (slice_get heights i)
item-next f at [] i = refl
item-next f at (h ∷ heights) zero = let here : at ≡ at + 0 = omega arith in ap (λ n. Some (given_height h (f n))) here
item-next f at (h ∷ heights) (suc i) = let there : suc at + i ≡ at + suc i = omega arith in item-next f (suc at) heights i ∙ ap (λ n. option_map (λ k. given_height k (f n)) (slice_get heights i)) there

settled-there : (fs : List ℕ) (i : ℕ) (h : Option (ℕ × Bool)) → (is_new h ≡ true → Contains fs i) → (if is_among i fs then settles i h else h) ≡ settles i h
settled-there fs i h c = go (is_among i fs) refl
  where
    old : (k : Option (ℕ × Bool)) → is_new k ≡ false → k ≡ settles i k
    old None e = refl
    old (Some (n, true)) e = absurd cc
    old (Some (n, false)) e = refl

    go : (b : Bool) → is_among i fs ≡ b → (if b then settles i h else h) ≡ settles i h
    go true e = refl
    go false e = old h (not-among fs i (is_new h) c e)

settled-all : (heights settled : Heights) (fs : List ℕ) → Covers fs heights → Changed heights fs settles settled → (i : ℕ) → slice_get settled i ≡ option_map (settles i) (slice_get heights i)
settled-all heights settled fs c s i = s i ∙ go (slice_get heights i) refl
  where
    go : (o : Option (Option (ℕ × Bool))) → slice_get heights i ≡ o → option_map (λ h. if is_among i fs then settles i h else h) o ≡ option_map (settles i) o
    go None e = refl
    go (Some h) e = ap Some (settled-there fs i h (λ n. c i (ap (λ x. is_new (or_none x)) e ∙ n)))

pub none-new : (heights settled : Heights) (fs : List ℕ) → Covers fs heights → Changed heights fs settles settled → Covers [] settled
none-new heights settled fs c s i n = absurd (go (slice_get heights i) (sym (ap (λ x. is_new (or_none x)) (settled-all heights settled fs c s i)) ∙ n))
  where
    go : (o : Option (Option (ℕ × Bool))) → is_new (or_none (option_map (settles i) o)) ≡ true → ⊥
    go None e = cc
    go (Some None) e = cc
    go (Some (Some q)) e = cc

-- what a place with this height takes
taken-there : (h : Option (ℕ × Bool)) (c : Option ℕ) (i : ℕ) (b : Bool) → ((m : ℕ) → c ≡ Some m → b ≡ true) → (if b then taken_now (settles i h) (or_later (first h) c) else settles i h) ≡ given_height h c
taken-there (Some q) c i true w = refl
taken-there (Some q) c i false w = refl
taken-there None None i true w = refl
taken-there None None i false w = refl
taken-there None (Some m) i true w = refl
taken-there None (Some m) i false w = absurd (let f : false ≡ true = w m refl in cc)

first-given : (h : Option (ℕ × Bool)) (c : Option ℕ) → or_later (first h) c ≡ first (given_height h c)
first-given (Some q) c = refl
first-given None None = refl
first-given None (Some m) = refl

given-there : (code : Code) (p : Bool) (block : List Instr) (heights : Heights) (fs : List ℕ) (given new : List (Option ℕ)) → AreFound fs heights given → TakesLater given (handed_in code p block heights fs) new
    → (i : ℕ) → slice_get new i ≡ option_map (λ h. or_later (first h) (handed code p block 0 block heights i)) (slice_get heights i)
given-there code p block heights fs given new found t i =
    t i
    ∙ ap (λ c. option_map (λ g. or_later g c) (slice_get given i)) (all-handed code p block heights fs i found.rising found.covers)
    ∙ ap (λ l. option_map (λ g. or_later g (handed code p block 0 block heights i)) (slice_get l i)) found.firsts
    ∙ ap (option_map (λ g. or_later g (handed code p block 0 block heights i))) (slice_get-map first heights i)
    ∙ go (slice_get heights i)
  where
    go : (o : Option (Option (ℕ × Bool))) → option_map (λ g. or_later g (handed code p block 0 block heights i)) (option_map first o) ≡ option_map (λ h. or_later (first h) (handed code p block 0 block heights i)) o
    go None = refl
    go (Some h) = refl

taken-place : (code : Code) (p : Bool) (block : List Instr) (heights settled taken : Heights) (fs : List ℕ) (given new : List (Option ℕ)) → AreFound fs heights given → TakesLater given (handed_in code p block heights fs) new
    → Changed heights fs settles settled → Changed settled (ways_in block fs) (takes new) taken
    → (i : ℕ) → slice_get taken i ≡ option_map (λ h. given_height h (handed code p block 0 block heights i)) (slice_get heights i)
taken-place code p block heights settled taken fs given new found t s k i =
    k i ∙ ap (option_map (λ h. if is_among i (ways_in block fs) then taken_now h (given_at new i) else h)) (settled-all heights settled fs found.covers s i) ∙ go (slice_get heights i) refl
  where
    way : (m : ℕ) → handed code p block 0 block heights i ≡ Some m → is_among i (ways_in block fs) ≡ true
    way m e = by-ways code p block heights fs i m (all-handed code p block heights fs i found.rising found.covers ∙ e)

    go : (o : Option (Option (ℕ × Bool))) → slice_get heights i ≡ o → option_map (λ h. if is_among i (ways_in block fs) then taken_now h (given_at new i) else h) (option_map (settles i) o) ≡ option_map (λ h. given_height h (handed code p block 0 block heights i)) o
    go None e = refl
    go (Some h) e =
        let there : given_at new i ≡ or_later (first h) (handed code p block 0 block heights i) =
        ap (λ o. unwrap_or o None) (given-there code p block heights fs given new found t i ∙ ap (option_map (λ y. or_later (first y) (handed code p block 0 block heights i))) e) in
        ap (λ g. Some (if is_among i (ways_in block fs) then taken_now (settles i h) g else settles i h)) there
        ∙ ap Some (taken-there h (handed code p block 0 block heights i) i (is_among i (ways_in block fs)) way)

pub round-heights : (code : Code) (p : Bool) (block : List Instr) (heights settled taken : Heights) (fs : List ℕ) (given new : List (Option ℕ)) → AreFound fs heights given → TakesLater given (handed_in code p block heights fs) new
    → Changed heights fs settles settled → Changed settled (ways_in block fs) (takes new) taken → taken ≡ next_heights (handed code p block 0 block heights) 0 heights
round-heights code p block heights settled taken fs given new found t s k = same-items taken (next_heights (handed code p block 0 block heights) 0 heights) (λ i.
    taken-place code p block heights settled taken fs given new found t s k i
    ∙ ap (λ n. option_map (λ h. given_height h (handed code p block 0 block heights n)) (slice_get heights i)) (let same : i ≡ 0 + i = omega arith in same)
    ∙ sym (item-next (handed code p block 0 block heights) 0 heights i))

pub round-firsts : (code : Code) (p : Bool) (block : List Instr) (heights settled taken : Heights) (fs : List ℕ) (given new : List (Option ℕ)) → AreFound fs heights given → TakesLater given (handed_in code p block heights fs) new
    → Changed heights fs settles settled → Changed settled (ways_in block fs) (takes new) taken → new ≡ map first taken
round-firsts code p block heights settled taken fs given new found t s k = same-items new (map first taken) (λ i.
    given-there code p block heights fs given new found t i ∙ go i (slice_get heights i) ∙ ap (option_map first) (sym (taken-place code p block heights settled taken fs given new found t s k i)) ∙ sym (slice_get-map first taken i))
  where
    go : (i : ℕ) (o : Option (Option (ℕ × Bool))) → option_map (λ h. or_later (first h) (handed code p block 0 block heights i)) o ≡ option_map first (option_map (λ h. given_height h (handed code p block 0 block heights i)) o)
    go i None = refl
    go i (Some h) = ap Some (first-given h (handed code p block 0 block heights i))

-- Sorted places

rising-items : (lo : ℕ) (ns : List ℕ) → ((j d : ℕ) → j < length ns → lo ≤ get_or ns j d) → ((i j d : ℕ) → i ≤ j → j < length ns → get_or ns i d ≤ get_or ns j d) → Rising lo ns
rising-items lo [] a h = tt
rising-items lo (n ∷ ns) a h = (
  a 0 0 (omega arith),
  rising-items n ns (λ j d l. h 0 (suc j) d (omega arith) (omega (arith, l))) (λ i j d le l. h (suc i) (suc j) d (omega (arith, le)) (omega (arith, l))),
)

pub sorted-rising : (ns : List ℕ) → IsSorted nat_cmp ns → Rising 0 ns
sorted-rising ns s = rising-items 0 ns (λ j d l. omega arith) (IsNonDecreasingBy-from_sort (λ (x : ℕ). x) ns s)

pub covers-sorted : (old new : List ℕ) (heights : Heights) → IsPermutation old new → Covers old heights → Covers new heights
covers-sorted old new heights m c i n = Contains-permutation old new i m (c i n)

-- Where no height is new, none comes

none-handed : (code : Code) (p : Bool) (block : List Instr) (at : ℕ) (rest : List Instr) (heights : Heights) (to : ℕ) → ((i : ℕ) → is_new (height_at heights i) ≡ false) → handed code p block at rest heights to ≡ None
none-handed code p block at [] heights to e = refl
none-handed code p block at (x ∷ rest) [] to e = refl
none-handed code p block at (x ∷ rest) (h ∷ heights) to e =
    ap (λ o. or_later o (handed code p block (suc at) rest heights to)) (old-hands-nothing code p block at (Some x) to h (e zero)) ∙ none-handed code p block (suc at) rest heights to (λ i. e (suc i))

stays : (h : Option (ℕ × Bool)) → is_new h ≡ false → given_height h None ≡ h
stays None e = refl
stays (Some (height, true)) e = absurd cc
stays (Some (height, false)) e = refl

next-stays : (f : ℕ → Option ℕ) (at : ℕ) (heights : Heights) → ((i : ℕ) → f i ≡ None) → ((i : ℕ) → is_new (height_at heights i) ≡ false) → next_heights f at heights ≡ heights
next-stays f at [] n e = refl
next-stays f at (h ∷ heights) n e =
    ap (λ o. given_height h o ∷ next_heights f (suc at) heights) (n at) ∙ ap (λ x. x ∷ next_heights f (suc at) heights) (stays h (e zero)) ∙ ap (λ l. h ∷ l) (next-stays f (suc at) heights n (λ i. e (suc i)))

rounds-still : (code : Code) (p : Bool) (block : List Instr) (n : ℕ) (heights : Heights) → ((i : ℕ) → is_new (height_at heights i) ≡ false) → rounds code p block n heights ≡ heights
rounds-still code p block zero heights e = refl
rounds-still code p block (suc n) heights e =
    ap (rounds code p block n) (next-stays (handed code p block 0 block heights) 0 heights (λ i. none-handed code p block 0 block heights i e) e) ∙ rounds-still code p block n heights e

pub rounds-stay : (code : Code) (p : Bool) (block : List Instr) (n : ℕ) (heights : Heights) (newest : List ℕ) → length newest ≡ 0 → Covers newest heights → rounds code p block n heights ≡ heights
rounds-stay code p block n heights newest none c = rounds-still code p block n heights (λ i. go i (is_new (height_at heights i)) refl)
  where
    go : (i : ℕ) (b : Bool) → is_new (height_at heights i) ≡ b → is_new (height_at heights i) ≡ false
    go i false e = e
    go i true e = let there = c i e in absurd (omega (arith, none, there.1))

pub rounds-step : (code : Code) (p : Bool) (block : List Instr) (m n : ℕ) (heights next : Heights) → m ≡ suc n → next ≡ next_heights (handed code p block 0 block heights) 0 heights
    → rounds code p block n next ≡ rounds code p block m heights
rounds-step code p block m n heights next e h = ap (rounds code p block n) h ∙ ap (λ k. rounds code p block k heights) (sym e)

pub new-within : (heights : Heights) (i : ℕ) → is_new (height_at heights i) ≡ true → i < length heights
new-within heights i e = go (slice_get heights i) refl e
  where
    go : (o : Option (Option (ℕ × Bool))) → slice_get heights i ≡ o → is_new (height_at heights i) ≡ true → i < length heights
    go (Some h) s n = slice_get_within heights i h s
    go None s n = absurd (let f : false ≡ true = sym (ap (λ x. is_new (or_none x)) s) ∙ n in cc)
