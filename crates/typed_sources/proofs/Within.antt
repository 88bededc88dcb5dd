-- What is held, by the names outside of which nothing is. The facts for all names that end a derivation
-- follow from a list of names and a test that computes.
use Rattle.std.proofs.Common.{◌≡◌, ◌∙◌, ◌⊎◌, inl, inr, refl, sym, subst, Bool, true, false, ◌&&◌, ◌||◌, IsTrue, if◌then◌else◌, List, [], ◌∷◌, ◌++◌, Option, Some, None, true≢false}
use Rattle.std.proofs.lemmas.Option.{none-some}
use Rattle.std.proofs.lemmas.Bool.{or_from}
use Rattle.campl_tree.specs.declared.place.Ident.{Ident}
use Rattle.campl_tree.specs.declared.service.Side.{Side}
use Rattle.campl_tree.specs.declared.service.Side.TheVariants.{Input, Output}
use Rattle.campl_tree.specs.Plain.ChanType.{ChanType}
use Rattle.campl_tree.specs.Plain.Process.{Header}
use Rattle.campl_tree.specs.Plain.Decl.{ProcessDecl}
use Rattle.campl_types.specs.Names.{Name, same_name, is_among}
use Rattle.campl_types.specs.World.{names_of}
use Rattle.campl_types.specs.Held.{Channel, On, Held, nothing_held, with, only, HoldsOnly, HasNoVariables, is_closed}
use Rattle.campl_types.specs.Headers.{Links, share}
use Rattle.campl_types.specs.Linear.{hold, row_channels}
use Rattle.campl_types.proofs.Names.{same-turned, split-names}
use Rattle.campl_types.proofs.Truth.{and-first, and-second}

-- a record, so that names and what is held can be read off it
pub record Within (names : List Name) (held : Held) : Type 0 where
  pub elsewhere : HoldsOnly names held

-- Of a name that isn't among others

pub not-first : (p q : Bool) → (p || q) ≡ false → p ≡ false
not-first false q i = refl
not-first true q i = i

pub not-rest : (p q : Bool) → (p || q) ≡ false → q ≡ false
not-rest false q i = i
not-rest true q i = absurd (true≢false i)

pub not-left : (y : Name) (xs ys : List Name) → is_among y (xs ++ ys) ≡ false → is_among y xs ≡ false
not-left y [] ys i = refl
not-left y (x ∷ xs) ys i =
    or_from (same_name y x) (is_among y xs) (not-first (same_name y x) (is_among y (xs ++ ys)) i)
    (not-left y xs ys (not-rest (same_name y x) (is_among y (xs ++ ys)) i))

pub not-right : (y : Name) (xs ys : List Name) → is_among y (xs ++ ys) ≡ false → is_among y ys ≡ false
not-right y [] ys i = i
not-right y (x ∷ xs) ys i = not-right y xs ys (not-rest (same_name y x) (is_among y (xs ++ ys)) i)

-- What is held, as it is made

pub none : Within [] nothing_held
none = record { elsewhere = λ y i. refl }

at-other : (p : Bool) (c d : Option Channel) → p ≡ false → d ≡ None → (if p then c else d) ≡ None
at-other false c d i j = j
at-other true c d i j = absurd (true≢false i)

-- one more name, under which there is a channel or none
pub more : {x : Name} (c : Option Channel) {names : List Name} {held : Held} → Within names held → Within (x ∷ names) (with x c held)
more {x} c {names} {held} h =
    record {
      elsewhere = λ y i.
          at-other (same_name x y) c (held y) (same-turned x y ∙ not-first (same_name y x) (is_among y names) i)
          (h.elsewhere y (not-rest (same_name y x) (is_among y names) i));
    }

-- a part of what is held
pub kept : (keep : Name → Bool) {names : List Name} {held : Held} → Within names held → Within names (only keep held)
kept keep {names} {held} h = record { elsewhere = λ y i. go (keep y) (h.elsewhere y i) }
  where
    go : {c : Option Channel} (p : Bool) → c ≡ None → (if p then c else None) ≡ None
    go true j = j
    go false j = refl

-- a share of a plug, by the names of its header
pub shared : (links : Links) (held : Held) (h : Header) → Within (names_of h.outputs ++ names_of h.inputs) (share links held h)
shared links held h =
    record {
      elsewhere = λ y i.
          rw (not-left y (names_of h.outputs) (names_of h.inputs) i, not-right y (names_of h.outputs) (names_of h.inputs) i) refl;
    }

hold-within : (s : Side) (xs : List Ident) (ts : List ChanType) (names : List Name) (held : Held) → Within names held → Within (names_of xs ++ names) (hold s xs ts held)
hold-within s [] ts names held h = h
hold-within s (x ∷ xs) [] names held h = record { elsewhere = λ y i. h.elsewhere y (not-right y (names_of (x ∷ xs)) names i) }
hold-within s (x ∷ xs) (t ∷ ts) names held h = more _ (hold-within s xs ts names held h)

-- the channels of a process, by the names of its row
pub of-row : (p : ProcessDecl) → Within (names_of p.row.inputs ++ (names_of p.row.outputs ++ [])) (row_channels p)
of-row p =
    hold-within Input p.row.inputs p.inputs (names_of p.row.outputs ++ []) (hold Output p.row.outputs p.outputs nothing_held)
    (hold-within Output p.row.outputs p.outputs [] nothing_held none)

-- What follows by a test

-- a test of each channel
abbrev pub all_held : (Name → Option Channel → Bool) → List Name → Held → Bool
all_held test [] held = true
all_held test (x ∷ xs) held = test x (held x) && all_held test xs held

abbrev is_free : Option Channel → Bool
is_free None = true
is_free (Some c) = false

abbrev pub is_gone : List Name → Name → Option Channel → Bool
is_gone names x c = is_among x names || is_free c

abbrev pub is_plain : Name → Option Channel → Bool
is_plain x None = true
is_plain x (Some (On s t)) = is_closed t

-- a name among the tested ones passes the test
pub passes : (test : Name → Option Channel → Bool) (names : List Name) (held : Held) (y : Name) → IsTrue (all_held test names held) → (is_among y names ≡ false) ⊎ IsTrue (test y (held y))
passes test [] held y t = inl refl
passes test (x ∷ xs) held y t =
    go (split-names y x) (passes test xs held y (and-second (test x (held x)) (all_held test xs held) t))
  where
    go : (y ≡ x) ⊎ (same_name y x ≡ false) → (is_among y xs ≡ false) ⊎ IsTrue (test y (held y)) → (is_among y (x ∷ xs) ≡ false) ⊎ IsTrue (test y (held y))
    go (inl i) other = inr (subst (λ z. IsTrue (test z (held z))) (sym i) (and-first (test x (held x)) (all_held test xs held) t))
    go (inr i) (inl j) = inl (or_from (same_name y x) (is_among y xs) i j)
    go (inr i) (inr j) = inr j

-- only these names are held: each other name is held no more
pub alone : {names : List Name} (left : List Name) {held : Held} → Within names held → IsTrue (all_held (is_gone left) names held) → HoldsOnly left held
alone {names} left {held} h t y i = go (passes (is_gone left) names held y t)
  where
    free : (c : Option Channel) → IsTrue (is_free c) → c ≡ None
    free None j = refl
    free (Some c) j = absurd (true≢false (sym j))

    gone : (p : Bool) (c : Option Channel) → p ≡ false → IsTrue (p || is_free c) → c ≡ None
    gone false c j k = free c k
    gone true c j k = absurd (true≢false j)

    go : (is_among y names ≡ false) ⊎ IsTrue (is_gone left y (held y)) → held y ≡ None
    go (inl j) = h.elsewhere y j
    go (inr j) = gone (is_among y left) (held y) i j

-- no type variable stands in what is held
pub closed : {names : List Name} {held : Held} → Within names held → IsTrue (all_held is_plain names held) → HasNoVariables held
closed {names} {held} h test x s t i = go (passes is_plain names held x test)
  where
    go : (is_among x names ≡ false) ⊎ IsTrue (is_plain x (held x)) → IsTrue (is_closed t)
    go (inl j) = absurd (none-some (On s t) (sym (h.elsewhere x j) ∙ i))
    go (inr j) = subst (λ c. IsTrue (is_plain x c)) i j
