-- What is read is in the grammar. What is refused could have gone on up to the refused token.
use Rattle.std.proofs.Common.{◌≡◌, inl, inr, ℕ, suc, ◌+◌, ◌≤◌, Bool, true, false, not, if◌then◌else◌, List, [], ◌∷◌, ◌++◌, length, Ok, Err, refl, sym, ◌∙◌, ap, subst, arith, nat_le, append_assoc}
use Rattle.campl_gram.specs.declared.fault.Fault.{Fault}
use Rattle.campl_gram.specs.declared.fault.Fault.TheVariants.{Unexpected, TooDeep}
use Rattle.campl_gram.specs.Grammar.{Terminals, Piece, tok, pure, seq, alt, deeper, at, nt, place_at, Nested, bare, Shallow}
use Rattle.campl_gram.specs.Grammar as grammar
use Rattle.campl_gram.specs.Reading.{Tables, Outcome, and_then, expect, is_any, next_in}
use Rattle.campl_gram.specs.Reading as reading
use Rattle.campl_gram.specs.Tests.{Distinct}
use Rattle.campl_gram.specs.Tests as tests
use Rattle.campl_gram.proofs.Sets.{and-left, and-right, not-true}
use Rattle.campl_gram.proofs.Fuel.{need, Leaves}
use Rattle.campl_gram.proofs.Fuel as fuel

-- ---- lists

-- the same token comes first
abbrev pub Alike : {T : Type 0} → List T → List T → Type 0
Alike [] [] = Unit {0}
Alike [] (t ∷ ts) = ⊥
Alike (t ∷ ts) [] = ⊥
Alike (t ∷ ts) (u ∷ us) = t ≡ u

-- behind the same tokens they are alike
alike-after : {T : Type 0} (u r z : List T) → Alike r z → Alike (u ++ r) (u ++ z)
alike-after [] r z h = h
alike-after (t ∷ u) r z h = refl

-- their next tokens are of the same kinds
alike-next : {T K P : Type 0} (s : Terminals T K P) (ks : List K) (r z : List T) → Alike r z → next_in s ks r ≡ next_in s ks z
alike-next s ks [] [] h = refl
alike-next s ks [] (t ∷ ts) h = absurd h
alike-next s ks (t ∷ ts) [] h = absurd h
alike-next s ks (t ∷ ts) (u ∷ us) h = ap (is_any s ks) h

-- and at the same place
alike-place : {T K P : Type 0} (s : Terminals T K P) (r z : List T) → Alike r z → place_at s r ≡ place_at s z
alike-place s [] [] h = refl
alike-place s [] (t ∷ ts) h = absurd h
alike-place s (t ∷ ts) [] h = absurd h
alike-place s (t ∷ ts) (u ∷ us) h = ap s.place h

-- tokens of two lists with their nesting
pub bare-append : {T : Type 0} (p q : List (Nested T)) → bare (p ++ q) ≡ bare p ++ bare q
bare-append [] q = refl
bare-append (x ∷ p) q = ap (λ l. x.0 ∷ l) (bare-append p q)

-- two lists within the limit
pub shallow-append : {T : Type 0} (limit : ℕ) (p q : List (Nested T)) → Shallow limit p → Shallow limit q → Shallow limit (p ++ q)
shallow-append limit [] q h k = k
shallow-append limit (x ∷ p) q h k = (h.0, shallow-append limit p q h.1 k)

-- ---- what is shown

-- where a refused token would have stood
abbrev pub Breaks : {T : Type 0} → ℕ → Fault → List T → List (Nested T) → Type 0
Breaks limit Unexpected us more = Unit {0}
Breaks limit TooDeep us [] = ⊥
Breaks {T} limit TooDeep us (p ∷ more) = (nat_le p.1 limit ≡ false) × (vs : List T) × (us ≡ p.0 ∷ vs)

-- it stands there also where more follows
breaks-more : {T : Type 0} (limit : ℕ) (e : Fault) (us : List T) (more q : List (Nested T)) → Breaks limit e us more → Breaks limit e us (more ++ q)
breaks-more limit Unexpected us more q h = tt
breaks-more limit TooDeep us [] q h = absurd h
breaks-more limit TooDeep us (p ∷ more) q h = h

-- the place of tokens is that of a front of them that has a token
front-place : {T K P : Type 0} (s : Terminals T K P) (u us ts : List T) → ts ≡ u ++ us → length us + 1 ≤ length ts → place_at s ts ≡ place_at s u
front-place s [] us ts e h = absurd (omega (arith, ap length e))
front-place s (t ∷ u) us ts e h = ap (place_at s) e

module _ {T K P : Type 0} (s : Terminals T K P) (N : Type 0) (Sem : N → Type 0) where
  -- a piece that can be finished
  abbrev pub Lives : {A : Type 0} → ((m : N) → ℕ → List (Nested T) → Sem m → Type 0) → Piece T K P N Sem A → Type 0
  Lives {A} h g = (d : ℕ) → (w : List (Nested T)) × (x : A) × grammar.Has s N Sem h g d w x

  -- each piece that something stands before can be finished
  abbrev pub AllLive : {A : Type 0} → ((m : N) → ℕ → List (Nested T) → Sem m → Type 0) → Piece T K P N Sem A → Type 0
  AllLive h (tok k) = Unit {0}
  AllLive h (pure x) = Unit {0}
  AllLive h (seq f a b) = AllLive h a × AllLive h b × Lives h b
  AllLive h (alt a b) = AllLive h a × AllLive h b
  AllLive h (deeper g) = AllLive h g
  AllLive h (at g) = AllLive h g
  AllLive h (nt m) = Unit {0}

module _ {T K P : Type 0} (s : Terminals T K P) (N : Type 0) (Sem : N → Type 0) (tables : Tables K N) (same : K → K → Bool) (laws : Distinct s same) (limit : ℕ) where
  -- something that reads each name
  abbrev Reader : Type 0
  Reader = (m : N) → ℕ → List T → Outcome T (Sem m)

  -- something said of the tokens of each name
  abbrev Meaning : Type 1
  Meaning = (m : N) → ℕ → List (Nested T) → Sem m → Type 0

  -- reads a piece
  abbrev by : {A : Type 0} → Reader → Piece T K P N Sem A → ℕ → List T → Outcome T A
  by = reading.read_by s N Sem tables limit

  -- whether a piece may have no token
  abbrev may : {A : Type 0} → Piece T K P N Sem A → Bool
  may = reading.nullable tables

  -- the kinds with which it may begin
  abbrev firsts : {A : Type 0} → Piece T K P N Sem A → List K
  firsts = reading.first tables

  -- what is said of a piece
  abbrev Has : {A : Type 0} → Meaning → Piece T K P N Sem A → ℕ → List (Nested T) → A → Type 0
  Has = grammar.Has s N Sem

  -- the tokens u were read, and lead to this outcome
  abbrev pub Means : {A : Type 0} → Meaning → Piece T K P N Sem A → ℕ → List T → Outcome T A → Type 0
  Means h g d u (Ok x, us) = (w : List (Nested T)) × (bare w ≡ u) × Shallow limit w × Has h g d w x
  Means {A} h g d u (Err e, us) = (w : List (Nested T)) × (more : List (Nested T)) × (x : A) × (bare w ≡ u) × Shallow limit w × Has h g d (w ++ more) x × Breaks limit e us more

  -- All that is shown of an outcome.
  pub record Good {A : Type 0} (r : Reader) (h : Meaning) (g : Piece T K P N Sem A) (d : ℕ) (ts : List T) (o : Outcome T A) : Type 0 where
    -- the tokens that were read
    pub u : List T
    pub split : ts ≡ u ++ o.1
    -- the outcome depends on no token behind the refused one
    pub local : (z : List T) → Alike o.1 z → by r g d (u ++ z) ≡ (o.0, z)
    pub means : Means h g d u o

  -- no place is wanted of no token
  abbrev placed : {A : Type 0} → Piece T K P N Sem A → Bool
  placed = tests.placed tables

  module _ (r : Reader) (h : Meaning) (short : fuel.LeavesAll s N Sem tables limit r)
      (all : (m : N) (d : ℕ) (ts : List T) → Good r h (nt m) d ts (r m d ts)) where
    -- a token that is wanted at the end
    good-none : (k : K) (d : ℕ) → Good r h (tok k) d [] (Err Unexpected, [])
    good-none k d = record {
      u = [];
      split = refl;
      local = same-end;
      means = ([], (laws.sample k, d) ∷ [], laws.sample k, refl, tt, (laws.sampled k, refl), tt);
    }
      where
        same-end : (z : List T) → Alike [] z → expect s limit k d z ≡ (Err Unexpected, z)
        same-end [] e = refl
        same-end (t ∷ z) e = absurd e

    -- a token that is wanted and one that is there
    good-tok : (k : K) (d : ℕ) (t : T) (ts : List T) (b c : Bool) → s.fits k t ≡ b → nat_le d limit ≡ c
        → Good r h (tok k) d (t ∷ ts) (if b then (if c then (Ok t, ts) else (Err TooDeep, t ∷ ts)) else (Err Unexpected, t ∷ ts))
    good-tok k d t ts true true e l = record {
      u = t ∷ [];
      split = refl;
      local = λ z al. rw (e, l);
      means = ((t, d) ∷ [], refl, (l, tt), (e, refl));
    }
    good-tok k d t ts true false e l = record {
      u = [];
      split = refl;
      local = deep;
      means = ([], (t, d) ∷ [], t, refl, tt, (e, refl), (l, ts, refl));
    }
      where
        deep : (z : List T) → Alike (t ∷ ts) z → expect s limit k d z ≡ (Err TooDeep, z)
        deep [] al = absurd al
        deep (x ∷ z) al = let e' : s.fits k x ≡ true = ap (λ y. s.fits k y) (sym al) ∙ e in rw (e', l)
    good-tok k d t ts false c e l = record {
      u = [];
      split = refl;
      local = other;
      means = ([], (laws.sample k, d) ∷ [], laws.sample k, refl, tt, (laws.sampled k, refl), tt);
    }
      where
        other : (z : List T) → Alike (t ∷ ts) z → expect s limit k d z ≡ (Err Unexpected, z)
        other [] al = absurd al
        other (x ∷ z) al = let e' : s.fits k x ≡ false = ap (λ y. s.fits k y) (sym al) ∙ e in rw e'

    -- two pieces read depend on no more than the second does
    two-local : {A B C : Type 0} (f : A → B → C) (a : Piece T K P N Sem A) (b : Piece T K P N Sem B) (d : ℕ) (ts : List T) (x : A) (us : List T) (o : Outcome T B)
        (ga : Good r h a d ts (Ok x, us)) (gb : Good r h b d us o) (z : List T) → Alike o.1 z
        → by r (seq f a b) d ((ga.u ++ gb.u) ++ z) ≡ and_then (o.0, z) (λ y vs. (Ok (f x y), vs))
    two-local f a b d ts x us o ga gb z al =
        ap (by r (seq f a b) d) (append_assoc ga.u gb.u z)
        ∙ ap (λ o. and_then o (λ x us. and_then (by r b d us) (λ y vs. (Ok (f x y), vs))))
        (ga.local (gb.u ++ z) (subst (λ l. Alike l (gb.u ++ z)) (sym gb.split) (alike-after gb.u o.1 z al)))
        ∙ ap (λ o. and_then o (λ y vs. (Ok (f x y), vs))) (gb.local z al)

    -- a piece read behind another
    good-two : {A B C : Type 0} (f : A → B → C) (a : Piece T K P N Sem A) (b : Piece T K P N Sem B) (d : ℕ) (ts : List T) (x : A) (us : List T)
        (o : Outcome T B) → Good r h a d ts (Ok x, us) → Good r h b d us o → Good r h (seq f a b) d ts (and_then o (λ y vs. (Ok (f x y), vs)))
    good-two f a b d ts x us (Ok y, vs) ga gb = record {
      u = ga.u ++ gb.u;
      split = ga.split ∙ ap (λ l. ga.u ++ l) gb.split ∙ sym (append_assoc ga.u gb.u vs);
      local = λ z al. two-local f a b d ts x us (Ok y, vs) ga gb z al;
      means = (
        ga.means.0 ++ gb.means.0,
        bare-append ga.means.0 gb.means.0 ∙ ap (λ l. l ++ bare gb.means.0) ga.means.1 ∙ ap (λ l. ga.u ++ l) gb.means.1,
        shallow-append limit ga.means.0 gb.means.0 ga.means.2 gb.means.2,
        (x, y, ga.means.0, gb.means.0, ga.means.3, gb.means.3, refl, refl),
      );
    }
    good-two f a b d ts x us (Err e, vs) ga gb = record {
      u = ga.u ++ gb.u;
      split = ga.split ∙ ap (λ l. ga.u ++ l) gb.split ∙ sym (append_assoc ga.u gb.u vs);
      local = λ z al. two-local f a b d ts x us (Err e, vs) ga gb z al;
      means = (
        ga.means.0 ++ gb.means.0,
        gb.means.1,
        f x gb.means.2,
        bare-append ga.means.0 gb.means.0 ∙ ap (λ l. l ++ bare gb.means.0) ga.means.1 ∙ ap (λ l. ga.u ++ l) gb.means.3,
        shallow-append limit ga.means.0 gb.means.0 ga.means.2 gb.means.4,
        (x, gb.means.2, ga.means.0, gb.means.0 ++ gb.means.1, ga.means.3, gb.means.5, append_assoc ga.means.0 gb.means.0 gb.means.1, refl),
        gb.means.6,
      );
    }

    -- the one and then the other
    good-seq : {A B C : Type 0} (f : A → B → C) (a : Piece T K P N Sem A) (b : Piece T K P N Sem B) → Lives s N Sem h b → (d : ℕ) (ts : List T)
        (o : Outcome T A) → Good r h a d ts o → ((us : List T) → Good r h b d us (by r b d us))
        → Good r h (seq f a b) d ts (and_then o (λ x us. and_then (by r b d us) (λ y vs. (Ok (f x y), vs))))
    good-seq f a b live d ts (Err e, us) ga gb = let m = ga.means in let y = live d in record {
      u = ga.u;
      split = ga.split;
      local = λ z al. ap (λ o. and_then o (λ x us. and_then (by r b d us) (λ y vs. (Ok (f x y), vs)))) (ga.local z al);
      means = (m.0, m.1 ++ y.0, f m.2 y.1, m.3, m.4, (m.2, y.1, m.0 ++ m.1, y.0, m.5, y.2, sym (append_assoc m.0 m.1 y.0), refl), breaks-more limit e us m.1 y.0 m.6);
    }
    good-seq f a b live d ts (Ok x, us) ga gb = good-two f a b d ts x us (by r b d us) ga (gb us)

    -- what the one means both mean
    means-left : {A : Type 0} (a b : Piece T K P N Sem A) (d : ℕ) (u : List T) (o : Outcome T A) → Means h a d u o → Means h (alt a b) d u o
    means-left a b d u (Ok x, us) m = (m.0, m.1, m.2, inl m.3)
    means-left a b d u (Err e, us) m = (m.0, m.1, m.2, m.3, m.4, inl m.5, m.6)

    -- what the other means both mean
    means-right : {A : Type 0} (a b : Piece T K P N Sem A) (d : ℕ) (u : List T) (o : Outcome T A) → Means h b d u o → Means h (alt a b) d u o
    means-right a b d u (Ok x, us) m = (m.0, m.1, m.2, inr m.3)
    means-right a b d u (Err e, us) m = (m.0, m.1, m.2, m.3, m.4, inr m.5, m.6)

    -- what a piece means one deeper
    means-deeper : {A : Type 0} (g : Piece T K P N Sem A) (d : ℕ) (u : List T) (o : Outcome T A) → Means h g (suc d) u o → Means h (deeper g) d u o
    means-deeper g d u (Ok x, us) m = m
    means-deeper g d u (Err e, us) m = m

    -- the one or the other
    good-alt : {A : Type 0} (a b : Piece T K P N Sem A) (d : ℕ) (ts : List T) (c : Bool) → next_in s (firsts a) ts ≡ c
        → Good r h a d ts (by r a d ts) → Good r h b d ts (by r b d ts) → Good r h (alt a b) d ts (if c then by r a d ts else by r b d ts)
    good-alt a b d ts true e ga gb = record {
      u = ga.u;
      split = ga.split;
      local = λ z al. ap (λ c. if c then by r a d (ga.u ++ z) else by r b d (ga.u ++ z))
          (sym (ap (next_in s (firsts a)) ga.split ∙ alike-next s (firsts a) _ _ (alike-after ga.u _ z al)) ∙ e) ∙ ga.local z al;
      means = means-left a b d ga.u (by r a d ts) ga.means;
    }
    good-alt a b d ts false e ga gb = record {
      u = gb.u;
      split = gb.split;
      local = λ z al. ap (λ c. if c then by r a d (gb.u ++ z) else by r b d (gb.u ++ z))
          (sym (ap (next_in s (firsts a)) gb.split ∙ alike-next s (firsts a) _ _ (alike-after gb.u _ z al)) ∙ e) ∙ gb.local z al;
      means = means-right a b d gb.u (by r b d ts) gb.means;
    }

    -- a piece with its place
    good-at : {A : Type 0} (g : Piece T K P N Sem (P → A)) (d : ℕ) (ts : List T) (o : Outcome T (P → A)) → Leaves false o ts → Good r h g d ts o
        → Good r h (at g) d ts (and_then o (λ f us. (Ok (f (place_at s ts)), us)))
    good-at g d ts (Ok f, us) l gg = record {
      u = gg.u;
      split = gg.split;
      local = λ z al. ap (λ o. and_then o (λ f us. (Ok (f (place_at s (gg.u ++ z))), us))) (gg.local z al)
          ∙ ap (λ p. (Ok (f p), z)) (sym (ap (place_at s) gg.split ∙ alike-place s _ _ (alike-after gg.u us z al)));
      means = (gg.means.0, gg.means.1, gg.means.2, (f, gg.means.3, ap f (front-place s gg.u us ts gg.split l ∙ ap (place_at s) (sym gg.means.1))));
    }
    good-at g d ts (Err e, us) l gg = let m = gg.means in record {
      u = gg.u;
      split = gg.split;
      local = λ z al. ap (λ o. and_then o (λ f us. (Ok (f (place_at s (gg.u ++ z))), us))) (gg.local z al);
      means = (m.0, m.1, m.2 (place_at s (bare (m.0 ++ m.1))), m.3, m.4, (m.2, m.5, refl), m.6);
    }

    -- A piece is read as it should be, if names are.
    pub good : {A : Type 0} (g : Piece T K P N Sem A) → AllLive s N Sem h g → placed g ≡ true → (d : ℕ) (ts : List T) → Good r h g d ts (by r g d ts)
    good (tok k) live place d [] = good-none k d
    good (tok k) live place d (t ∷ ts) = good-tok k d t ts (s.fits k t) (nat_le d limit) refl refl
    good (pure x) live place d ts = record { u = []; split = refl; local = λ z e. refl; means = ([], refl, tt, (refl, refl)) }
    good (seq f a b) live place d ts = good-seq f a b live.2 d ts (by r a d ts) (good a live.0 (and-left (placed a) (placed b) place) d ts) (λ us. good b live.1 (and-right (placed a) (placed b) place) d us)
    good (alt a b) live place d ts =
        good-alt a b d ts (next_in s (firsts a) ts) refl (good a live.0 (and-left (placed a) (placed b) place) d ts) (good b live.1 (and-right (placed a) (placed b) place) d ts)
    good (deeper g) live place d ts =
        let gg = good g live place (suc d) ts in
        record { u = gg.u; split = gg.split; local = gg.local; means = means-deeper g d gg.u (by r g (suc d) ts) gg.means }
    good (at g) live place d ts =
        good-at g d ts (by r g d ts)
        (subst (λ p. Leaves p (by r g d ts) ts) (not-true (may g) (and-left (not (may g)) (placed g) place)) (fuel.leaves s N Sem tables limit r short g d ts))
        (good g live (and-right (not (may g)) (placed g) place) d ts)
    good (nt m) live place d ts = all m d ts
