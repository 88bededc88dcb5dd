-- Ends that are handed over under other names, with types that are the same but for places.
use Rattle.std.proofs.Common.{◌≡◌, ◌∙◌, ◌⊎◌, inl, inr, refl, sym, ap, subst, Bool, true, false, ◌||◌, not, IsTrue, List, [], ◌∷◌, ◌++◌, Option, Some, None, map, length, if◌then◌else◌}
use Rattle.std.proofs.Math.Path.{fun_ext}
use Rattle.std.proofs.lemmas.Bool.{or_right}
use Rattle.campl_tree.specs.declared.place.Ident.{Ident}
use Rattle.campl_tree.specs.declared.service.Side.{Side}
use Rattle.campl_tree.specs.Plain.ChanType.{ChanType}
use Rattle.campl_machine.specs.Names.{End, same_end}
use Rattle.campl_machine.proofs.Same.{same_end-is, same_end-refl}
use Rattle.campl_machine.proofs.Updates.{split}
use Rattle.campl_machine.proofs.Ends.{apart}
use Rattle.campl_types.specs.Names.{Name, same_name, found, is_among, are_distinct}
use Rattle.campl_types.specs.World.{names_of}
use Rattle.campl_types.specs.Held.{Channel, On, Held, nothing_held, with}
use Rattle.campl_types.specs.Linear.{AreHanded, hold}
use Rattle.campl_types.proofs.Names.{same-itself, same-turned, split-names}
use Rattle.campl_peel.specs.Terms.{held_ends}
use Rattle.campl_meaning.specs.States.{Ends}
use Rattle.campl_meaning.specs.Bodies.{handed, one_more, both_ends}
use Rattle.campl_meaning.specs.Apart.{end_names}
use Rattle.campl_meaning.specs.Lawful.{Channels}
use Rattle.campl_meaning.proofs.Holding.{found-named}
use Rattle.campl_peel.proofs.Standing.{and-both}
use Rattle.campl_kept_quiet.specs.Quiet.{IsAlike}

-- Names

not-true : (a : Bool) → IsTrue (not a) → a ≡ true → ⊥
not-true true h i = absurd (cc h)
not-true false h i = absurd (cc i)

pub distinct-right : (xs ys : List Name) → IsTrue (are_distinct (xs ++ ys)) → IsTrue (are_distinct ys)
distinct-right [] ys h = h
distinct-right (x ∷ xs) ys h = distinct-right xs ys (and-both (not (is_among x (xs ++ ys))) (are_distinct (xs ++ ys)) h).1

pub names-append : (fs gs : Ends) → end_names (fs ++ gs) ≡ end_names fs ++ end_names gs
names-append [] gs = refl
names-append (f ∷ fs) gs = ap (λ z. f.0 ∷ z) (names-append fs gs)

-- Ends in lists

abbrev pub Among : End → Ends → Type 0
Among e [] = ⊥
Among e (f ∷ fs) = (f.1 ≡ e) ⊎ Among e fs

abbrev pub Differ : Ends → Type 0
Differ [] = Unit {0}
Differ (f ∷ fs) = (Among f.1 fs → ⊥) × Differ fs

abbrev pub is_end : End → Ends → Bool
is_end e [] = false
is_end e (f ∷ fs) = same_end f.1 e || is_end e fs

pub end-among : (e : End) (fs : Ends) → is_end e fs ≡ true → Among e fs
end-among e [] i = absurd (cc i)
end-among e (f ∷ fs) i = go (same_end f.1 e) refl i (end-among e fs)
  where
    go : (b : Bool) → same_end f.1 e ≡ b → (b || is_end e fs) ≡ true → (is_end e fs ≡ true → Among e fs) → Among e (f ∷ fs)
    go true j k later = inl (same_end-is f.1 e j)
    go false j k later = inr (later k)

pub among-end : (e : End) (fs : Ends) → Among e fs → is_end e fs ≡ true
among-end e [] a = absurd a
among-end e (f ∷ fs) (inl i) = rw (subst (λ z. same_end f.1 z ≡ true) i (same_end-refl f.1)) refl
among-end e (f ∷ fs) (inr a) = go (same_end f.1 e) (among-end e fs a)
  where
    go : (b : Bool) → is_end e fs ≡ true → (b || is_end e fs) ≡ true
    go true k = refl
    go false k = k

pub found-among : (y : Name) (fs : Ends) (e : End) → found y fs ≡ Some e → Among e fs
found-among y [] e i = absurd (cc i)
found-among y (f ∷ fs) e i = go (same_name y f.0) i (found-among y fs e)
  where
    go : (b : Bool) → (if b then Some f.1 else found y fs) ≡ Some e → (found y fs ≡ Some e → Among e fs) → Among e (f ∷ fs)
    go true j later = inl (cc j)
    go false j later = inr (later j)

-- an end in the list is found by its name
pub among-found : (fs : Ends) (e : End) → IsTrue (are_distinct (end_names fs)) → Among e fs → (x : Name) × (found x fs ≡ Some e)
among-found [] e h a = absurd a
among-found (f ∷ fs) e h (inl i) = (f.0, rw (same-itself f.0) (ap Some i))
among-found (f ∷ fs) e h (inr a) =
    let (n, k) = and-both (not (is_among f.0 (end_names fs))) (are_distinct (end_names fs)) h in
    let (x, g) = among-found fs e k a in
    (x, go x g n (split-names x f.0))
  where
    go : (x : Name) → found x fs ≡ Some e → IsTrue (not (is_among f.0 (end_names fs))) → (x ≡ f.0) ⊎ (same_name x f.0 ≡ false) → found x (f ∷ fs) ≡ Some e
    go x g n (inl i) = absurd (not-true (is_among f.0 (end_names fs)) n (subst (λ z. is_among z (end_names fs) ≡ true) i (found-named x fs e g)))
    go x g n (inr i) = rw i g

-- different ends have different names
pub one-name : (fs : Ends) (y z : Name) (e : End) → Differ fs → found y fs ≡ Some e → found z fs ≡ Some e → y ≡ z
one-name [] y z e h i j = absurd (cc i)
one-name (f ∷ fs) y z e (n, h) i j = go (split-names y f.0) (split-names z f.0) (one-name fs y z e h)
  where
    hit : (x : Name) → x ≡ f.0 → found x (f ∷ fs) ≡ Some e → f.1 ≡ e
    hit x k g = cc (rw (subst (λ q. same_name x q ≡ true) k (same-itself x)) at g)

    miss : (x : Name) → same_name x f.0 ≡ false → found x (f ∷ fs) ≡ Some e → found x fs ≡ Some e
    miss x k g = rw k at g

    go : (y ≡ f.0) ⊎ (same_name y f.0 ≡ false) → (z ≡ f.0) ⊎ (same_name z f.0 ≡ false) → (found y fs ≡ Some e → found z fs ≡ Some e → y ≡ z) → y ≡ z
    go (inl a) (inl b) later = a ∙ sym b
    go (inl a) (inr b) later = absurd (n (subst (λ q. Among q fs) (sym (hit y a i)) (found-among z fs e (miss z b j))))
    go (inr a) (inl b) later = absurd (n (subst (λ q. Among q fs) (sym (hit z b j)) (found-among y fs e (miss y a i))))
    go (inr a) (inr b) later = later (miss y a i) (miss z b j)

-- What is handed over

-- under these names stand the ends of that list
abbrev pub Are : Ends → List Name → Ends → Type 0
Are es [] [] = Unit {0}
Are es (x ∷ xs) (f ∷ fs) = (found x es ≡ Some f.1) × Are es xs fs
Are es [] (f ∷ fs) = ⊥
Are es (x ∷ xs) [] = ⊥

pub are-append : (es : Ends) (xs ys : List Name) (fs gs : Ends) → Are es xs fs → Are es ys gs → Are es (xs ++ ys) (fs ++ gs)
are-append es [] ys [] gs h k = k
are-append es (x ∷ xs) ys (f ∷ fs) gs (i, h) k = (i, are-append es xs ys fs gs h k)
are-append es [] ys (f ∷ fs) gs h k = absurd h
are-append es (x ∷ xs) ys [] gs h k = absurd h

pub handed-are : (ys xs : List Ident) (es fs : Ends) → handed ys xs es ≡ Some fs → Are es (names_of xs) fs × (end_names fs ≡ names_of ys)
handed-are [] [] es fs i = let j : [] ≡ fs = cc i in (subst (Are es []) j tt, ap end_names (sym j))
handed-are (y ∷ ys) (x ∷ xs) es fs i = go (found x.name es) refl (handed ys xs es) (handed-are ys xs es) i
  where
    go : (o : Option End) → found x.name es ≡ o → (q : Option Ends) → ((gs : Ends) → q ≡ Some gs → Are es (names_of xs) gs × (end_names gs ≡ names_of ys)) → one_more y.name o q ≡ Some fs
        → Are es (names_of (x ∷ xs)) fs × (end_names fs ≡ names_of (y ∷ ys))
    go None f q later j = absurd (cc j)
    go (Some e) f None later j = absurd (cc j)
    go (Some e) f (Some gs) later j =
        let (h, k) = later gs refl in
        let m : (y.name, e) ∷ gs ≡ fs = cc j in
        (subst (Are es (names_of (x ∷ xs))) m (f, h), sym (ap end_names m) ∙ ap (λ z. y.name ∷ z) k)
handed-are [] (x ∷ xs) es fs i = absurd (cc i)
handed-are (y ∷ ys) [] es fs i = absurd (cc i)

pub both-split : (a b : Option Ends) (es : Ends) → both_ends a b ≡ Some es → (fs : Ends) × (gs : Ends) × (a ≡ Some fs) × (b ≡ Some gs) × (fs ++ gs ≡ es)
both-split (Some fs) (Some gs) es i = (fs, gs, refl, refl, cc i)
both-split (Some fs) None es i = absurd (cc i)
both-split None b es i = absurd (cc i)

-- Types

-- the ends have these types but for places
abbrev pub Fit : Channels → Ends → List Channel → Type 0
Fit channel [] [] = Unit {0}
Fit channel (f ∷ fs) (c ∷ cs) = IsAlike (channel f.1) (Some c) × Fit channel fs cs
Fit channel [] (c ∷ cs) = ⊥
Fit channel (f ∷ fs) [] = ⊥

pub fit-append : (channel : Channels) (fs gs : Ends) (cs ds : List Channel) → Fit channel fs cs → Fit channel gs ds → Fit channel (fs ++ gs) (cs ++ ds)
fit-append channel [] gs [] ds h k = k
fit-append channel (f ∷ fs) gs (c ∷ cs) ds (i, h) k = (i, fit-append channel fs gs cs ds h k)
fit-append channel [] gs (c ∷ cs) ds h k = absurd h
fit-append channel (f ∷ fs) gs [] ds h k = absurd h

pub handed-fit : (channel : Channels) (es : Ends) (side : Side) (xs : List Ident) (ts : List ChanType) (fs : Ends) → AreHanded (held_ends channel es) side xs ts → Are es (names_of xs) fs → Fit channel fs (map (On side) ts)
handed-fit channel es side [] [] [] h k = tt
handed-fit channel es side (x ∷ xs) (t ∷ ts) (f ∷ fs) (u, i, j, h) (g, k) =
    let held : held_ends channel es x.name ≡ channel f.1 = rw g refl in
    let is : channel f.1 ≡ Some (On side u) = sym held ∙ i in
    (subst (λ z. IsAlike z (Some (On side t))) (sym is) (refl, j), handed-fit channel es side xs ts fs h k)
handed-fit channel es side [] [] (f ∷ fs) h k = absurd k
handed-fit channel es side (x ∷ xs) (t ∷ ts) [] h k = absurd k
handed-fit channel es side [] (t ∷ ts) fs h k = absurd h
handed-fit channel es side (x ∷ xs) [] fs h k = absurd h

-- the channels where these ends have these types
abbrev pub retyped : Ends → List Channel → Channels → Channels
retyped [] cs channel e = channel e
retyped (f ∷ fs) [] channel e = channel e
retyped (f ∷ fs) (c ∷ cs) channel e = if same_end f.1 e then Some c else retyped fs cs channel e

pub retyped-alike : (channel : Channels) (alike : (e : End) → IsAlike (channel e) (channel e)) (fs : Ends) (cs : List Channel) (e : End) → Fit channel fs cs → IsAlike (channel e) (retyped fs cs channel e)
retyped-alike channel alike [] [] e h = alike e
retyped-alike channel alike (f ∷ fs) (c ∷ cs) e (i, h) = elim (split (same_end f.1 e)) [
  | inl j ↦ rw j (subst (λ z. IsAlike (channel z) (Some c)) (same_end-is f.1 e j) i)
  | inr j ↦ rw j (retyped-alike channel alike fs cs e h)
]
retyped-alike channel alike [] (c ∷ cs) e h = absurd h
retyped-alike channel alike (f ∷ fs) [] e h = absurd h

pub retyped-others : (channel : Channels) (fs : Ends) (cs : List Channel) (e : End) → (Among e fs → ⊥) → retyped fs cs channel e ≡ channel e
retyped-others channel [] cs e n = refl
retyped-others channel (f ∷ fs) [] e n = refl
retyped-others channel (f ∷ fs) (c ∷ cs) e n = rw (apart f.1 e (λ i. n (inl i))) (retyped-others channel fs cs e (λ a. n (inr a)))

-- channels by lists of names and types
abbrev pub listed : List Name → List Channel → Held → Held
listed [] cs held = held
listed (y ∷ ys) [] held = held
listed (y ∷ ys) (c ∷ cs) held = with y (Some c) (listed ys cs held)

pub hold-listed : (side : Side) (xs : List Ident) (ts : List ChanType) (held : Held) → hold side xs ts held ≡ listed (names_of xs) (map (On side) ts) held
hold-listed side [] ts held = refl
hold-listed side (x ∷ xs) [] held = refl
hold-listed side (x ∷ xs) (t ∷ ts) held = ap (with x.name (Some (On side t))) (hold-listed side xs ts held)

pub listed-append : (ys zs : List Name) (cs ds : List Channel) (held : Held) → length ys ≡ length cs → listed (ys ++ zs) (cs ++ ds) held ≡ listed ys cs (listed zs ds held)
listed-append [] zs [] ds held i = refl
listed-append (y ∷ ys) zs (c ∷ cs) ds held i = ap (with y (Some c)) (listed-append ys zs cs ds held (cc i))
listed-append [] zs (c ∷ cs) ds held i = absurd (cc i)
listed-append (y ∷ ys) zs [] ds held i = absurd (cc i)

-- what is held by the ends is what the names and types say
held-retyped : (channel : Channels) (fs : Ends) (cs : List Channel) → Differ fs → Fit channel fs cs → (y : Name) → held_ends (retyped fs cs channel) fs y ≡ listed (end_names fs) cs nothing_held y
held-retyped channel [] [] n h y = refl
held-retyped channel (f ∷ fs) (c ∷ cs) (n, ns) (i, h) y = go (split-names y f.0) (held-retyped channel fs cs ns h y)
  where
    rest : (o : Option End) → found y fs ≡ o → held_ends (retyped (f ∷ fs) (c ∷ cs) channel) fs y ≡ held_ends (retyped fs cs channel) fs y
    rest None g = rw g refl
    rest (Some e) g = rw (g, apart f.1 e (λ j. n (subst (λ z. Among z fs) (sym j) (found-among y fs e g)))) refl

    go : (y ≡ f.0) ⊎ (same_name y f.0 ≡ false) → held_ends (retyped fs cs channel) fs y ≡ listed (end_names fs) cs nothing_held y → held_ends (retyped (f ∷ fs) (c ∷ cs) channel) (f ∷ fs) y ≡ listed (end_names (f ∷ fs)) (c ∷ cs) nothing_held y
    go (inl j) later =
        let a : same_name y f.0 ≡ true = subst (λ z. same_name y z ≡ true) j (same-itself y) in
        let b : same_name f.0 y ≡ true = same-turned f.0 y ∙ a in
        rw (a, b, same_end-refl f.1) refl
    go (inr j) later =
        let b : same_name f.0 y ≡ false = same-turned f.0 y ∙ j in
        rw (j, b) (rest (found y fs) refl ∙ later)
held-retyped channel [] (c ∷ cs) n h y = absurd h
held-retyped channel (f ∷ fs) [] n h y = absurd h

pub held-is : (channel : Channels) (fs : Ends) (cs : List Channel) → Differ fs → Fit channel fs cs → held_ends (retyped fs cs channel) fs ≡ listed (end_names fs) cs nothing_held
held-is channel fs cs n h = fun_ext (held-retyped channel fs cs n h)

-- Ends that are handed over

module _ (es : Ends) (once : (x y : Name) (e : End) → found x es ≡ Some e → found y es ≡ Some e → x ≡ y) where
  pub among-from : (xs : List Name) (fs : Ends) (e : End) → Are es xs fs → Among e fs → (x : Name) × (is_among x xs ≡ true) × (found x es ≡ Some e)
  among-from [] [] e h a = absurd a
  among-from (x ∷ xs) (f ∷ fs) e (i, h) (inl j) = (x, rw (same-itself x) refl, i ∙ ap Some j)
  among-from (x ∷ xs) (f ∷ fs) e (i, h) (inr a) =
      let (y, j, k) = among-from xs fs e h a in
      (y, or_right (same_name y x) (is_among y xs) j, k)
  among-from [] (f ∷ fs) e h a = absurd h
  among-from (x ∷ xs) [] e h a = absurd h

  -- and each end under one of the names is among them
  pub named-among : (xs : List Name) (fs : Ends) (x : Name) (e : End) → Are es xs fs → is_among x xs ≡ true → found x es ≡ Some e → Among e fs
  named-among [] [] x e h i f = absurd (cc i)
  named-among (y ∷ xs) (g ∷ fs) x e (j, h) i f = go (split-names x y) (λ k. named-among xs fs x e h k f)
    where
      go : (x ≡ y) ⊎ (same_name x y ≡ false) → (is_among x xs ≡ true → Among e fs) → Among e (g ∷ fs)
      go (inl k) later = inl (cc (sym j ∙ (ap (λ z. found z es) (sym k) ∙ f)))
      go (inr k) later = inr (later (rw k at i))
  named-among [] (g ∷ fs) x e h i f = absurd h
  named-among (y ∷ xs) [] x e h i f = absurd h

  pub are-differ : (xs : List Name) (fs : Ends) → Are es xs fs → IsTrue (are_distinct xs) → Differ fs
  are-differ [] [] h d = tt
  are-differ (x ∷ xs) (f ∷ fs) (i, h) d =
      let (n, k) = and-both (not (is_among x xs)) (are_distinct xs) d in (
        (λ a. let (y, j, g) = among-from xs fs f.1 h a in not-true (is_among x xs) n (subst (λ z. is_among z xs ≡ true) (once y x f.1 g i) j)),
        are-differ xs fs h k,
      )
  are-differ [] (f ∷ fs) h d = absurd h
  are-differ (x ∷ xs) [] h d = absurd h
