-- Calls of processes.
use Rattle.std.proofs.Common.{◌≡◌, ◌∙◌, refl, sym, ap, subst, ℕ, suc, Bool, true, false, not, ◌||◌, if◌then◌else◌, List, [], ◌∷◌, ◌++◌, length, Some, None, eqb, eqb-true, eq-eqb, true≢false}
use Rattle.campl_tree.specs.declared.place.Place.{Place}
use Rattle.campl_tree.specs.declared.place.Ident.{Ident}
use Rattle.campl_tree.specs.declared.service.Side.{Side}
use Rattle.campl_tree.specs.Plain.SeqType.{SeqType}
use Rattle.campl_tree.specs.Plain.ChanType.{ChanType}
use Rattle.campl_tree.specs.Plain.Expr as e
use Rattle.campl_tree.specs.Plain.Expr.{Exprs}
use Rattle.campl_types.specs.Names.{Name, same_name, is_among, are_distinct, found}
use Rattle.campl_types.specs.Substitution.{variables_of}
use Rattle.campl_types.specs.SameType.{IsSameChan}
use Rattle.campl_types.specs.SameTest.{same_chan}
use Rattle.campl_types.specs.World.{World, names_of}
use Rattle.campl_types.specs.Fits.{Vars}
use Rattle.campl_types.specs.Held.{Channel, On, Held, without}
use Rattle.campl_types.specs.Sequential.{Checked, HasType, PartsHaveTypes}
use Rattle.campl_types.specs.Linear.{AreHanded}
use Rattle.campl_types.proofs.Names.{same-is, same-itself}
use Rattle.campl_types.proofs.SameType.{chan-same, same-chan}
use Rattle.campl_seqcheck.specs.Judged as seq
use Rattle.campl_seqcheck.specs.Judged.{Fine, fine, Is, and_then}
use Rattle.campl_seqcheck.specs.Judging as values
use Rattle.campl_seqcheck.specs.Judging.{count_of}
use Rattle.campl_seqcheck.proofs.AgreesJudged as seqs
use Rattle.campl_seqcheck.proofs.AgreesSound.{at-wanted, judge-typed}
use Rattle.campl_seqcheck.proofs.AgreesAlike.{SameVars}
use Rattle.campl_seqcheck.proofs.AgreesComplete.{typed-judged}
use Rattle.campl_linear.specs.Holding.{Holding, as_held, given_up}
use Rattle.campl_linear.specs.Channels.{held_at, same_side}
use Rattle.campl_linear.specs.Calls.{values_fit, as_many, is_as_declared, as_declared, handed}
use Rattle.campl_linear.proofs.Turns.{in-turn}
use Rattle.campl_linear.proofs.Lists.{held-given-up, all_given_up}
use Rattle.campl_linear.proofs.Headings.{ArePlain}
use Rattle.campl_linear.proofs.Uses.{held-is, side-is, side-same}
use Rattle.campl_types.proofs.Truth.{and-first, and-second, and-both, or-first, or-second, as-false, or-none, no-both, not-true}
use Rattle.campl_types.proofs.Among.{Apart}
use Rattle.campl_types.specs.Values.{PartsAreKnown}
use Rattle.campl_types.proofs.Compose.{filled-nothing}

-- Values

module _ (w : World) (known : PartsAreKnown w) where
  pub values-typed : (vs : Vars) (names : List Name) (ts : List SeqType) (args : Exprs) (f : Fine) → ArePlain ts → count_of args ≡ length ts → values_fit w vs ts args ≡ seq.Is f
      → PartsHaveTypes w vs [] names ts args
  values-typed vs names [] e.no_exprs f h n i = tt
  values-typed vs names [] (e.expr_then a rest) f h n i = absurd (cc n)
  values-typed vs names (t ∷ ts) e.no_exprs f h n i = absurd (cc n)
  values-typed vs names (t ∷ ts) (e.expr_then a rest) f h n i =
      let j = seqs.in-turn (values.judge w vs a (Some t)) (λ u. values_fit w vs ts rest) f i in
      let k = at-wanted w vs a t j.0 (judge-typed w known vs a (Some t) j.0 j.1) in
      let p : variables_of t ≡ [] = h.0 in
      (rw p (subst (HasType Checked w vs a) (sym (filled-nothing t)) k), values-typed vs (names ++ variables_of t) ts rest f h.1 (cc n) j.2)

  pub typed-values : (vs us : Vars) → SameVars vs us → (names : List Name) (ts : List SeqType) (args : Exprs) → ArePlain ts → PartsHaveTypes w vs [] names ts args
      → (count_of args ≡ length ts) × (values_fit w us ts args ≡ seq.Is fine)
  typed-values vs us alike names [] e.no_exprs h d = (refl, refl)
  typed-values vs us alike names [] (e.expr_then a rest) h d = absurd d
  typed-values vs us alike names (t ∷ ts) e.no_exprs h d = absurd d
  typed-values vs us alike names (t ∷ ts) (e.expr_then a rest) h d =
      let p : variables_of t ≡ [] = h.0 in
      let k : HasType Checked w vs a t = subst (HasType Checked w vs a) (filled-nothing t) (rw p at d.0) in
      let q = typed-judged w known vs us alike a t (Some t) k refl in
      let r = typed-values vs us alike (names ++ variables_of t) ts rest h.1 d.1 in
      (ap suc r.0, rw q.1 r.1)

-- Numbers

pub many : (at : Place) (m n : ℕ) (f : Fine) → as_many at m n ≡ Is f → m ≡ n
many at m n f i = go (eqb m n) refl
  where
    go : (b : Bool) → eqb m n ≡ b → m ≡ n
    go true e = eqb-true m n e
    go false e = absurd (cc (rw e at i))

pub so-many : (at : Place) (m n : ℕ) → m ≡ n → as_many at m n ≡ Is fine
so-many at m n i = let e = eq-eqb m n i in rw e refl

-- Channels

declared-so : (x : Ident) (s : Side) (t : ChanType) (r : Side) (u : ChanType) (f : Fine) → as_declared x s t (On r u) ≡ Is f → (r ≡ s) × IsSameChan u t
declared-so x s t r u f i = go (is_as_declared s t (On r u)) refl
  where
    go : (b : Bool) → is_as_declared s t (On r u) ≡ b → (r ≡ s) × IsSameChan u t
    go true e = (side-is r s (and-first (same_side r s) (same_chan u t) e), chan-same u t (and-second (same_side r s) (same_chan u t) e))
    go false e = absurd (cc (rw e at i))

-- what is handed over behind a channel that is given up is held before, and another
behind : (s : Side) (x : Name) (held : Holding) (xs : List Ident) (ts : List ChanType) → AreHanded (as_held (given_up x held)) s xs ts
    → AreHanded (as_held held) s xs ts × (is_among x (names_of xs) ≡ false)
behind s x held [] [] h = (tt, refl)
behind s x held [] (t ∷ ts) h = absurd h
behind s x held (y ∷ ys) [] h = absurd h
behind s x held (y ∷ ys) (t ∷ ts) h =
    let k : without x (as_held held) y.name ≡ Some (On s h.0) = ap (λ (g : Held). g y.name) (sym (held-given-up x held)) ∙ h.1 in
    go (same_name x y.name) refl k (behind s x held ys ts h.3)
  where
    go : (b : Bool) → same_name x y.name ≡ b → (if b then None else found y.name held) ≡ Some (On s h.0) → AreHanded (as_held held) s ys ts × (is_among x (names_of ys) ≡ false)
        → AreHanded (as_held held) s (y ∷ ys) (t ∷ ts) × ((same_name x y.name || is_among x (names_of ys)) ≡ false)
    go true e k later = absurd (cc k)
    go false e k later = ((h.0, k, h.2, later.0), rw (e, later.1) refl)

before : (s : Side) (x : Name) (held : Holding) (xs : List Ident) (ts : List ChanType) → AreHanded (as_held held) s xs ts → is_among x (names_of xs) ≡ false
    → AreHanded (as_held (given_up x held)) s xs ts
before s x held [] [] h n = tt
before s x held [] (t ∷ ts) h n = absurd h
before s x held (y ∷ ys) [] h n = absurd h
before s x held (y ∷ ys) (t ∷ ts) h n =
    let m = or-none (same_name x y.name) (is_among x (names_of ys)) n in
    let p : same_name x y.name ≡ false = m.0 in
    let q : without x (as_held held) y.name ≡ Some (On s h.0) = rw p h.1 in
    (h.0, ap (λ (g : Held). g y.name) (held-given-up x held) ∙ q, h.2, before s x held ys ts h.3 m.1)

pub behind-all : (s : Side) (names : List Name) (held : Holding) (xs : List Ident) (ts : List ChanType) → AreHanded (as_held (all_given_up names held)) s xs ts
    → AreHanded (as_held held) s xs ts × Apart names (names_of xs)
behind-all s [] held xs ts h = (h, λ y i. absurd (true≢false (sym i)))
behind-all s (x ∷ names) held xs ts h =
    let k = behind-all s names (given_up x held) xs ts h in
    let l = behind s x held xs ts k.0 in
    (l.0, λ y i. go y (same_name y x) refl i (k.1 y) l.1)
  where
    go : (y : Name) (b : Bool) → same_name y x ≡ b → (b || is_among y names) ≡ true → (is_among y names ≡ true → is_among y (names_of xs) ≡ false) → is_among x (names_of xs) ≡ false → is_among y (names_of xs) ≡ false
    go y true e i later n = subst (λ z. is_among z (names_of xs) ≡ false) (sym (same-is y x e)) n
    go y false e i later n = later i

pub before-all : (s : Side) (names : List Name) (held : Holding) (xs : List Ident) (ts : List ChanType) → AreHanded (as_held held) s xs ts → Apart names (names_of xs)
    → AreHanded (as_held (all_given_up names held)) s xs ts
before-all s [] held xs ts h n = h
before-all s (x ∷ names) held xs ts h n =
    before-all s names (given_up x held) xs ts (before s x held xs ts h (n x (or-first (same_name x x) (is_among x names) (same-itself x)))) (λ y i. n y (or-second (same_name y x) (is_among y names) i))

pub record Handed (s : Side) (xs : List Ident) (ts : List ChanType) (held rest : Holding) : Type 0 where
  pub are : AreHanded (as_held held) s xs ts
  pub distinct : are_distinct (names_of xs) ≡ true
  pub rest_is : rest ≡ all_given_up (names_of xs) held

pub handed-so : (s : Side) (xs : List Ident) (ts : List ChanType) (held rest : Holding) → length xs ≡ length ts → handed s xs ts held ≡ Is rest → Handed s xs ts held rest
handed-so s [] [] held rest n i = let e : held ≡ rest = cc i in record { are = tt; distinct = refl; rest_is = sym e }
handed-so s [] (t ∷ ts) held rest n i = absurd (cc n)
handed-so s (x ∷ xs) [] held rest n i = absurd (cc n)
handed-so s (x ∷ xs) (t ∷ ts) held rest n i =
    let j = in-turn (held_at x held) (λ c. and_then (as_declared x s t c) (λ z. handed s xs ts (given_up x.name held))) rest i in
    let k = in-turn (as_declared x s t j.0) (λ z. handed s xs ts (given_up x.name held)) rest j.2 in
    one j.0 k.0 (held-is x held j.0 j.1) k.1 (handed-so s xs ts (given_up x.name held) rest (cc n) k.2)
  where
    one : (c : Channel) (f : Fine) → found x.name held ≡ Some c → as_declared x s t c ≡ Is f → Handed s xs ts (given_up x.name held) rest → Handed s (x ∷ xs) (t ∷ ts) held rest
    one (On r u) f e d h =
        let m = declared-so x s t r u f d in
        let l = behind s x.name held xs ts h.are in
        let p : is_among x.name (names_of xs) ≡ false = l.1 in
        record {
          are = (u, e ∙ ap (λ z. Some (On z u)) m.0, m.1, l.0);
          distinct = and-both (not (is_among x.name (names_of xs))) (are_distinct (names_of xs)) (rw p refl) h.distinct;
          rest_is = h.rest_is;
        }

pub so-handed : (s : Side) (xs : List Ident) (ts : List ChanType) (held : Holding) → AreHanded (as_held held) s xs ts → are_distinct (names_of xs) ≡ true
    → (length xs ≡ length ts) × (handed s xs ts held ≡ Is (all_given_up (names_of xs) held))
so-handed s [] [] held h d = (refl, refl)
so-handed s [] (t ∷ ts) held h d = absurd h
so-handed s (x ∷ xs) [] held h d = absurd h
so-handed s (x ∷ xs) (t ∷ ts) held h d =
    let n : is_among x.name (names_of xs) ≡ false = not-true (is_among x.name (names_of xs)) (and-first (not (is_among x.name (names_of xs))) (are_distinct (names_of xs)) d) in
    let r = so-handed s xs ts (given_up x.name held) (before s x.name held xs ts h.3 n) (and-second (not (is_among x.name (names_of xs))) (are_distinct (names_of xs)) d) in
    let p : found x.name held ≡ Some (On s h.0) = h.1 in
    let q : is_as_declared s t (On s h.0) ≡ true = and-both (same_side s s) (same_chan h.0 t) (side-same s) (same-chan h.0 t h.2) in
    (ap suc r.0, rw (p, q) r.1)

-- names that differ, in two lists
pub turned-apart : (xs ys : List Name) → Apart xs ys → Apart ys xs
turned-apart xs ys a y i = as-false (is_among y xs) (λ j. no-both (is_among y ys) i (a y j))
