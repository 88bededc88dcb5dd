-- A grammar that passes the test is read exactly.
use Rattle.std.proofs.Common.{◌≡◌, ℕ, zero, suc, ◌+◌, ◌*◌, ◌≤◌, ◌<◌, Bool, true, false, List, [], ◌∷◌, ◌++◌, length, Ok, Err, refl, sym, ◌∙◌, ap, subst, arith, append-nil, mul-le-mul_left, length-append}
use Rattle.campl_gram.specs.declared.fault.Fault.TheVariants.{Unexpected, TooDeep}
use Rattle.campl_gram.specs.Grammar.{Terminals, Piece, nt, Nested, bare, Shallow, place_at}
use Rattle.campl_gram.specs.Grammar as grammar
use Rattle.campl_gram.specs.Reading.{Tables, Outcome, is_any, next_in}
use Rattle.campl_gram.specs.Reading as reading
use Rattle.campl_gram.specs.Verdicts.{finish, Stops, Sinks, Answers}
use Rattle.campl_gram.specs.Tests.{Distinct, Passes}
use Rattle.campl_gram.specs.Tests as tests
use Rattle.campl_gram.proofs.Sets.{inside, next-within}
use Rattle.campl_gram.proofs.Fuel.{Leaves}
use Rattle.campl_gram.proofs.Fuel as fuel
use Rattle.campl_gram.proofs.Found.{Alike, Breaks, bare-append}
use Rattle.campl_gram.proofs.Found as found
use Rattle.campl_gram.proofs.Only.{verdict}
use Rattle.campl_gram.proofs.Only as only
use Rattle.campl_gram.proofs.Verdict.{cancel, never-unexpected, verdict-rest, verdict-value, deep-at, verdict-shallow, deepest, shallow-deepest}
use Rattle.campl_gram.proofs.Passed.{Passed}
use Rattle.campl_gram.proofs.Passed as passing
use Rattle.campl_gram.proofs.Lives as lives

module _ {T K P : Type 0} (s : Terminals T K P) (N : Type 0) (Sem : N → Type 0) (rule : (m : N) → Piece T K P N Sem (Sem m)) (tables : Tables K N)
    (same : K → K → Bool) (laws : Distinct s same) (passes : Passes same tables rule) where
  -- what the grammar says, by a derivation of a height below n
  abbrev Says : ℕ → (m : N) → ℕ → List (Nested T) → Sem m → Type 0
  Says = grammar.Says s N Sem rule

  -- what the grammar says
  abbrev IsA : (m : N) → ℕ → List (Nested T) → Sem m → Type 0
  IsA = grammar.IsA s N Sem rule

  -- the same of a whole text
  abbrev IsProgram : (m : N) → List (Nested T) → Sem m → Type 0
  IsProgram = grammar.IsProgram s N Sem rule

  -- what it says of a piece
  abbrev Has : {A : Type 0} → ((m : N) → ℕ → List (Nested T) → Sem m → Type 0) → Piece T K P N Sem A → ℕ → List (Nested T) → A → Type 0
  Has = grammar.Has s N Sem

  -- what the test says of each name
  passed : (m : N) → Passed N Sem same tables rule m
  passed m = passing.passed N Sem same tables rule m (passes m)

  -- the height of the derivations of what is read
  abbrev level : ℕ → ℕ
  level = lives.level s N Sem rule tables same laws passed

  -- no rank is above all
  low : (m : N) → tables.rank m < tables.ranks
  low m = (passed m).low

  -- a rule leads no higher than its name
  leads : (m : N) → tests.lead tables (rule m) ≤ tables.rank m
  leads m = (passed m).leads

  -- the table tells which name may have no token
  nuls : (m : N) → reading.nullable tables (rule m) ≡ tables.nul m
  nuls m = (passed m).nuls

  module _ (limit : ℕ) where
    -- reads a piece
    abbrev by : {A : Type 0} → ((m : N) → ℕ → List T → Outcome T (Sem m)) → Piece T K P N Sem A → ℕ → List T → Outcome T A
    by = reading.read_by s N Sem tables limit

    -- reads a name to a height
    abbrev below : ℕ → (m : N) → ℕ → List T → Outcome T (Sem m)
    below = reading.read_below s N Sem tables limit rule

    -- reads a name
    abbrev read : (m : N) → ℕ → List T → Outcome T (Sem m)
    read = reading.read s N Sem tables limit rule

    -- a name is read as its rule is
    pub reads : (m : N) (d : ℕ) (ts : List T) → read m d ts ≡ by read (rule m) d ts
    reads = fuel.reads s N Sem tables limit low rule leads nuls

    -- a name takes a token unless it may have none
    pub leaves : (m : N) (d : ℕ) (ts : List T) → Leaves (tables.nul m) (read m d ts) ts
    leaves = fuel.leaves-read s N Sem tables limit low rule leads nuls

    -- ---- what is read

    -- all that is shown of an outcome
    abbrev Good : {A : Type 0} → ((m : N) → ℕ → List T → Outcome T (Sem m)) → ((m : N) → ℕ → List (Nested T) → Sem m → Type 0) → Piece T K P N Sem A → ℕ → List T → Outcome T A → Type 0
    Good = found.Good s N Sem tables same laws limit

    -- what its rule means a name means
    means-name : (h : (m : N) → ℕ → List (Nested T) → Sem m → Type 0) (h' : (m : N) → ℕ → List (Nested T) → Sem m → Type 0) (m : N) (d : ℕ) (u : List T) (o : Outcome T (Sem m))
        → ((w : List (Nested T)) (x : Sem m) → Has h (rule m) d w x → h' m d w x)
        → found.Means s N Sem tables same laws limit h (rule m) d u o → found.Means s N Sem tables same laws limit h' (nt m) d u o
    means-name h h' m d u (Ok x, us) f e = (e.0, e.1, e.2, f e.0 x e.3)
    means-name h h' m d u (Err y, us) f e = (e.0, e.1, e.2, e.3, e.4, f (e.0 ++ e.1) e.2 e.5, e.6)

    -- a name is read as it should be, to whatever height
    good : (n : ℕ) (m : N) (d : ℕ) (ts : List T) → Good (below n) (Says (level n)) (nt m) d ts (below n m d ts)
    good zero m d ts =
        let x = lives.live-at s N Sem rule tables same laws passed zero m d in
        record { u = []; split = refl; local = λ z e. refl; means = ([], x.0, x.1, refl, tt, x.2, tt) }
    good (suc n) m d ts =
        let g = found.good s N Sem tables same laws limit (below n) (Says (level n)) (fuel.leaves-below s N Sem tables limit low rule leads nuls n) (good n)
        (rule m) (lives.all-live s N Sem rule tables same laws passed n (rule m)) (passed m).placed d ts in
        record {
          u = g.u;
          split = g.split;
          local = g.local;
          means = means-name (Says (level n)) (Says (suc (level n))) m d g.u (below (suc n) m d ts) (λ w x h. h) g.means;
        }

    -- ---- nothing else is read

    -- only what may have no token has none
    nuls-says : (n : ℕ) (m : N) (d : ℕ) (x : Sem m) → Says n m d [] x → tables.nul m ≡ true
    nuls-says zero m d x e = absurd e
    nuls-says (suc n) m d x e =
        sym (passed m).nuls ∙ only.may-none s N Sem tables same laws limit (Says n) (nuls-says n) (rule m) d [] x refl e

    -- a name begins with a kind that is listed for it
    starts-says : (n : ℕ) (m : N) (d : ℕ) (p : Nested T) (w : List (Nested T)) (x : Sem m) → Says n m d (p ∷ w) x → is_any s (tables.starts m) p.0 ≡ true
    starts-says zero m d p w x e = absurd e
    starts-says (suc n) m d p w x e =
        inside s same laws (reading.first tables (rule m)) (tables.starts m) p.0 (passed m).starts
        (only.first-is s N Sem tables same laws limit (Says n) (nuls-says n) (starts-says n) (rule m) d (p ∷ w) x e p w refl)

    -- what a name has is read, unless the next token could go on with it
    pub only-says : (n : ℕ) (m : N) (d : ℕ) (w : List (Nested T)) (x : Sem m) (rest : List T)
        → Says n m d w x → next_in s (tables.conts m) rest ≡ false → read m d (bare w ++ rest) ≡ verdict limit w x rest
    only-says zero m d w x rest e k = absurd e
    only-says (suc n) m d w x rest e k =
        reads m d (bare w ++ rest)
        ∙ only.only-by s N Sem tables same laws limit (Says n) (nuls-says n) (starts-says n) read (only-says n) (rule m) (passed m).decided d w x rest e
        (next-within s same laws (tests.goes_on tables (rule m)) (tables.conts m) rest (passed m).conts k)

    -- ---- whole texts

    -- a name is read as it should be
    good-read : (n : ℕ) (m : N) (d : ℕ) (ts : List T) → tables.rank m + tables.ranks * length ts < n → Good (below n) (Says (level n)) (nt m) d ts (read m d ts)
    good-read n m d ts h =
        subst (λ o. Good (below n) (Says (level n)) (nt m) d ts o) (fuel.enough s N Sem tables limit low rule leads nuls n m d ts h) (good n m d ts)

    -- what is read depends on the tokens up to the refused one alone
    local-read : (m : N) (d : ℕ) (ts u z : List T) (o : Outcome T (Sem m)) → read m d ts ≡ o → ts ≡ u ++ o.1 → Alike o.1 z → read m d (u ++ z) ≡ (o.0, z)
    local-read m d ts u z o is e al =
        let n = suc (tables.rank m + tables.ranks * (length ts + length z)) in
        let g = good-read n m d ts (short n m ts z) in
        let same_u : u ≡ g.u = cancel u g.u o.1 (sym e ∙ g.split ∙ ap (λ v. g.u ++ v.1) is) in
        ap (λ v. read m d (v ++ z)) same_u
        ∙ sym (fuel.enough s N Sem tables limit low rule leads nuls n m d (g.u ++ z) (still m ts g.u z o.1 (g.split ∙ ap (λ v. g.u ++ v.1) is)))
        ∙ g.local z (subst (λ v. Alike v.1 z) (sym is) al) ∙ ap (λ v. (v.0, z)) is
      where
        short : (n : ℕ) (m : N) (ts z : List T) → tables.rank m + tables.ranks * length ts < suc (tables.rank m + tables.ranks * (length ts + length z))
        short n m ts z = let k : tables.ranks * length ts ≤ tables.ranks * (length ts + length z) = mul-le-mul_left tables.ranks (omega arith) in omega arith

        still : (m : N) (ts u z r : List T) → ts ≡ u ++ r → tables.rank m + tables.ranks * length (u ++ z) < suc (tables.rank m + tables.ranks * (length ts + length z))
        still m ts u z r e =
            let k : tables.ranks * length (u ++ z) ≤ tables.ranks * (length ts + length z) = mul-le-mul_left tables.ranks (omega (arith, length-append u z, length-append u r, ap length e)) in omega arith

    -- a whole text has the verdict of its nesting
    only-whole : (m : N) (d : ℕ) (w : List (Nested T)) (x : Sem m) → IsA m d w x → read m d (bare w) ≡ verdict limit w x []
    only-whole m d w x p = ap (read m d) (sym (append-nil (bare w))) ∙ only-says p.0 m d w x [] p.1 refl

    -- where reading is Unexpected no program goes on
    stops-err : (m : N) (d : ℕ) (ts u r : List T) → read m d ts ≡ (Err Unexpected, r) → ts ≡ u ++ r → Stops limit (IsA m d) u r
    stops-err m d ts u [] is e = λ w x p b.
        never-unexpected limit w x [] [] (sym (only-whole m d w x p) ∙ ap (read m d) (b ∙ sym (append-nil u) ∙ sym e) ∙ is)
    stops-err m d ts u (t ∷ r) is e = λ w more x p b.
        never-unexpected limit w x [] (t ∷ more) (sym (only-whole m d w x p) ∙ ap (read m d) b ∙ local-read m d ts u (t ∷ more) (Err Unexpected, t ∷ r) is e refl)

    -- behind a whole program none goes on
    stops-ok : (m : N) (d : ℕ) (ts u : List T) (x : Sem m) (t : T) (r : List T) → read m d ts ≡ (Ok x, t ∷ r) → ts ≡ u ++ t ∷ r → Stops limit (IsA m d) u (t ∷ r)
    stops-ok m d ts u x t r is e = λ w more y p b.
        let rest : t ∷ more ≡ [] = sym (verdict-rest limit w y [] x (t ∷ more) (sym (only-whole m d w y p) ∙ ap (read m d) b ∙ local-read m d ts u (t ∷ more) (Ok x, t ∷ r) is e refl)) in cc

    -- where reading is too deep every program that goes on is
    sinks : (m : N) (d : ℕ) (ts u r : List T) (n : ℕ) → read m d ts ≡ (Err TooDeep, r) → ts ≡ u ++ r → (w more : List (Nested T)) (x : Sem m) → bare w ≡ u
        → Says (level n) m d (w ++ more) x → Breaks limit TooDeep r more → Sinks limit (IsA m d) u r
    sinks m d ts u r n is e w [] x b p k = absurd k
    sinks m d ts u [] n is e w (q ∷ more) x b p k = let f = k.2 in cc
    sinks m d ts u (t ∷ r) n is e w (q ∷ more) x b p k =
        let same_token : t ≡ q.0 = let f = k.2 in cc in (
          (w, q.1, more, x, b, (level n, subst (λ y. Says (level n) m d (w ++ (y, q.1) ∷ more) x) (sym same_token) p)),
          λ v i more y prog b'.
              deep-at limit v (t, i) more y
              (sym (only-whole m d (v ++ (t, i) ∷ more) y prog) ∙ ap (read m d) (bare-append v ((t, i) ∷ more) ∙ ap (λ l. l ++ t ∷ bare more) b')
              ∙ local-read m d ts u (t ∷ bare more) (Err TooDeep, t ∷ r) is e refl),
        )

    -- what is read is the answer
    answers : (m : N) (d : ℕ) (ts : List T) (n : ℕ) (o : Outcome T (Sem m)) → read m d ts ≡ o → Good (below n) (Says (level n)) (nt m) d ts o → Answers limit (IsA m d) ts (finish o)
    answers m d ts n (Ok x, []) is g = (g.means.0, g.means.1 ∙ sym (append-nil g.u) ∙ sym g.split, g.means.2, (level n, g.means.3))
    answers m d ts n (Ok x, t ∷ r) is g =
        (g.u, g.split, (g.means.0, [], x, g.means.1, g.means.2, (level n, subst (λ w. Says (level n) m d w x) (sym (append-nil g.means.0)) g.means.3)), stops-ok m d ts g.u x t r is g.split)
    answers m d ts n (Err Unexpected, r) is g =
        let e = g.means in
        (g.u, g.split, (e.0, e.1, e.2, e.3, e.4, (level n, e.5)), stops-err m d ts g.u r is g.split)
    answers m d ts n (Err TooDeep, r) is g =
        let e = g.means in
        (g.u, g.split, (e.0, e.1, e.2, e.3, e.4, (level n, e.5)), sinks m d ts g.u r n is g.split e.0 e.1 e.2 e.3 e.5 e.6)

    -- the answer for the tokens, at any nesting
    exact-at : (m : N) (d : ℕ) (ts : List T) → Answers limit (IsA m d) ts (finish (read m d ts))
    exact-at m d ts =
        answers m d ts (suc (tables.rank m + tables.ranks * length ts)) (read m d ts) refl (good-read (suc (tables.rank m + tables.ranks * length ts)) m d ts (omega arith))

    -- The answer for the tokens of a whole text.
    pub exact : (m : N) (ts : List T) → Answers limit (IsProgram m) ts (finish (read m 0 ts))
    exact m ts = exact-at m 0 ts

    -- A program within the limit is answered as it is.
    pub whole : (m : N) (w : List (Nested T)) (x : Sem m) → IsProgram m w x → Shallow limit w → finish (read m 0 (bare w)) ≡ (Ok x, [])
    whole m w x p within = ap finish (only-whole m 0 w x p ∙ verdict-shallow limit w x [] within)

    -- tokens within the limit have one tree
    one-shallow : (m : N) (d : ℕ) (w v : List (Nested T)) (x y : Sem m) → IsA m d w x → IsA m d v y → bare w ≡ bare v → Shallow limit w → x ≡ y
    one-shallow m d w v x y p q e within =
        sym (verdict-value limit v y [] x [] (sym (only-whole m d v y q) ∙ ap (read m d) (sym e) ∙ only-whole m d w x p ∙ verdict-shallow limit w x [] within))

  -- No tokens have two trees, however deep they are nested.
  pub one_tree : (m : N) (w v : List (Nested T)) (x y : Sem m) → IsProgram m w x → IsProgram m v y → bare w ≡ bare v → x ≡ y
  one_tree m w v x y p q e = one-shallow (deepest w) m 0 w v x y p q e (shallow-deepest w)
