-- What a command names and binds, against what is held before it and behind it. `f` says whether the name n
-- is free in what follows.
use Rattle.std.proofs.Common.{◌≡◌, ◌∙◌, refl, sym, ap, Bool, true, false, not, ◌&&◌, ◌||◌, if◌then◌else◌, List, [], ◌∷◌, ◌++◌, Option, Some, None, is_some, true≢false}
use Rattle.std.proofs.Math.Bool.{or-false}
use Rattle.campl_tree.specs.declared.place.Ident.{Ident}
use Rattle.campl_tree.specs.declared.service.Side.{Side}
use Rattle.campl_tree.specs.Plain.ChanType.{ChanType}
use Rattle.campl_tree.specs.Plain.Process as b
use Rattle.campl_tree.specs.Plain.Process.{Body}
use Rattle.campl_types.specs.Names.{Name, same_name, is_among}
use Rattle.campl_types.specs.World.{names_of}
use Rattle.campl_types.specs.Held.{Channel, Held, with, without, only, HoldsOnly}
use Rattle.campl_types.specs.Linear.{AreNew, AreHanded, receives_on}
use Rattle.campl_types.specs.Free.{is_free}
use Rattle.campl_types.proofs.Names.{same-is, same-turned, or-assoc, among-append}

-- Truth values

or-again : (a b : Bool) → (a || (a || b)) ≡ (a || b)
or-again true b = refl
or-again false b = refl

neither : (a b f : Bool) → (not (a || (b || false)) && f) ≡ (not a && (not b && f))
neither true b f = refl
neither false true f = refl
neither false false f = refl

-- Names that are held

pub passed : (held : Held) (n x : Name) (o : Option Channel) → same_name n x ≡ false → with x o held n ≡ held n
passed held n x o i = let turned : same_name x n ≡ false = same-turned x n ∙ i in rw turned refl

as-held : (held : Held) (n x : Name) {o : Option Channel} → held x ≡ o → same_name n x ≡ true → is_some o ≡ is_some (held n)
as-held held n x i same = sym (ap (λ m. is_some (held m)) (same-is n x same) ∙ ap is_some i)

-- of a name that is the channel's, or is free where it isn't the channel's
named-or : (held : Held) (n x : Name) {c : Channel} (f : Bool) → held x ≡ Some c → (same_name n x ≡ false → f ≡ is_some (held n)) → (same_name n x || f) ≡ is_some (held n)
named-or held n x f i other = go (same_name n x) refl
  where
    go : (p : Bool) → same_name n x ≡ p → (p || f) ≡ is_some (held n)
    go true k = as-held held n x i k
    go false k = other k

-- a command names x, and leaves it as o
pub named : (held : Held) (n x : Name) (o : Option Channel) {c : Channel} (f : Bool) → held x ≡ Some c → f ≡ is_some (with x o held n)
    → (same_name n x || f) ≡ is_some (held n)
named held n x o f i j = named-or held n x f i (λ k. j ∙ ap is_some (passed held n x o k))

-- a command names x, and each of its rows has what is held
pub named-again : (held : Held) (n x : Name) {c : Channel} (f : Bool) → held x ≡ Some c → f ≡ is_some (held n) → (same_name n x || f) ≡ is_some (held n)
named-again held n x f i j = named-or held n x f i (λ k. j)

-- the name x is bound in what follows
bound : (held : Held) (n x : Name) (o : Option Channel) (f : Bool) → held x ≡ None → f ≡ is_some (with x o held n)
    → (not (same_name n x) && f) ≡ is_some (held n)
bound held n x o f i j = go (same_name n x) refl
  where
    go : (p : Bool) → same_name n x ≡ p → (not p && f) ≡ is_some (held n)
    go true k = as-held held n x i k
    go false k = j ∙ ap is_some (passed held n x o k)

-- the same names are held where a channel goes on
pub still : (held : Held) (n x : Name) (d : Channel) {c : Channel} → held x ≡ Some c → is_some (with x (Some d) held n) ≡ is_some (held n)
still held n x d i = go (same_name n x) refl
  where
    go : (p : Bool) → same_name n x ≡ p → is_some (with x (Some d) held n) ≡ is_some (held n)
    go true k = let turned : same_name x n ≡ true = same-turned x n ∙ k in rw turned (as-held held n x i k)
    go false k = ap is_some (passed held n x (Some d) k)

-- `split`

pub splits : (held : Held) (n x y z : Name) (o p : Channel) {c : Channel} (f : Bool) → held x ≡ Some c → AreNew x y z held
    → f ≡ is_some (with z (Some p) (with y (Some o) (without x held)) n) → (same_name n x || (not (is_among n (y ∷ z ∷ [])) && f)) ≡ is_some (held n)
splits held n x y z o p f i new j =
    named held n x None _ i
    (neither (same_name n y) (same_name n z) f
    ∙ bound (without x held) n y (Some o) _ new.0 (bound (with y (Some o) (without x held)) n z (Some p) f other j))
  where
    other : with y (Some o) (without x held) z ≡ None
    other = passed (without x held) z y (Some o) (same-turned z y ∙ new.2) ∙ new.1

-- `fork`

pub none-kept : (keep : Name → Bool) (held : Held) (y : Name) → held y ≡ None → only keep held y ≡ None
none-kept keep held y i = go (keep y)
  where
    go : (p : Bool) → (if p then held y else None) ≡ None
    go true = i
    go false = refl

-- what is held is kept, or goes to the other body
kept-or-not : (keep : Name → Bool) (held : Held) (n : Name) → (is_some (only keep held n) || is_some (only (λ c. not (keep c)) held n)) ≡ is_some (held n)
kept-or-not keep held n = go (keep n)
  where
    go : (p : Bool) → (is_some (if p then held n else None) || is_some (if not p then held n else None)) ≡ is_some (held n)
    go true = or-false (is_some (held n))
    go false = refl

pub forks : (held : Held) (n x y z : Name) (keep : Name → Bool) (o p : Channel) {c : Channel} (f g : Bool) → held x ≡ Some c → AreNew x y z held
    → f ≡ is_some (with y (Some o) (only keep (without x held)) n) → g ≡ is_some (with z (Some p) (only (λ c. not (keep c)) (without x held)) n)
    → (same_name n x || ((not (same_name n y) && f) || (not (same_name n z) && g))) ≡ is_some (held n)
forks held n x y z keep o p f g i new left right =
    let first = bound (only keep (without x held)) n y (Some o) f (none-kept keep (without x held) y new.0) left in
    let second = bound (only (λ c. not (keep c)) (without x held)) n z (Some p) g (none-kept (λ c. not (keep c)) (without x held) z new.1) right in
    named held n x None _ i ((λ k. first k || second k) ∙ kept-or-not keep (without x held) n)

-- Commands that leave nothing

-- the names are held, and no other is
these : (held : Held) (n : Name) (xs : List Name) → HoldsOnly xs held → (is_among n xs ≡ true → true ≡ is_some (held n)) → is_among n xs ≡ is_some (held n)
these held n xs alone there = go (is_among n xs) refl
  where
    go : (p : Bool) → is_among n xs ≡ p → p ≡ is_some (held n)
    go true k = there k
    go false k = sym (ap is_some (alone n k))

either : (a b : Bool) {P : Type 0} → (a ≡ true → P) → (b ≡ true → P) → (a || b) ≡ true → P
either true b f g i = f refl
either false b f g i = g i

pub halts : (held : Held) (n x : Name) {c : Channel} → held x ≡ Some c → HoldsOnly (x ∷ []) held → same_name n x ≡ is_some (held n)
halts held n x i alone =
    sym (or-false (same_name n x)) ∙ these held n (x ∷ []) alone (either (same_name n x) false (as-held held n x i) (λ k. absurd (true≢false (sym k))))

pub links : (held : Held) (n x y : Name) {c d : Channel} → held x ≡ Some c → held y ≡ Some d → HoldsOnly (x ∷ y ∷ []) held → (same_name n x || same_name n y) ≡ is_some (held n)
links held n x y i j alone =
    ap (λ b. same_name n x || b) (sym (or-false (same_name n y)))
    ∙ these held n (x ∷ y ∷ []) alone
    (either (same_name n x) (same_name n y || false) (as-held held n x i)
    (either (same_name n y) false (as-held held n y j) (λ k. absurd (true≢false (sym k)))))

handed : (held : Held) (n : Name) (side : Side) (xs : List Ident) (ts : List ChanType) → AreHanded held side xs ts → is_among n (names_of xs) ≡ true → true ≡ is_some (held n)
handed held n side [] [] h i = absurd (true≢false (sym i))
handed held n side (x ∷ xs) (t ∷ ts) h i =
    either (same_name n x.name) (is_among n (names_of xs)) (as-held held n x.name h.1) (handed held n side xs ts h.3) i
handed held n side [] (t ∷ ts) h i = absurd h
handed held n side (x ∷ xs) [] h i = absurd h

pub calls : (held : Held) (n : Name) (r s : Side) (xs ys : List Ident) (ts us : List ChanType) → AreHanded held r xs ts → AreHanded held s ys us
    → HoldsOnly (names_of xs ++ names_of ys) held → (is_among n (names_of xs) || is_among n (names_of ys)) ≡ is_some (held n)
calls held n r s xs ys ts us h k alone =
    sym (among-append n (names_of xs) (names_of ys))
    ∙ these held n (names_of xs ++ names_of ys) alone
    (λ i. either (is_among n (names_of xs)) (is_among n (names_of ys)) (handed held n r xs ts h) (handed held n s ys us k) (sym (among-append n (names_of xs) (names_of ys)) ∙ i))

-- Rows: h says whether the name is held, f whether it is free in a row, and g whether it is in the others

pub first-row : (h f g : Bool) → f ≡ h → (h || g) ≡ h → (f || g) ≡ h
first-row h f g i j = ap (λ b. b || g) i ∙ j

pub one-more-row : (h f g : Bool) → f ≡ h → (h || g) ≡ h → (h || (f || g)) ≡ h
one-more-row h f g i j = ap (λ b. h || (b || g)) i ∙ or-again h g ∙ j

-- a branch's body names the branch's channel
begins : (n x : Name) (body : Body) → receives_on x body ≡ true → (same_name n x || is_free n body) ≡ is_free n body
begins n x (b.Then (b.Get at v c) rest) i = ap (λ m. same_name n m || is_free n (b.Then (b.Get at v c) rest)) (same-is x c.name i) ∙ or-again (same_name n c.name) _
begins n x (b.Then (b.Split at c y z) rest) i = ap (λ m. same_name n m || is_free n (b.Then (b.Split at c y z) rest)) (same-is x c.name i) ∙ or-again (same_name n c.name) _
begins n x (b.Hcase at c rows) i = ap (λ m. same_name n m || is_free n (b.Hcase at c rows)) (same-is x c.name i) ∙ or-again (same_name n c.name) _
begins n x _ i = absurd (true≢false (sym i))

pub begun : (n x : Name) (body : Body) (g : Bool) → receives_on x body ≡ true → (same_name n x || (is_free n body || g)) ≡ (is_free n body || g)
begun n x body g i = or-assoc (same_name n x) (is_free n body) g ∙ ap (λ b. b || g) (begins n x body i)
