-- What a pattern that fits a type binds, where a value of the type matches it, are values of the types.
use Rattle.std.proofs.Common.{◌≡◌, ◌∙◌, refl, sym, ap, subst, ℕ, suc, Bool, true, false, List, [], ◌∷◌, ◌++◌, Option, Some, None, if◌then◌else◌, eqb, eqb-true, map, length, slice_get}
use Rattle.std.specs.Ordering.{int_eq}
use Rattle.campl_tree.specs.declared.place.Place.{Place}
use Rattle.campl_tree.specs.declared.place.Ident.{Ident}
use Rattle.campl_tree.specs.Plain.SeqType.{SeqType, SeqTypes}
use Rattle.campl_tree.specs.Plain.SeqType as s
use Rattle.campl_tree.specs.Plain.Decl.{DataDecl, DataConstructor}
use Rattle.campl_tree.specs.Plain.Pattern.{Pattern, Patterns, Wildcard, Variable, Number, Negative, Character, Text, True, False, Constructor, Pair, Cons, no_patterns, pattern_then}
use Rattle.campl_tree.specs.Plain.Pattern as p
use Rattle.campl_value.specs.Tree as v
use Rattle.campl_value.specs.Tree.{Tree, Trees, trees_of}
use Rattle.campl_types.specs.Names.{Name, same_name, found}
use Rattle.campl_types.proofs.Names.{same-is}
use Rattle.campl_types.specs.Forms as form
use Rattle.campl_types.specs.Forms.{Form, Forms, form_of, part_forms, element_forms, text_form}
use Rattle.campl_types.specs.Substitution.{Filling, filled, all_filled, list_of}
use Rattle.campl_types.specs.Values.{parts_at, IsValue, AreValues, AllAreValues}
use Rattle.campl_types.specs.Fits.{Vars, fits, each_fits, all_fit}
use Rattle.campl_types.specs.Fits as fits
use Rattle.campl_types.specs.Matching.{Bindings, both, where_holds, matched, all_matched, row_matched, number_of, is_number}
use Rattle.campl_types.specs.World.{World, ConstructorEntry, OfData, OfProtocol, OfCoprotocol, constructor_named, data_named, names_of}
use Rattle.campl_evaluation.specs.Typed.{AreBound}
use Rattle.campl_evaluation.specs.Worlds.{IsSoundWorld}
use Rattle.campl_evaluation.proofs.Instance.{parts-of}
use Rattle.campl_types.proofs.Compose.{filled-list, length-filled, list-composed}

-- Bindings

pub bound-append : (w : World) (f : Filling) (bs cs : Bindings) (vs us : Vars) → AreBound w f bs vs → AreBound w f cs us → AreBound w f (bs ++ cs) (vs ++ us)
bound-append w f [] cs [] us i j = j
bound-append w f (b ∷ bs) cs (v ∷ vs) us (e, h, i) j = (e, h, bound-append w f bs cs vs us i j)
bound-append w f [] cs (v ∷ vs) us i j = absurd i
bound-append w f (b ∷ bs) cs [] us i j = absurd i

-- a variable stands for a value of its type
pub bound-found : (w : World) (f : Filling) (x : Name) (bs : Bindings) (vs : Vars) (t : SeqType) → AreBound w f bs vs → found x vs ≡ Some t → (a : Tree) × (found x bs ≡ Some a) × IsValue w a (filled f t)
bound-found w f x [] [] t i j = absurd (cc j)
bound-found w f x (b ∷ bs) (v ∷ vs) t (e, h, i) j = go (same_name x v.0) refl (bound-found w f x bs vs t i)
  where
    go : (c : Bool) → same_name x v.0 ≡ c → (found x vs ≡ Some t → (a : Tree) × (found x bs ≡ Some a) × IsValue w a (filled f t)) → (a : Tree) × (found x (b ∷ bs) ≡ Some a) × IsValue w a (filled f t)
    go true k later =
        let same : v.1 ≡ t = cc (rw k at j) in
        let hit : same_name x b.0 ≡ true = subst (λ y. same_name x y ≡ true) (sym e) k in
        (b.1, rw hit refl, subst (λ u. IsValue w b.1 (filled f u)) same h)
    go false k later =
        let r = later (rw k at j) in
        let miss : same_name x b.0 ≡ false = subst (λ y. same_name x y ≡ false) (sym e) k in
        (r.0, rw miss r.1, r.2)
bound-found w f x [] (v ∷ vs) t i j = absurd i
bound-found w f x (b ∷ bs) [] t i j = absurd i

-- nothing is bound
bound-none : (w : World) (f : Filling) (bs : Bindings) (xs : Vars) → [] ≡ bs → Some [] ≡ Some xs → AreBound w f bs xs
bound-none w f bs xs i j = let k : [] ≡ xs = cc j in subst (λ c. AreBound w f c xs) i (subst (λ y. AreBound w f [] y) k tt)

holds-none : (b : Bool) (bs : Bindings) → where_holds b ≡ Some bs → [] ≡ bs
holds-none true bs i = cc i
holds-none false bs i = absurd (cc i)

both-fit : (o q : Option Vars) (xs : Vars) → fits.both o q ≡ Some xs → (ys : Vars) × (zs : Vars) × (o ≡ Some ys) × (q ≡ Some zs) × (zs ++ ys ≡ xs)
both-fit (Some ys) (Some zs) xs i = (ys, zs, refl, refl, cc i)
both-fit (Some ys) None xs i = absurd (cc i)
both-fit None q xs i = absurd (cc i)

pub both-match : (o q : Option Bindings) (bs : Bindings) → both o q ≡ Some bs → (cs : Bindings) × (ds : Bindings) × (o ≡ Some cs) × (q ≡ Some ds) × (ds ++ cs ≡ bs)
both-match (Some cs) (Some ds) bs i = (cs, ds, refl, refl, cc i)
both-match (Some cs) None bs i = absurd (cc i)
both-match None q bs i = absurd (cc i)

-- two parts that bind what they should
bound-both : (w : World) (f : Filling) (o q : Option Vars) (xs : Vars) (a c : Option Bindings) (bs : Bindings) → fits.both o q ≡ Some xs → both a c ≡ Some bs
    → ((ys : Vars) (cs : Bindings) → o ≡ Some ys → a ≡ Some cs → AreBound w f cs ys)
    → ((zs : Vars) (ds : Bindings) → q ≡ Some zs → c ≡ Some ds → AreBound w f ds zs)
    → AreBound w f bs xs
bound-both w f o q xs a c bs i j first second =
    let l = both-fit o q xs i in
    let r = both-match a c bs j in
    subst (λ b. AreBound w f b xs) r.4 (subst (λ y. AreBound w f (r.1 ++ r.0) y) l.4
    (bound-append w f r.1 r.0 l.1 l.0 (second l.1 r.1 l.3 r.3) (first l.0 r.0 l.2 r.2)))

none-both : (cs ds bs : Bindings) → [] ≡ cs → [] ≡ ds → ds ++ cs ≡ bs → [] ≡ bs
none-both cs ds bs i j k = (λ n. j n ++ i n) ∙ k

text-none : (w : World) (text : List ℕ) (a : Tree) (bs : Bindings) → matched w (text_form text) a ≡ Some bs → [] ≡ bs
text-none w [] v.Nil bs i = cc i
text-none w (c ∷ cs) (v.Cell (v.Char d) b) bs i =
    let r = both-match (where_holds (eqb c d)) (matched w (text_form cs) b) bs i in
    none-both r.0 r.1 bs (holds-none (eqb c d) r.0 r.2) (text-none w cs b r.1 r.3) r.4
text-none w text a bs i = absurd (cc i)

-- Constructors

when : {A : Type 0} → (b : Bool) (o : Option A) (x : A) → (if b then o else None) ≡ Some x → (b ≡ true) × (o ≡ Some x)
when true o x i = (refl, i)
when false o x i = absurd (cc i)

-- the value of a constructor's pattern is built by the constructor
built-parts : (w : World) → IsSoundWorld w → (x : Name) (d : DataDecl) (n m : ℕ) (k : DataConstructor) (y : Name) (us : List SeqType) (vs : Trees)
    → constructor_named w x ≡ Some (OfData d n k) → same_name d.name.name y ≡ true → is_number (number_of w x) m ≡ true
    → ((e : DataDecl) × (j : DataConstructor) × (data_named w y ≡ Some e) × (slice_get e.constructors m ≡ Some j) × (length us ≡ length e.parameters) × AreValues w vs (parts_at e us j))
    → (length us ≡ length d.parameters) × AreValues w vs (parts_at d us k)
built-parts w sound x d n m k y us vs i named number (e, j, a, b, l, h) =
    let t = sound.types x d n k i in
    let same : d.name.name ≡ y = same-is d.name.name y named in
    let at : data_named w y ≡ Some d = subst (λ z. data_named w z ≡ Some d) same t.0 in
    let decl : e ≡ d = cc (sym a ∙ at) in
    let hit : eqb n m ≡ true = rw i at number in
    let place : n ≡ m = eqb-true n m hit in
    let there : slice_get d.constructors m ≡ Some k = subst (λ z. slice_get d.constructors z ≡ Some k) place t.1 in
    let here : slice_get d.constructors m ≡ Some j = subst (λ z. slice_get z.constructors m ≡ Some j) decl b in
    let con : j ≡ k = cc (sym here ∙ there) in
    (subst (λ z. length us ≡ length z.parameters) decl l, subst (λ z. AreValues w vs (parts_at d us z)) con (subst (λ z. AreValues w vs (parts_at z us j)) decl h))

pub names-long : (xs : List Ident) → length (names_of xs) ≡ length xs
names-long [] = refl
names-long (x ∷ xs) = ap suc (names-long xs)

-- the parts' types at the arguments, filled, are those at the filled arguments
pub parts-filled : (w : World) → IsSoundWorld w → (f : Filling) (x : Name) (d : DataDecl) (n : ℕ) (k : DataConstructor) (ts : List SeqType)
    → constructor_named w x ≡ Some (OfData d n k) → length ts ≡ length d.parameters → map (filled f) (parts_at d ts k) ≡ parts_at d (map (filled f) ts) k
parts-filled w sound f x d n k ts i l = list-composed f (names_of d.parameters) ts (l ∙ sym (names-long d.parameters)) k.parts (sound.parts x d n k i)

built-bound : (w : World) → IsSoundWorld w → (f : Filling) (at : Place) (x : Name) (ps : Patterns) (there : Place) (y : Name) (ts : SeqTypes) (m : ℕ) (vs : Trees) (xs : Vars) (bs : Bindings)
    → fits w (Constructor at x ps) (s.Named there y ts) ≡ Some xs → matched w (form_of (Constructor at x ps)) (v.Built m vs) ≡ Some bs → IsValue w (v.Built m vs) (filled f (s.Named there y ts))
    → ((us : List SeqType) → all_fit w ps us ≡ Some xs → all_matched w (part_forms ps) vs ≡ Some bs → AreValues w vs (map (filled f) us) → AreBound w f bs xs)
    → AreBound w f bs xs
built-bound w sound f at x ps there y ts m vs xs bs i j h parts = go (constructor_named w x) refl
  where
    go : (o : Option ConstructorEntry) → constructor_named w x ≡ o → AreBound w f bs xs
    go (Some (OfData d n k)) e =
        let l : (if same_name d.name.name y then all_fit w ps (parts_at d (list_of ts) k) else None) ≡ Some xs = rw e at i in
        let fit = when (same_name d.name.name y) (all_fit w ps (parts_at d (list_of ts) k)) xs l in
        let hit = when (is_number (number_of w x) m) (all_matched w (part_forms ps) vs) bs j in
        let args = filled-list f ts in
        let b = built-parts w sound x d n m k y (list_of (all_filled f ts)) vs e fit.0 hit.0 h in
        let long : length (list_of ts) ≡ length d.parameters = sym (length-filled f (list_of ts)) ∙ ap length (sym args) ∙ b.0 in
        let typed : AreValues w vs (parts_at d (map (filled f) (list_of ts)) k) = subst (λ us. AreValues w vs (parts_at d us k)) args b.1 in
        parts (parts_at d (list_of ts) k) fit.1 hit.1 (subst (AreValues w vs) (sym (parts-filled w sound f x d n k (list_of ts) e long)) typed)
    go (Some (OfProtocol d n k)) e = absurd (cc (rw e at i))
    go (Some (OfCoprotocol d n k)) e = absurd (cc (rw e at i))
    go None e = absurd (cc (rw e at i))

-- Patterns

none-some : {A : Type 0} (x : A) → None ≡ Some x → ⊥
none-some x i = cc i

mutual
  pub fit-bound : (w : World) → IsSoundWorld w → (f : Filling) (p : Pattern) (t : SeqType) (a : Tree) (xs : Vars) (bs : Bindings)
      → fits w p t ≡ Some xs → matched w (form_of p) a ≡ Some bs → IsValue w a (filled f t) → AreBound w f bs xs
  fit-bound w sound f (Wildcard at) t a xs bs i j h = bound-none w f bs xs (cc j) i
  fit-bound w sound f (Variable at x) t a xs bs i j h =
      let k : (x, a) ∷ [] ≡ bs = cc j in let l : (x, t) ∷ [] ≡ xs = cc i in
      subst (λ c. AreBound w f c xs) k (subst (λ y. AreBound w f ((x, a) ∷ []) y) l (refl, h, tt))
  fit-bound w sound f (Number at n) s.Int (v.Int m) xs bs i j h = bound-none w f bs xs (holds-none (int_eq n m) bs j) i
  fit-bound w sound f (Negative at n) s.Int (v.Int m) xs bs i j h = bound-none w f bs xs (holds-none _ bs j) i
  fit-bound w sound f (Character at c) s.Char (v.Char d) xs bs i j h = bound-none w f bs xs (holds-none (eqb c d) bs j) i
  fit-bound w sound f (Text at text) (s.List s.Char) a xs bs i j h = bound-none w f bs xs (text-none w text a bs j) i
  fit-bound w sound f (True at) s.Bool (v.Truth b) xs bs i j h = bound-none w f bs xs (holds-none _ bs j) i
  fit-bound w sound f (False at) s.Bool (v.Truth b) xs bs i j h = bound-none w f bs xs (holds-none _ bs j) i
  fit-bound w sound f (p.List at ps) (s.List t) a xs bs i j h = each-bound w sound f ps t a xs bs i j h
  fit-bound w sound f (Cons at p q) (s.List t) (v.Cell a b) xs bs i j (h, k) =
      bound-both w f (fits w p t) (fits w q (s.List t)) xs (matched w (form_of p) a) (matched w (form_of q) b) bs i j
      (λ ys cs m n. fit-bound w sound f p t a ys cs m n h) (λ zs ds m n. fit-bound w sound f q (s.List t) b zs ds m n k)
  fit-bound w sound f (Pair at p q) (s.Pair t u) (v.Pair a b) xs bs i j (h, k) =
      bound-both w f (fits w p t) (fits w q u) xs (matched w (form_of p) a) (matched w (form_of q) b) bs i j
      (λ ys cs m n. fit-bound w sound f p t a ys cs m n h) (λ zs ds m n. fit-bound w sound f q u b zs ds m n k)
  fit-bound w sound f (Constructor at x ps) (s.Named there y ts) (v.Built m vs) xs bs i j h =
      built-bound w sound f at x ps there y ts m vs xs bs i j h (λ us l m' k. all-bound w sound f ps us vs xs bs l m' k)
  fit-bound w sound f (Number at n) s.Int a xs bs i j h = absurd (none-some bs j)
  fit-bound w sound f (Negative at n) s.Int a xs bs i j h = absurd (none-some bs j)
  fit-bound w sound f (Character at c) s.Char a xs bs i j h = absurd (none-some bs j)
  fit-bound w sound f (True at) s.Bool a xs bs i j h = absurd (none-some bs j)
  fit-bound w sound f (False at) s.Bool a xs bs i j h = absurd (none-some bs j)
  fit-bound w sound f (Cons at p q) (s.List t) a xs bs i j h = absurd (none-some bs j)
  fit-bound w sound f (Pair at p q) (s.Pair t u) a xs bs i j h = absurd (none-some bs j)
  fit-bound w sound f (Constructor at x ps) (s.Named there y ts) a xs bs i j h = absurd (none-some bs j)
  fit-bound w sound f p t a xs bs i j h = absurd (none-some xs i)

  each-bound : (w : World) → IsSoundWorld w → (f : Filling) (ps : Patterns) (t : SeqType) (a : Tree) (xs : Vars) (bs : Bindings)
      → each_fits w ps t ≡ Some xs → matched w (element_forms ps) a ≡ Some bs → IsValue w a (s.List (filled f t)) → AreBound w f bs xs
  each-bound w sound f no_patterns t v.Nil xs bs i j h = bound-none w f bs xs (cc j) i
  each-bound w sound f (pattern_then p ps) t (v.Cell a b) xs bs i j (h, k) =
      bound-both w f (fits w p t) (each_fits w ps t) xs (matched w (form_of p) a) (matched w (element_forms ps) b) bs i j
      (λ ys cs m n. fit-bound w sound f p t a ys cs m n h) (λ zs ds m n. each-bound w sound f ps t b zs ds m n k)
  each-bound w sound f ps t a xs bs i j h = absurd (none-some bs j)

  pub all-bound : (w : World) → IsSoundWorld w → (f : Filling) (ps : Patterns) (ts : List SeqType) (vs : Trees) (xs : Vars) (bs : Bindings)
      → all_fit w ps ts ≡ Some xs → all_matched w (part_forms ps) vs ≡ Some bs → AreValues w vs (map (filled f) ts) → AreBound w f bs xs
  all-bound w sound f no_patterns [] v.none xs bs i j h = bound-none w f bs xs (cc j) i
  all-bound w sound f (pattern_then p ps) (t ∷ ts) (v.more a vs) xs bs i j (h, k) =
      bound-both w f (fits w p t) (all_fit w ps ts) xs (matched w (form_of p) a) (all_matched w (part_forms ps) vs) bs i j
      (λ ys cs m n. fit-bound w sound f p t a ys cs m n h) (λ zs ds m n. all-bound w sound f ps ts vs zs ds m n k)
  all-bound w sound f no_patterns [] vs xs bs i j h = absurd (none-some bs j)
  all-bound w sound f (pattern_then p ps) (t ∷ ts) vs xs bs i j h = absurd (none-some bs j)
  all-bound w sound f ps ts vs xs bs i j h = absurd (none-some xs i)

-- Rows

row-parts : (w : World) (ps : Forms) (vs : List Tree) → row_matched w (form.list_of ps) vs ≡ all_matched w ps (trees_of vs)
row-parts w form.none [] = refl
row-parts w (form.more p ps) (a ∷ vs) = ap (both (matched w p a)) (row-parts w ps vs)
row-parts w form.none (a ∷ vs) = refl
row-parts w (form.more p ps) [] = refl

-- what a function's row binds
pub row-bound : (w : World) → IsSoundWorld w → (f : Filling) (ps : Patterns) (ts : List SeqType) (vs : List Tree) (xs : Vars) (bs : Bindings)
    → all_fit w ps ts ≡ Some xs → row_matched w (form.list_of (part_forms ps)) vs ≡ Some bs → AllAreValues w vs (map (filled f) ts) → AreBound w f bs xs
row-bound w sound f ps ts vs xs bs i j h = all-bound w sound f ps ts (trees_of vs) xs bs i (sym (row-parts w (part_forms ps) vs) ∙ j) (parts-of w vs (map (filled f) ts) h)

-- and a row of one pattern
pub one-bound : (w : World) → IsSoundWorld w → (f : Filling) (p : Pattern) (t : SeqType) (a : Tree) (xs : Vars) (bs : Bindings)
    → fits w p t ≡ Some xs → row_matched w (form_of p ∷ []) (a ∷ []) ≡ Some bs → IsValue w a (filled f t) → AreBound w f bs xs
one-bound w sound f p t a xs bs i j h =
    let r = both-match (matched w (form_of p) a) (Some []) bs j in
    let e : [] ≡ r.1 = cc r.3 in
    let k : r.0 ≡ bs = (λ n. e n ++ r.0) ∙ r.4 in
    subst (λ c. AreBound w f c xs) k (fit-bound w sound f p t a xs r.0 i r.2 h)
