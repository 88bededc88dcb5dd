-- In a typed source what expressions name is known.
use Rattle.std.proofs.Common.{◌≡◌, ◌∙◌, refl, sym, ap, subst, suc, Bool, true, false, List, [], ◌∷◌, ◌++◌, Option, Some, None, if◌then◌else◌, length, append_assoc}
use Rattle.std.specs.Prelude.{◌||◌, option_map}
use Rattle.campl_tree.specs.declared.place.Place.{Place}
use Rattle.campl_tree.specs.Plain.SeqType.{SeqType, SeqTypes}
use Rattle.campl_tree.specs.Plain.SeqType as s
use Rattle.campl_tree.specs.Plain.Pattern.{Pattern, Patterns, Wildcard, Variable, Number, Negative, Character, Text, True, False, Constructor, Pair, Cons, no_patterns, pattern_then}
use Rattle.campl_tree.specs.Plain.Pattern as p
use Rattle.campl_tree.specs.Plain.Expr as e
use Rattle.campl_tree.specs.Plain.Expr.{Expr, Exprs, ExprRows}
use Rattle.campl_tree.specs.Plain.Decl.{FunctionDecl, FunctionRow, Decl, Data, Protocol, Coprotocol, Function, Process, Program}
use Rattle.campl_types.specs.Names.{Name, same_name, found, is_among}
use Rattle.campl_types.specs.Substitution.{Filling, filled}
use Rattle.campl_types.specs.Substitution as types
use Rattle.campl_types.specs.Values.{parts_at}
use Rattle.campl_types.specs.Fits.{Vars, fits, each_fits, all_fit}
use Rattle.campl_types.specs.Fits as fit
use Rattle.campl_types.specs.Patterns.{bound_in, bound_in_all}
use Rattle.campl_types.specs.Sequential.{Way, Found, Checked, HasType, PartsHaveTypes, AllChecked, RowsHaveType, RowIsTyped, FunctionsAreTyped}
use Rattle.campl_types.specs.Typed.{IsTyped}
use Rattle.campl_types.specs.World.{World, ConstructorEntry, OfData, OfProtocol, OfCoprotocol, constructor_named, number_in, world_of}
use Rattle.campl_code.specs.Stands.{count, functions_of}
use Rattle.campl_code.specs.Needs.{behind, IsKnown, AreKnown, RowsAreKnown, FunctionRowsKnown, FunctionsKnown}

abbrev pub var_names : Vars → List Name
var_names [] = []
var_names (v ∷ vs) = v.0 ∷ var_names vs

pub names-append : (xs ys : Vars) → var_names (xs ++ ys) ≡ var_names xs ++ var_names ys
names-append [] ys = refl
names-append (x ∷ xs) ys = ap (λ (l : List Name). x.0 ∷ l) (names-append xs ys)

found-among : (x : Name) (vs : Vars) (t : SeqType) → found x vs ≡ Some t → is_among x (var_names vs) ≡ true
found-among x [] t h = absurd (cc h)
found-among x (v ∷ vs) t h = go (same_name x v.0) h (found-among x vs t)
  where
    go : (c : Bool) → (if c then Some v.1 else found x vs) ≡ Some t → (found x vs ≡ Some t → is_among x (var_names vs) ≡ true) → (c || is_among x (var_names vs)) ≡ true
    go true h later = refl
    go false h later = later h

behind-append : (xs ys ns : List Name) → behind (xs ++ ys) ns ≡ behind ys (behind xs ns)
behind-append [] ys ns = refl
behind-append (x ∷ xs) ys ns = behind-append xs ys (x ∷ ns)

-- The variables of a pattern that fits

abbrev Binds : Vars → List Name → Type 0
Binds xs names = (ns : List Name) → var_names xs ++ ns ≡ behind names ns

both-fit : (o q : Option Vars) (xs : Vars) → fit.both o q ≡ Some xs → (ys : Vars) × (zs : Vars) × (o ≡ Some ys) × (q ≡ Some zs) × (zs ++ ys ≡ xs)
both-fit (Some ys) (Some zs) xs i = (ys, zs, refl, refl, cc i)
both-fit (Some ys) None xs i = absurd (cc i)
both-fit None q xs i = absurd (cc i)

both-binds : (o q : Option Vars) (xs : Vars) (as' bs : List Name) → fit.both o q ≡ Some xs → ((ys : Vars) → o ≡ Some ys → Binds ys as') → ((zs : Vars) → q ≡ Some zs → Binds zs bs) → Binds xs (as' ++ bs)
both-binds o q xs as' bs h first second ns =
    let r = both-fit o q xs h in
    ap (λ (l : Vars). var_names l ++ ns) (sym r.4)
    ∙ ap (λ (l : List Name). l ++ ns) (names-append r.1 r.0)
    ∙ append_assoc (var_names r.1) (var_names r.0) ns
    ∙ second r.1 r.3 (var_names r.0 ++ ns)
    ∙ ap (behind bs) (first r.0 r.2 ns)
    ∙ sym (behind-append as' bs ns)

none-binds : (xs : Vars) → Some [] ≡ Some xs → Binds xs []
none-binds xs h ns = ap (λ (l : Vars). var_names l ++ ns) (let e : xs ≡ [] = cc h in e)

one-binds : (x : Name) (t : SeqType) (xs : Vars) → Some ((x, t) ∷ []) ≡ Some xs → Binds xs (x ∷ [])
one-binds x t xs h ns = ap (λ (l : Vars). var_names l ++ ns) (let e : xs ≡ (x, t) ∷ [] = cc h in e)

when : {A : Type 0} → (b : Bool) (o : Option A) (x : A) → (if b then o else None) ≡ Some x → o ≡ Some x
when true o x i = i
when false o x i = absurd (cc i)

built-binds : (w : World) (at : Place) (x : Name) (ps : Patterns) (there : Place) (y : Name) (ts : SeqTypes) (xs : Vars) → fits w (Constructor at x ps) (s.Named there y ts) ≡ Some xs
    → ((us : List SeqType) → all_fit w ps us ≡ Some xs → Binds xs (bound_in_all ps)) → Binds xs (bound_in_all ps)
built-binds w at x ps there y ts xs i parts = go (constructor_named w x) refl
  where
    go : (o : Option ConstructorEntry) → constructor_named w x ≡ o → Binds xs (bound_in_all ps)
    go (Some (OfData d n k)) e =
        let l : (if same_name d.name.name y then all_fit w ps (parts_at d (types.list_of ts) k) else None) ≡ Some xs = rw e at i in
        parts (parts_at d (types.list_of ts) k) (when (same_name d.name.name y) (all_fit w ps (parts_at d (types.list_of ts) k)) xs l)
    go (Some (OfProtocol d n k)) e = absurd (cc (rw e at i))
    go (Some (OfCoprotocol d n k)) e = absurd (cc (rw e at i))
    go None e = absurd (cc (rw e at i))

mutual
  pub fit-binds : (w : World) (q : Pattern) (t : SeqType) (xs : Vars) → fits w q t ≡ Some xs → Binds xs (bound_in q)
  fit-binds w (Wildcard at) t xs h = none-binds xs h
  fit-binds w (Variable at x) t xs h = one-binds x t xs h
  fit-binds w (Number at n) s.Int xs h = none-binds xs h
  fit-binds w (Negative at n) s.Int xs h = none-binds xs h
  fit-binds w (Character at c) s.Char xs h = none-binds xs h
  fit-binds w (Text at text) (s.List s.Char) xs h = none-binds xs h
  fit-binds w (True at) s.Bool xs h = none-binds xs h
  fit-binds w (False at) s.Bool xs h = none-binds xs h
  fit-binds w (p.List at ps) (s.List t) xs h = each-binds w ps t xs h
  fit-binds w (Cons at q r) (s.List t) xs h = both-binds (fits w q t) (fits w r (s.List t)) xs (bound_in q) (bound_in r) h (λ ys i. fit-binds w q t ys i) (λ zs i. fit-binds w r (s.List t) zs i)
  fit-binds w (Pair at q r) (s.Pair t u) xs h = both-binds (fits w q t) (fits w r u) xs (bound_in q) (bound_in r) h (λ ys i. fit-binds w q t ys i) (λ zs i. fit-binds w r u zs i)
  fit-binds w (Constructor at x ps) (s.Named there y ts) xs h = built-binds w at x ps there y ts xs h (λ us i. all-bind w ps us xs i)
  fit-binds w q t xs h = absurd (cc h)

  each-binds : (w : World) (ps : Patterns) (t : SeqType) (xs : Vars) → each_fits w ps t ≡ Some xs → Binds xs (bound_in_all ps)
  each-binds w no_patterns t xs h = none-binds xs h
  each-binds w (pattern_then q ps) t xs h = both-binds (fits w q t) (each_fits w ps t) xs (bound_in q) (bound_in_all ps) h (λ ys i. fit-binds w q t ys i) (λ zs i. each-binds w ps t zs i)

  pub all-bind : (w : World) (ps : Patterns) (ts : List SeqType) (xs : Vars) → all_fit w ps ts ≡ Some xs → Binds xs (bound_in_all ps)
  all-bind w no_patterns [] xs h = none-binds xs h
  all-bind w (pattern_then q ps) (t ∷ ts) xs h = both-binds (fits w q t) (all_fit w ps ts) xs (bound_in q) (bound_in_all ps) h (λ ys i. fit-binds w q t ys i) (λ zs i. all-bind w ps ts zs i)
  all-bind w ps ts xs h = absurd (cc h)

-- Expressions

mutual
  pub typed-known : (way : Way) (w : World) (vs : Vars) (a : Expr) (t : SeqType) → HasType way w vs a t → IsKnown w (var_names vs) a
  typed-known way w vs (e.Number at x) t h = tt
  typed-known way w vs (e.Character at x) t h = tt
  typed-known way w vs (e.Text at x) t h = tt
  typed-known way w vs (e.True at) t h = tt
  typed-known way w vs (e.False at) t h = tt
  typed-known way w vs (e.Variable at x) t h = found-among x vs h.0 h.1
  typed-known way w vs (e.List at e.no_exprs) t h = tt
  typed-known way w vs (e.List at (e.expr_then a rest)) t h = (typed-known way w vs a h.0 h.2, checked-known w vs rest h.0 h.3)
  typed-known way w vs (e.Cons at a b) t h = (typed-known way w vs a h.0 h.2, typed-known Checked w vs b (s.List h.0) h.3)
  typed-known way w vs (e.Append at a b) t h = (typed-known way w vs a (s.List h.0) h.2, typed-known Checked w vs b (s.List h.0) h.3)
  typed-known way w vs (e.Pair at a b) t h = (typed-known way w vs a h.0 h.3, typed-known way w vs b h.1 h.4)
  typed-known way w vs (e.If at c a b) t h = (typed-known Checked w vs c s.Bool h.0, typed-known way w vs a t h.1, typed-known Checked w vs b t h.2)
  typed-known way w vs (e.Case at a rows) t h = (typed-known Found w vs a h.0 h.1, rows-known way w vs rows h.0 t h.2)
  typed-known way w vs (e.Compare at a op b) t h = (typed-known Found w vs a h.0 h.3, typed-known Checked w vs b h.0 h.4)
  typed-known way w vs (e.Or at a b) t h = (typed-known Checked w vs a s.Bool h.1, typed-known Checked w vs b s.Bool h.2)
  typed-known way w vs (e.And at a b) t h = (typed-known Checked w vs a s.Bool h.1, typed-known Checked w vs b s.Bool h.2)
  typed-known way w vs (e.Calculate at a op b) t h = (typed-known Checked w vs a s.Int h.1, typed-known Checked w vs b s.Int h.2)
  typed-known way w vs (e.Negate at a) t h = typed-known Checked w vs a s.Int h.1
  typed-known way w vs (e.CodeOf at a) t h = typed-known Checked w vs a s.Char h.1
  typed-known way w vs (e.CharOf at a) t h = typed-known Checked w vs a s.Int h.1
  typed-known way w vs (e.Call at x args) t (f, named, (ts, l, j, parts, k)) = let r = parts-known w vs _ _ f.parameters args parts in (f, named, r.1, r.0)
  typed-known way w vs (e.Constructor at x args) t (d, n, k, named, (ts, l, j, parts, q)) = (n, ap (option_map number_in) named, (parts-known w vs _ _ k.parts args parts).0)

  pub parts-known : (w : World) (vs : Vars) (fill : Filling) (known : List Name) (ts : List SeqType) (args : Exprs) → PartsHaveTypes w vs fill known ts args → AreKnown w (var_names vs) args × (length ts ≡ count args)
  parts-known w vs fill known [] e.no_exprs h = (tt, refl)
  parts-known w vs fill known (t ∷ ts) (e.expr_then a rest) h = let r = parts-known w vs fill _ ts rest h.1 in ((typed-known _ w vs a (filled fill t) h.0, r.0), ap suc r.1)
  parts-known w vs fill known [] (e.expr_then a rest) h = absurd h
  parts-known w vs fill known (t ∷ ts) e.no_exprs h = absurd h

  checked-known : (w : World) (vs : Vars) (all : Exprs) (t : SeqType) → AllChecked w vs all t → AreKnown w (var_names vs) all
  checked-known w vs e.no_exprs t h = tt
  checked-known w vs (e.expr_then a rest) t h = (typed-known Checked w vs a t h.0, checked-known w vs rest t h.1)

  rows-known : (way : Way) (w : World) (vs : Vars) (rows : ExprRows) (u t : SeqType) → RowsHaveType way w vs rows u t → RowsAreKnown w (var_names vs) rows
  rows-known way w vs e.no_expr_rows u t h = tt
  rows-known way w vs (e.expr_row_then q a rows) u t h =
      let same : var_names (h.0 ++ vs) ≡ behind (bound_in q) (var_names vs) = names-append h.0 vs ∙ fit-binds w q u h.0 h.1 (var_names vs) in
      (subst (λ (l : List Name). IsKnown w l a) same (typed-known way w (h.0 ++ vs) a t h.3), rows-known Checked w vs rows u t h.4)

-- Functions

append-none : (xs : List Name) → xs ++ [] ≡ xs
append-none [] = refl
append-none (x ∷ xs) = ap (λ (l : List Name). x ∷ l) (append-none xs)

row-known : (w : World) (f : FunctionDecl) (r : FunctionRow) → RowIsTyped w f r → IsKnown w (behind (bound_in_all r.patterns) []) r.value
row-known w f r h =
    let same : var_names h.0 ≡ behind (bound_in_all r.patterns) [] = sym (append-none (var_names h.0)) ∙ all-bind w r.patterns f.parameters h.0 h.1 [] in
    subst (λ (l : List Name). IsKnown w l r.value) same (typed-known Checked w h.0 r.value f.result h.3)

abbrev RowsAreTyped : World → FunctionDecl → List FunctionRow → Type 0
RowsAreTyped w f [] = Unit {0}
RowsAreTyped w f (r ∷ rows) = RowIsTyped w f r × RowsAreTyped w f rows

function-known : (w : World) (f : FunctionDecl) (rows : List FunctionRow) → RowsAreTyped w f rows → FunctionRowsKnown w rows
function-known w f [] h = tt
function-known w f (r ∷ rows) h = (row-known w f r h.0, function-known w f rows h.1)

pub functions-known : (w : World) (ds : List Decl) → FunctionsAreTyped w ds → FunctionsKnown w (functions_of ds)
functions-known w [] h = tt
functions-known w (Function f ∷ ds) h = (function-known w f f.rows h.0.0, functions-known w ds h.1)
functions-known w (Data d ∷ ds) h = functions-known w ds h.1
functions-known w (Protocol d ∷ ds) h = functions-known w ds h.1
functions-known w (Coprotocol d ∷ ds) h = functions-known w ds h.1
functions-known w (Process d ∷ ds) h = functions-known w ds h.1

pub source-known : (source : Program) → IsTyped source → FunctionsKnown (world_of source) (functions_of (world_of source))
source-known source t = functions-known (world_of source) source t.functions
