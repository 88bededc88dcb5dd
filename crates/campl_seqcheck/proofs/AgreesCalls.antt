-- A call that is judged has the type: what its parameters stand for in the end are its arguments.
use Rattle.std.proofs.Common.{◌≡◌, ◌∙◌, refl, sym, ap, subst, ℕ, Bool, true, false, ◌||◌, List, [], ◌∷◌, ◌++◌, Option, Some, None, if◌then◌else◌, length, map, IsTrue, true≢false}
use Rattle.campl_tree.specs.declared.place.Place.{Place}
use Rattle.campl_tree.specs.Plain.SeqType.{SeqType, Variable}
use Rattle.campl_tree.specs.Plain.Expr as e
use Rattle.campl_tree.specs.Plain.Expr.{Expr, Exprs}
use Rattle.campl_tree.specs.Plain.Decl.{FunctionDecl, DataDecl}
use Rattle.campl_types.specs.Names.{Name, same_name, is_among, all_among, without, once, Within}
use Rattle.campl_types.proofs.Names.{same-is, among-append}
use Rattle.campl_types.specs.SameType.{IsSame, bare, nowhere}
use Rattle.campl_types.specs.Substitution.{Filling, filling, filled, types_of, variables_of, variables_of_all}
use Rattle.campl_types.specs.Fits.{Vars}
use Rattle.campl_types.specs.World.{World, variables_of_list, type_parameters, names_of}
use Rattle.campl_types.specs.Sequential.{Way, Found, Checked, HasType, PartsHaveTypes, whole}
use Rattle.campl_seqcheck.specs.declared.fault.SeqFault.{SeqFault}
use Rattle.campl_seqcheck.specs.Judged.{Judged, Is, Fails, Fine, and_then}
use Rattle.campl_seqcheck.specs.Fitting.{counted}
use Rattle.campl_matching.specs.Matching.{bound_names, is_known, matched}
use Rattle.campl_seqcheck.specs.Judging.{Wanted, meets, begun, all_bound, called, judge, judge_parts}
use Rattle.campl_seqcheck.proofs.AgreesJudged.{in-turn, counts}
use Rattle.campl_seqcheck.proofs.AgreesSame.{Meets, meets-is}
use Rattle.campl_types.proofs.Truth.{as-false, or-second}
use Rattle.campl_types.proofs.Among.{SameNames, among-within, within-among, within-left, within-right, among-same}
use Rattle.campl_seqcheck.proofs.AgreesNames.{arguments_in, arguments-long, arguments-fill}
use Rattle.campl_seqcheck.proofs.AgreesMatch.{Extends, extends-itself, extends-on, filled-kept, bound-then, match-fills}
use Rattle.campl_seqcheck.proofs.AgreesStable.{type-stable}

-- how an expression is judged where this is wanted
abbrev pub way_for : Wanted → Way
way_for None = Found
way_for (Some t) = Checked

-- the expression has the type in this way, and meets what is wanted
abbrev pub Typed : World → Vars → Expr → Wanted → SeqType → Type 0
Typed w vs a wanted u = HasType (way_for wanted) w vs a u × Meets wanted u

-- The variables of what is called

-- each variable of the parts' types and of the result is a parameter, and there are no other parameters
pub record Declares (parameters : List Name) (types : List SeqType) (result : SeqType) : Type 0 where
  pub in_parts : Within (variables_of_list types) parameters
  pub in_result : Within (variables_of result) parameters
  pub no_others : Within parameters (variables_of_list types ++ variables_of result)

without-among : (x y : Name) (zs : List Name) → same_name x y ≡ false → is_among x (without y zs) ≡ is_among x zs
without-among x y [] i = refl
without-among x y (z ∷ zs) i = go (same_name y z) refl (without-among x y zs i)
  where
    go : (b : Bool) → same_name y z ≡ b → is_among x (without y zs) ≡ is_among x zs → is_among x (if b then without y zs else z ∷ without y zs) ≡ (same_name x z || is_among x zs)
    go true e later = let d : same_name x z ≡ false = subst (λ v. same_name x v ≡ false) (same-is y z e) i in rw d later
    go false e later = ap (λ b. same_name x z || b) later

pub once-among : (x : Name) (ys : List Name) → is_among x (once ys) ≡ is_among x ys
once-among x [] = refl
once-among x (y ∷ ys) = go (same_name x y) refl (once-among x ys)
  where
    go : (b : Bool) → same_name x y ≡ b → is_among x (once ys) ≡ is_among x ys → (same_name x y || is_among x (without y (once ys))) ≡ (same_name x y || is_among x ys)
    go true e later = rw e refl
    go false e later = rw e (without-among x y (once ys) e ∙ later)

pub function-declares : (f : FunctionDecl) → Declares (type_parameters f) f.parameters f.result
function-declares f =
    record {
      in_parts = within-left (variables_of_list f.parameters) (variables_of f.result) (type_parameters f) inside;
      in_result = within-right (variables_of_list f.parameters) (variables_of f.result) (type_parameters f) inside;
      no_others = λ x i. sym (once-among x (variables_of_list f.parameters ++ variables_of f.result)) ∙ i;
    }
  where
    inside : Within (variables_of_list f.parameters ++ variables_of f.result) (type_parameters f)
    inside x i = once-among x (variables_of_list f.parameters ++ variables_of f.result) ∙ i

pub whole-variables : (xs : List Name) → variables_of_all (types_of (map (Variable nowhere) xs)) ≡ xs
whole-variables [] = refl
whole-variables (x ∷ xs) = ap (λ rest. x ∷ rest) (whole-variables xs)

pub constructor-declares : (d : DataDecl) (types : List SeqType) → Within (variables_of_list types) (names_of d.parameters) → Declares (names_of d.parameters) types (whole d)
constructor-declares d types i =
    record {
      in_parts = i;
      in_result = λ x j. ap (is_among x) (sym (whole-variables (names_of d.parameters))) ∙ j;
      no_others = λ x j. among-append x (variables_of_list types) (variables_of (whole d)) ∙ or-second (is_among x (variables_of_list types)) (is_among x (variables_of (whole d))) (ap (is_among x) (whole-variables (names_of d.parameters)) ∙ j);
    }

-- Parts

abbrev FillAlike : Filling → Filling → List SeqType → Type 0
FillAlike h g [] = Unit {0}
FillAlike h g (t ∷ ts) = (filled h t ≡ filled g t) × FillAlike h g ts

-- parts judged: what stands for something beside, and that they have the types as these are filled in the end
pub record PartsFound (f : Filling) (types : List SeqType) (g : Filling) (Parts : Filling → List Name → Type 0) : Type 0 where
  pub extends : Extends f (variables_of_list types) g
  pub typed : (h : Filling) (known : List Name) → SameNames known (bound_names f) → FillAlike h g types → Parts h known

pub no-parts : (f g : Filling) (Parts : Filling → List Name → Type 0) → ((h : Filling) (known : List Name) → Parts h known) → ◌≡◌ {A = Judged SeqFault Filling} (Is f) (Is g) → PartsFound f [] g Parts
no-parts f g Parts all i =
    let k : f ≡ g = cc i in
    subst (λ h. PartsFound f [] h Parts) k (record { extends = extends-itself f [] (λ x j. absurd (true≢false (sym j))); typed = λ h known j m. all h known })

-- a part whose parameters stand for something was checked
known-part : (w : World) (vs : Vars) (f : Filling) (t : SeqType) (ts : List SeqType) (a : Expr) (rest : Exprs) (g : Filling) → is_known f t ≡ true
    → judge_parts w vs f (t ∷ ts) (e.expr_then a rest) ≡ Is g → (u : SeqType) × (judge w vs a (Some (filled f t)) ≡ Is u) × (judge_parts w vs f ts rest ≡ Is g)
known-part w vs f t ts a rest g k i = go (judge w vs a (Some (filled f t))) refl
  where
    go : (j : Judged SeqFault SeqType) → judge w vs a (Some (filled f t)) ≡ j → (u : SeqType) × (judge w vs a (Some (filled f t)) ≡ Is u) × (judge_parts w vs f ts rest ≡ Is g)
    go (Is u) m = (u, m, rw (k, m) at i)
    go (Fails fault) m = absurd (cc (rw (k, m) at i))

-- another was found, and matched
open-part : (w : World) (vs : Vars) (f : Filling) (t : SeqType) (ts : List SeqType) (a : Expr) (rest : Exprs) (g : Filling) → is_known f t ≡ false
    → judge_parts w vs f (t ∷ ts) (e.expr_then a rest) ≡ Is g
    → (u : SeqType) × (next : Filling) × (judge w vs a None ≡ Is u) × (matched f t u ≡ Some next) × (judge_parts w vs next ts rest ≡ Is g)
open-part w vs f t ts a rest g k i = go (judge w vs a None) refl
  where
    go : (j : Judged SeqFault SeqType) → judge w vs a None ≡ j → (u : SeqType) × (next : Filling) × (judge w vs a None ≡ Is u) × (matched f t u ≡ Some next) × (judge_parts w vs next ts rest ≡ Is g)
    go (Fails fault) m = absurd (cc (rw (k, m) at i))
    go (Is u) m = match (matched f t u) refl
      where
        match : (o : Option Filling) → matched f t u ≡ o → (v : SeqType) × (next : Filling) × (judge w vs a None ≡ Is v) × (matched f t v ≡ Some next) × (judge_parts w vs next ts rest ≡ Is g)
        match None n = absurd (cc (rw (k, m, n) at i))
        match (Some next) n = (u, next, m, n, rw (k, m, n) at i)

pub one-part : (w : World) (vs : Vars) (f : Filling) (t : SeqType) (ts : List SeqType) (a : Expr) (rest : Exprs) (g : Filling)
    → ((wanted : Wanted) (u : SeqType) → judge w vs a wanted ≡ Is u → Typed w vs a wanted u)
    → ((h : Filling) → judge_parts w vs h ts rest ≡ Is g → PartsFound h ts g (λ k known. PartsHaveTypes w vs k known ts rest))
    → judge_parts w vs f (t ∷ ts) (e.expr_then a rest) ≡ Is g
    → PartsFound f (t ∷ ts) g (λ k known. PartsHaveTypes w vs k known (t ∷ ts) (e.expr_then a rest))
one-part w vs f t ts a rest g first later i = go (is_known f t) refl
  where
    known-then : (next : Filling) → Extends f (variables_of t) next → (known : List Name) → SameNames known (bound_names f) → SameNames (known ++ variables_of t) (bound_names next)
    known-then next b known j x = among-append x known (variables_of t) ∙ ap (λ c. c || is_among x (variables_of t)) (j x) ∙ sym (b.binds x)

    go : (b : Bool) → is_known f t ≡ b → PartsFound f (t ∷ ts) g (λ k known. PartsHaveTypes w vs k known (t ∷ ts) (e.expr_then a rest))
    go true k =
        let j = known-part w vs f t ts a rest g k i in
        let m = first (Some (filled f t)) j.0 j.1 in let r = later f j.2 in
        let inside = among-within (variables_of t) (bound_names f) k in
        let own = extends-itself f (variables_of t) inside in
        record {
          extends = extends-on f f g (variables_of t) (variables_of_list ts) own r.extends;
          typed = λ h known n alike. (
            rw (among-same (variables_of t) known (bound_names f) n, k)
                (type-stable Checked w vs a j.0 (filled h t) (m.1 ∙ ap bare (sym (alike.0 ∙ filled-kept f g (variables_of_list ts) t r.extends inside))) m.0),
            r.typed h (known ++ variables_of t) (known-then f own known n) alike.1,
          );
        }
    go false k =
        let j = open-part w vs f t ts a rest g k i in
        let m = first None j.0 j.2 in
        let b = match-fills f t j.0 j.1 j.3 in
        let r = later j.1 j.4 in
        record {
          extends = extends-on f j.1 g (variables_of t) (variables_of_list ts) b.0 r.extends;
          typed = λ h known n alike. (
            rw (among-same (variables_of t) known (bound_names f) n, k)
                (type-stable Found w vs a j.0 (filled h t) (sym b.1 ∙ ap bare (sym (alike.0 ∙ filled-kept j.1 g (variables_of_list ts) t r.extends (bound-then f j.1 (variables_of t) b.0)))) m.0),
            r.typed h (known ++ variables_of t) (known-then j.1 b.0 known n) alike.1,
          );
        }

-- Calls

abbrev pub known_at : Way → SeqType → List Name
known_at Found result = []
known_at Checked result = variables_of result

abbrev pub TellAll : Way → (parameters : List Name) → List SeqType → Type 0
TellAll Found parameters types = IsTrue (all_among parameters (variables_of_list types))
TellAll Checked parameters types = Unit {0}

-- the call of what has these parameters, types of parts and result
abbrev pub IsCalled : Way → (parameters : List Name) → List SeqType → (result t : SeqType) → (Filling → List Name → Type 0) → Type 0
IsCalled way parameters types result t Parts =
    (ts : List SeqType) × (length ts ≡ length parameters) × IsSame t (filled (filling parameters ts) result)
    × Parts (filling parameters ts) (known_at way result) × TellAll way parameters types

start-known : (at : Place) (parameters : List Name) (result : SeqType) (wanted : Wanted) (start : Filling) → Within (variables_of result) parameters → begun at parameters result wanted ≡ Is start → SameNames (known_at (way_for wanted) result) (bound_names start)
start-known at [] result None start inside i x = let e : [] ≡ start = cc i in ap (λ f. is_among x (bound_names f)) e
start-known at (y ∷ ys) result None start inside i x = let e : [] ≡ start = cc i in ap (λ f. is_among x (bound_names f)) e
start-known at [] result (Some t) start inside i x =
    let e : [] ≡ start = cc i in as-false (is_among x (variables_of result)) (λ k. true≢false (sym (inside x k))) ∙ ap (λ f. is_among x (bound_names f)) e
start-known at (y ∷ ys) result (Some t) start inside i x = go (matched [] result t) refl
  where
    go : (o : Option Filling) → matched [] result t ≡ o → is_among x (variables_of result) ≡ is_among x (bound_names start)
    go None k = absurd (cc (rw k at i))
    go (Some f) k = let j : Is f ≡ Is start = rw k at i in let e : f ≡ start = cc j in let b = match-fills [] result t f k in sym (b.0.binds x) ∙ ap (λ g. is_among x (bound_names g)) e

bound-is : (at : Place) (parameters : List Name) (f : Filling) (x : Fine) → all_bound at parameters f ≡ Is x → Within parameters (bound_names f)
bound-is at parameters f x i = go (all_among parameters (bound_names f)) refl
  where
    go : (b : Bool) → all_among parameters (bound_names f) ≡ b → Within parameters (bound_names f)
    go true k = among-within parameters (bound_names f) k
    go false k = absurd (cc (rw k at i))

fill-alike : (g : Filling) (parameters : List Name) (types : List SeqType) → Within (variables_of_list types) parameters → Within parameters (bound_names g) → FillAlike (filling parameters (arguments_in g parameters)) g types
fill-alike g parameters [] i j = tt
fill-alike g parameters (t ∷ ts) i j =
    let own = within-left (variables_of t) (variables_of_list ts) parameters i in
    (arguments-fill g parameters t own (λ x k. j x (own x k)), fill-alike g parameters ts (within-right (variables_of t) (variables_of_list ts) parameters i) j)

tell-all : (wanted : Wanted) (parameters : List Name) (types : List SeqType) (result : SeqType) (f g : Filling) → SameNames (known_at (way_for wanted) result) (bound_names f) → Extends f (variables_of_list types) g → Within parameters (bound_names g) → TellAll (way_for wanted) parameters types
tell-all None parameters types result f g i b j =
    within-among parameters (variables_of_list types) (λ x k. go x (is_among x (bound_names f)) (i x) (sym (b.binds x) ∙ j x k))
  where
    go : (x : Name) (c : Bool) → false ≡ c → (c || is_among x (variables_of_list types)) ≡ true → is_among x (variables_of_list types) ≡ true
    go x true k m = absurd (true≢false (sym k))
    go x false k m = m
tell-all (Some t) parameters types result f g i b j = tt

pub called-typed : (at : Place) (parameters : List Name) (number : ℕ) (types : List SeqType) (result : SeqType) (wanted : Wanted) (u : SeqType) (parts : Filling → Judged SeqFault Filling) (Parts : Filling → List Name → Type 0)
    → Declares parameters types result → ((f g : Filling) → number ≡ length types → parts f ≡ Is g → PartsFound f types g Parts)
    → called at parameters number types result wanted parts ≡ Is u → IsCalled (way_for wanted) parameters types result u Parts × Meets wanted u
called-typed at parameters number types result wanted u parts Parts declares each i =
    let a = in-turn (counted at number (length types)) (λ x. and_then (begun at parameters result wanted) (λ start. and_then (parts start) (λ fill. and_then (all_bound at parameters fill) (λ y. meets at wanted (filled fill result))))) u i in
    let b = in-turn (begun at parameters result wanted) (λ start. and_then (parts start) (λ fill. and_then (all_bound at parameters fill) (λ y. meets at wanted (filled fill result)))) u a.2 in
    let c = in-turn (parts b.0) (λ fill. and_then (all_bound at parameters fill) (λ y. meets at wanted (filled fill result))) u b.2 in
    let d = in-turn (all_bound at parameters c.0) (λ y. meets at wanted (filled c.0 result)) u c.2 in
    let m = meets-is at wanted (filled c.0 result) u d.2 in
    let r = each b.0 c.0 (counts at number (length types) a.0 a.1) c.1 in
    let inside = bound-is at parameters c.0 d.0 d.1 in
    let known = start-known at parameters result wanted b.0 declares.in_result b.1 in (
      (
        arguments_in c.0 parameters,
        arguments-long c.0 parameters,
        ap bare (sym m.0 ∙ sym (arguments-fill c.0 parameters result declares.in_result (λ x k. inside x (declares.in_result x k)))),
        r.typed (filling parameters (arguments_in c.0 parameters)) (known_at (way_for wanted) result) known (fill-alike c.0 parameters types declares.in_parts inside),
        tell-all wanted parameters types result b.0 c.0 known r.extends inside,
      ),
      m.1,
    )
