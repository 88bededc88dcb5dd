-- A body's commands in turn.
use Rattle.std.proofs.Common.{◌≡◌, ◌∙◌, refl, sym, ap, ℕ, suc, ◌+◌, ◌-◌, ◌<◌, ◌≤◌, List, [], ◌∷◌, ◌++◌, map, length, length-append, append_assoc, drop, get_or, arith}
use Rattle.std.proofs.lemmas.List.{drop_all, drop_more}
use Rattle.campl_tree.specs.declared.place.Place.{Place}
use Rattle.campl_tree.specs.declared.place.Ident.{Ident}
use Rattle.campl_tree.specs.declared.process.Action.{Action}
use Rattle.campl_tree.specs.declared.process.Binder.{Binder}
use Rattle.campl_tree.specs.declared.process.Binder.TheVariants as binder
use Rattle.campl_tree.specs.declared.process.Body as body
use Rattle.campl_tree.specs.Plain.Expr as e
use Rattle.campl_tree.specs.Plain.Process as b
use Rattle.campl_tree.specs.View.{view_action, view_last, view_body, actions_then}
use Rattle.campl_tree.proofs.Views.{view_body-out}
use Rattle.campl_types.specs.Names.{Name, found}
use Rattle.campl_types.specs.World.{World}
use Rattle.campl_types.specs.Matching.{number_of}
use Rattle.campl_code.specs.Generated.{or_zero}
use Rattle.campl_code.specs.Instructions as i
use Rattle.campl_code.specs.Instructions.{Instr}
use Rattle.campl_code.specs.Numbers.{Numbers}
use Rattle.campl_code_bodies.specs.Bodies.{Channels, without, binds}
use Rattle.campl_code_bodies.specs.BodyCode.{number}
use Rattle.campl_gen_exprs.specs.Emission.{emitted}
use Rattle.campl_gen_channels.specs.Numbers.{NumbersAlike}
use Rattle.campl_gen_channels.proofs.Alike.{alike-on, alike-more}
use Rattle.campl_gen_bodies.specs.Making.{Making, pushed, valued, received, left_at, bare, built}
use Rattle.campl_gen_bodies.specs.Actions.{Stage, built_on, Grown, GoesOn}
use Rattle.campl_gen_bodies.proofs.Commands.{built-same, put-so, get-so, hput-so, split-so, close-so}

pub drop-at : {A : Type 0} (xs : List A) (n : ℕ) (x : A) → n < length xs → x ≡ get_or xs n x → drop n xs ≡ x ∷ drop (n + 1) xs
drop-at xs n x l is = drop_more xs n x l ∙ ap (λ y. y ∷ drop (n + 1) xs) (sym is)

-- what is behind a prefix
pub behind-all : {A : Type 0} (xs ys : List A) → drop (length (xs ++ ys) - length ys) (xs ++ ys) ≡ ys
behind-all xs ys = let same : length (xs ++ ys) - length ys ≡ length xs = omega (arith, length-append xs ys) in ap (λ n. drop n (xs ++ ys)) same ∙ go xs ys
  where
    go : {A : Type 0} (us vs : List A) → drop (length us) (us ++ vs) ≡ vs
    go [] vs = refl
    go (u ∷ us) vs = go us vs

-- Variables

pub none-grown : (s t : Making) → t.emission.numbers ≡ s.emission.numbers → Grown s t
none-grown s t is = record { more = []; told = is }

bound-grown : (v : Binder) (n : ℕ) (ns : Numbers) → (more : Numbers) × (binds v n ns ≡ more ++ ns)
bound-grown (binder.Variable at x) n ns = ((x, n) ∷ [], refl)
bound-grown (binder.Wildcard at) n ns = ([], refl)

grown-on : (s t u : Making) → Grown s t → Grown t u → Grown s u
grown-on s t u g h = record { more = h.more ++ g.more; told = h.told ∙ ap (λ l. h.more ++ l) g.told ∙ sym (append_assoc h.more g.more s.emission.numbers) }

-- One command

abbrev stage : ℕ → Channels → Making → Stage
stage next cs s = record { next = next; held = cs; making = s }

module _ (w : World) (at : Place) (next : ℕ) (cs : Channels) (s t : Making) where
  pub put-on : (a : e.Expr) (x : Ident) → t ≡ pushed (i.Put (number x.name cs) ∷ []) (valued w a s) → GoesOn w (b.Put at a x ∷ []) (stage next cs s) (stage next cs t)
  unfolding emitted
  put-on a x is = record { made = λ last. ap (λ u. bare (built w last next cs u)) is ∙ put-so w last at next cs s a x; grown = none-grown s t (ap (λ (u : Making). u.emission.numbers) is) }

  pub get-on : (v : Binder) (x : Ident) → t ≡ received v (pushed (i.Get (number x.name cs) s.emission.free ∷ []) s) → GoesOn w (b.Get at v x ∷ []) (stage next cs s) (stage next cs t)
  get-on v x is =
      let g = bound-grown v s.emission.free s.emission.numbers in
      record { made = λ last. ap (λ u. bare (built w last next cs u)) is ∙ get-so w last at next cs s v x; grown = record { more = g.0; told = ap (λ (u : Making). u.emission.numbers) is ∙ g.1 } }

  pub hput-on : (k x : Ident) → t ≡ pushed (i.Pick (number x.name cs) (or_zero (number_of w k.name)) ∷ []) s → GoesOn w (b.Hput at k x ∷ []) (stage next cs s) (stage next cs t)
  hput-on k x is = record { made = λ last. ap (λ u. bare (built w last next cs u)) is ∙ hput-so w last at next cs s k x; grown = none-grown s t (ap (λ (u : Making). u.emission.numbers) is) }

  pub split-on : (x y z : Ident) (n : ℕ) (ds : Channels) → n ≡ suc (suc next) → NumbersAlike ds ((z.name, suc next) ∷ (y.name, next) ∷ without x.name cs) → t ≡ pushed (i.Split (number x.name cs) next (suc next) ∷ []) s
      → GoesOn w (b.Split at x y z ∷ []) (stage next cs s) (stage n ds t)
  split-on x y z n ds two same is = record {
    made = λ last. ap (λ u. bare (built w last n ds u)) is ∙ ap (λ k. bare (built w last k ds (pushed (i.Split (number x.name cs) next (suc next) ∷ []) s))) two ∙ split-so w last at next cs s x y z ds same;
    grown = none-grown s t (ap (λ (u : Making). u.emission.numbers) is);
  }

  pub close-on : (x : Ident) (n : ℕ) (ds : Channels) → n ≡ next → NumbersAlike ds (without x.name cs) → t ≡ pushed (i.Close (number x.name cs) ∷ []) s → GoesOn w (b.Close at x ∷ []) (stage next cs s) (stage n ds t)
  close-on x n ds one same is = record {
    made = λ last. ap (λ u. bare (built w last n ds u)) is ∙ ap (λ k. bare (built w last k ds (pushed (i.Close (number x.name cs) ∷ []) s))) one ∙ close-so w last at next cs s x ds same;
    grown = none-grown s t (ap (λ (u : Making). u.emission.numbers) is);
  }

-- the channels behind a split
pub split-held : (x y z : Name) (n m : ℕ) (cs c0 c1 c2 : Channels) → NumbersAlike c0 (without x cs) → NumbersAlike c1 ((y, n) ∷ c0) → NumbersAlike c2 ((z, m) ∷ c1) → m ≡ suc n → NumbersAlike c2 ((z, suc n) ∷ (y, n) ∷ without x cs)
split-held x y z n m cs c0 c1 c2 gone first second one =
    alike-on c2 ((z, m) ∷ c1) ((z, suc n) ∷ (y, n) ∷ without x cs) second
    (alike-on ((z, m) ∷ c1) ((z, suc n) ∷ c1) ((z, suc n) ∷ (y, n) ∷ without x cs) (record { told = λ v. ap (λ k. found v ((z, k) ∷ c1)) one })
    (alike-more z (suc n) c1 ((y, n) ∷ without x cs) (alike-on c1 ((y, n) ∷ c0) ((y, n) ∷ without x cs) first (alike-more y n c0 (without x cs) gone))))

pub ruleset splits = (split-held)

-- Commands in turn

pub none-on : (w : World) (s : Stage) → GoesOn w [] s s
none-on w s = record { made = λ last. refl; grown = none-grown s.making s.making refl }

-- one more command
pub goes-more : (w : World) (actions : List Action) (n : ℕ) (a : Action) (s t : Stage) (all : List b.Action) (first : Stage) → n < length actions → a ≡ get_or actions n a → GoesOn w (view_action a ∷ []) s t
    → ((last : b.Body) → bare (built_on w (actions_then (map view_action (drop n actions)) last) s) ≡ bare (built_on w (actions_then all last) first))
    → (last : b.Body) → bare (built_on w (actions_then (map view_action (drop (n + 1) actions)) last) t) ≡ bare (built_on w (actions_then all last) first)
goes-more w actions n a s t all first l is goes before last =
    let rest = actions_then (map view_action (drop (n + 1) actions)) last in
    goes.made rest ∙ sym (ap (λ d. bare (built_on w (actions_then (map view_action d) last) s)) (drop-at actions n a l is)) ∙ before last

pub goes-end : (w : World) (actions : List Action) (n : ℕ) (s : Stage) (all : List b.Action) (first : Stage) → length actions ≤ n
    → ((last : b.Body) → bare (built_on w (actions_then (map view_action (drop n actions)) last) s) ≡ bare (built_on w (actions_then all last) first))
    → (last : b.Body) → bare (built_on w last s) ≡ bare (built_on w (actions_then all last) first)
goes-end w actions n s all first l before last = sym (ap (λ d. bare (built_on w (actions_then (map view_action d) last) s)) (drop_all n actions l)) ∙ before last

pub grown-more : (s t u : Making) → Grown s t → Grown t u → Grown s u
grown-more = grown-on

-- A whole body

-- the same code and decisions, and the variables of before
from-bare : (s t : Making) (free : ℕ) (ns : Numbers) → bare s ≡ bare t
    → ◌≡◌ {A = Making} (record { emission = record { code = s.emission.code; decisions = s.emission.decisions; free = free; numbers = ns }; decisions = s.decisions })
    (record { emission = record { code = t.emission.code; decisions = t.emission.decisions; free = free; numbers = ns }; decisions = t.decisions })
from-bare s t free ns same = ap (λ (u : Making). record { emission = record { code = u.emission.code; decisions = u.emission.decisions; free = free; numbers = ns }; decisions = u.decisions }) same

-- its commands, the last one, and then the variables of before
pub body-so : (w : World) (q : body.Body) (next n : ℕ) (cs ds : Channels) (s u v : Making) (t : Stage) (actions : List Action) → n ≡ next → NumbersAlike ds cs → actions ≡ (body.out-Body q).actions
    → GoesOn w (map view_action actions) (stage n ds s) t
    → u ≡ built_on w (view_last (body.out-Body q).last) t → v ≡ left_at (length s.emission.numbers) s.emission.free u → v ≡ built w (view_body q) next cs s
unfolding built
body-so w q next n cs ds s u v t actions one same are goes is left =
    let ns = s.emission.numbers in
    let f = s.emission.free in
    let last = view_last (body.out-Body q).last in
    let kept : u.emission.numbers ≡ goes.grown.more ++ ns = ap (λ (x : Making). x.emission.numbers) is ∙ goes.grown.told in
    let numbers : drop (length u.emission.numbers - length ns) u.emission.numbers ≡ ns = ap (λ (l : Numbers). drop (length l - length ns) l) kept ∙ behind-all goes.grown.more ns in
    let whole : bare u ≡ bare (built w (view_body q) next cs s) =
    ap bare is ∙ goes.made last ∙ ap (λ l. bare (built w (actions_then (map view_action l) last) n ds s)) are ∙ ap (λ x. bare (built w x n ds s)) (sym (view_body-out q))
    ∙ ap (λ k. bare (built w (view_body q) k ds s)) one ∙ ap bare (built-same w (view_body q) next ds cs s same) in
    left ∙ ap (λ (l : Numbers). record { emission = record { code = u.emission.code; decisions = u.emission.decisions; free = f; numbers = l }; decisions = u.decisions }) numbers
    ∙ from-bare u (built w (view_body q) next cs s) f ns whole
