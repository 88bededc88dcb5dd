-- What is made of each command.
use Rattle.std.proofs.Common.{◌≡◌, ◌∙◌, refl, sym, ap, ℕ, zero, suc, ◌+◌, Bool, false, max, List, [], ◌∷◌, ◌++◌, Option, Some, None, if◌then◌else◌, length, length-append, append_assoc, arith}
use Rattle.std.specs.Prelude.{slice_set}
use Rattle.campl_tree.specs.declared.place.Place.{Place}
use Rattle.campl_tree.specs.declared.place.Ident.{Ident}
use Rattle.campl_tree.specs.declared.process.Binder.{Binder}
use Rattle.campl_tree.specs.Plain.Expr as e
use Rattle.campl_tree.specs.Plain.Expr.{Expr, Exprs}
use Rattle.campl_tree.specs.Plain.Pattern.{Pattern}
use Rattle.campl_tree.specs.Plain.Process as b
use Rattle.campl_tree.specs.Plain.Process.{Body, Parts, Link}
use Rattle.campl_tree.specs.View.{hcase_rows, branches, case_rows}
use Rattle.campl_types.specs.Names.{Name}
use Rattle.campl_types.specs.World.{World}
use Rattle.campl_types.specs.Matching.{number_of, is_number}
use Rattle.campl_types.specs.Patterns.{bound_in}
use Rattle.campl_types.specs.Linear.{body_rows}
use Rattle.campl_peel.specs.Numbered.{last_first}
use Rattle.campl_peel.specs.Plugging.{side_in, without_link}
use Rattle.campl_code.specs.CaseDecisions.{cases_in, cases_in_all, decisions_of, decisions_of_all}
use Rattle.campl_code.specs.Compiled.{decision_for}
use Rattle.campl_code.specs.Decisions.{Decision}
use Rattle.campl_code.specs.Generated.{or_zero, code_of, code_of_all}
use Rattle.campl_code.specs.Instructions as i
use Rattle.campl_code.specs.Instructions.{Instr}
use Rattle.campl_code.specs.Numbers.{Numbers, numbered}
use Rattle.campl_code.proofs.Whole.{many}
use Rattle.campl_code_bodies.specs.Bodies.{Channels, without, binds}
use Rattle.campl_code_bodies.specs.BodyCode.{Made, prefixed, alone, joined, number, all_numbers, process_number, hcase_made, hcase_starts, start_of, listed, count_hcase, race_made, race_starts, case_made, case_starts, peels_made, link_code, body_made}
use Rattle.campl_code_bodies.specs.BodySizes.{hcase_size, race_size, cases_size, parts_size, body_size}
use Rattle.campl_gen_exprs.proofs.Places.{set-there}
use Rattle.campl_gen_exprs.specs.Emission.{emitted, emitted_all, binding}
use Rattle.campl_gen_functions.specs.Deciding.{decided, decided_all}
use Rattle.campl_gen_channels.specs.Numbers.{NumbersAlike}
use Rattle.campl_gen_channels.proofs.Alike.{alike-itself}
use Rattle.campl_gen_bodies.specs.Making.{Making, pushed, patched, valued, all_valued, received, whole, added, bare, built}
use Rattle.campl_gen_bodies.specs.Commands.{halted, called, rows_built, row_starts, row_numbers, start_at, count_numbers, offer_places, hcase_built, race_built, cases_built, case_starts as starts_of_cases, decision_put, case_closed, case_built, first_held, second_held, fork_built}
use Rattle.campl_gen_bodies.specs.Peels.{link_of, child_built, child_held, rest_held, peeled_child, peels_built}
use Rattle.campl_gen_bodies.proofs.Alike.{hcase-alike, hcase-starts-alike, race-alike, race-starts-alike, case-alike, case-starts-alike, peels-alike, picked-fit, all-fit, whole-alike, whole-same}

-- States

abbrev state : List Instr → (count free : ℕ) → Numbers → List Decision → Making
state c d f ns ds = record { emission = record { code = c; decisions = d; free = f; numbers = ns }; decisions = ds }

same-state : (f : ℕ) (ns : Numbers) (c c' : List Instr) (d d' : ℕ) (ds ds' : List Decision) → c ≡ c' → d ≡ d' → ds ≡ ds' → state c d f ns ds ≡ state c' d' f ns ds'
same-state f ns c c' d d' ds ds' h k l = ap (λ x. state x d f ns ds) h ∙ ap (λ x. state c' x f ns ds) k ∙ ap (λ x. state c' d' f ns x) l

append-none : {A : Type 0} (xs : List A) → xs ++ [] ≡ xs
append-none [] = refl
append-none (x ∷ xs) = ap (λ (l : List _). x ∷ l) (append-none xs)

added-joined : (m n : Made) (s : Making) → added (joined m n) s ≡ added n (added m s)
added-joined m n s =
    same-state s.emission.free s.emission.numbers (s.emission.code ++ (m.code ++ n.code)) ((s.emission.code ++ m.code) ++ n.code)
    (s.emission.decisions + length (m.decisions ++ n.decisions)) (s.emission.decisions + length m.decisions + length n.decisions)
    (s.decisions ++ (m.decisions ++ n.decisions)) ((s.decisions ++ m.decisions) ++ n.decisions)
    (sym (append_assoc s.emission.code m.code n.code)) (omega (arith, length-append m.decisions n.decisions)) (sym (append_assoc s.decisions m.decisions n.decisions))

added-none : (s : Making) → added (alone [] []) s ≡ s
added-none s =
    same-state s.emission.free s.emission.numbers (s.emission.code ++ []) s.emission.code (s.emission.decisions + 0) s.emission.decisions (s.decisions ++ []) s.decisions
    (append-none s.emission.code) (omega arith) (append-none s.decisions)

pushed-is : (xs : List Instr) (s : Making) → pushed xs s ≡ added (alone xs []) s
pushed-is xs s =
    same-state s.emission.free s.emission.numbers (s.emission.code ++ xs) (s.emission.code ++ xs) s.emission.decisions (s.emission.decisions + 0) s.decisions (s.decisions ++ [])
    refl (omega arith) (sym (append-none s.decisions))

many-all : (w : World) (all : Exprs) → length (decisions_of_all w all) ≡ cases_in_all all
many-all w e.no_exprs = refl
many-all w (e.expr_then a rest) = omega (arith, length-append (decisions_of w a) (decisions_of_all w rest), many w a, many-all w rest)

abbrev value-code : World → Expr → Making → List Instr
value-code w a s = code_of w false a (length s.emission.code) s.emission.decisions s.emission.free s.emission.numbers

valued-is : (w : World) (a : Expr) (s : Making) → valued w a s ≡ added (alone (value-code w a s) (decisions_of w a)) s
unfolding emitted decided
valued-is w a s =
    same-state s.emission.free s.emission.numbers (s.emission.code ++ value-code w a s) (s.emission.code ++ value-code w a s)
    (s.emission.decisions + cases_in a) (s.emission.decisions + length (decisions_of w a)) (s.decisions ++ decisions_of w a) (s.decisions ++ decisions_of w a)
    refl (omega (arith, many w a)) refl

abbrev values-code : World → Exprs → Making → List Instr
values-code w args s = code_of_all w args (length s.emission.code) s.emission.decisions s.emission.free s.emission.numbers

all-valued-is : (w : World) (args : Exprs) (s : Making) → all_valued w args s ≡ added (alone (values-code w args s) (decisions_of_all w args)) s
unfolding emitted_all decided_all
all-valued-is w args s =
    same-state s.emission.free s.emission.numbers (s.emission.code ++ values-code w args s) (s.emission.code ++ values-code w args s)
    (s.emission.decisions + cases_in_all args) (s.emission.decisions + length (decisions_of_all w args)) (s.decisions ++ decisions_of_all w args) (s.decisions ++ decisions_of_all w args)
    refl (omega (arith, many-all w args)) refl

-- one instruction behind what a value made
then-pushed : (z : List Instr) (ds : List Decision) (x : Instr) (s : Making) → pushed (x ∷ []) (added (alone z ds) s) ≡ added (alone (z ++ x ∷ []) ds) s
then-pushed z ds x s =
    same-state s.emission.free s.emission.numbers ((s.emission.code ++ z) ++ x ∷ []) (s.emission.code ++ (z ++ x ∷ [])) (s.emission.decisions + length ds) (s.emission.decisions + length ds) (s.decisions ++ ds) (s.decisions ++ ds)
    (append_assoc s.emission.code z (x ∷ [])) refl refl

-- Bodies behind what is made

module _ (w : World) (body : Body) (next : ℕ) (cs : Channels) where
  pub built-behind : (m : Made) (s : Making) → built w body next cs (added m s)
      ≡ added (joined m (whole w body (length s.emission.code + length m.code) (s.emission.decisions + length m.decisions) s.emission.free s.emission.numbers next cs)) s
  unfolding built
  built-behind m s =
      ap (λ n. added (whole w body n (s.emission.decisions + length m.decisions) s.emission.free s.emission.numbers next cs) (added m s)) (length-append s.emission.code m.code)
      ∙ sym (added-joined m (whole w body (length s.emission.code + length m.code) (s.emission.decisions + length m.decisions) s.emission.free s.emission.numbers next cs) s)

  -- with other variables in scope
  bare-behind : (t s : Making) (m : Made) → bare t ≡ bare (added m s) → bare (built w body next cs t)
      ≡ bare (added (joined m (whole w body (length s.emission.code + length m.code) (s.emission.decisions + length m.decisions) t.emission.free t.emission.numbers next cs)) s)
  unfolding built
  bare-behind t s m same =
      ap (λ (u : Making). bare (added (whole w body (length u.emission.code) u.emission.decisions t.emission.free t.emission.numbers next cs) u)) same
      ∙ ap (λ n. bare (added (whole w body n (s.emission.decisions + length m.decisions) t.emission.free t.emission.numbers next cs) (added m s))) (length-append s.emission.code m.code)
      ∙ ap bare (sym (added-joined m (whole w body (length s.emission.code + length m.code) (s.emission.decisions + length m.decisions) t.emission.free t.emission.numbers next cs) s))

  pub built-same : (ds : Channels) (s : Making) → NumbersAlike cs ds → built w body next cs s ≡ built w body next ds s
  unfolding built
  built-same ds s same = ap (λ m. added m s) (whole-same w body (length s.emission.code) s.emission.decisions s.emission.free s.emission.numbers next cs ds same)

-- an instruction behind which the body goes on
one-more : (w : World) (rest : Body) (next : ℕ) (cs : Channels) (x : Instr) (s : Making)
    → built w rest next cs (pushed (x ∷ []) s) ≡ added (prefixed (x ∷ []) [] (whole w rest (length s.emission.code + 1) s.emission.decisions s.emission.free s.emission.numbers next cs)) s
one-more w rest next cs x s =
    let z : s.emission.decisions + 0 ≡ s.emission.decisions = omega arith in
    ap (built w rest next cs) (pushed-is (x ∷ []) s) ∙ built-behind w rest next cs (alone (x ∷ []) []) s
    ∙ ap (λ d. added (joined (alone (x ∷ []) []) (whole w rest (length s.emission.code + 1) d s.emission.free s.emission.numbers next cs)) s) z

-- Actions: the rest is made as behind the action

module _ (w : World) (rest : Body) (at : Place) (next : ℕ) (cs : Channels) (s : Making) where
  pub put-so : (a : Expr) (x : Ident) → bare (built w rest next cs (pushed (i.Put (number x.name cs) ∷ []) (valued w a s))) ≡ bare (built w (b.Then (b.Put at a x) rest) next cs s)
  unfolding built
  put-so a x =
      let z = value-code w a s in
      let ds = decisions_of w a in
      let y = i.Put (number x.name cs) in
      let m = alone (z ++ y ∷ []) ds in
      let p : length s.emission.code + length (z ++ y ∷ []) ≡ length s.emission.code + length z + 1 = omega (arith, length-append z (y ∷ [])) in
      let q : s.emission.decisions + length ds ≡ s.emission.decisions + cases_in a = omega (arith, many w a) in
      ap (λ t. bare (built w rest next cs (pushed (y ∷ []) t))) (valued-is w a s) ∙ ap (λ t. bare (built w rest next cs t)) (then-pushed z ds y s) ∙ ap bare (built-behind w rest next cs m s)
      ∙ ap (λ n. bare (added (joined m (whole w rest n (s.emission.decisions + length ds) s.emission.free s.emission.numbers next cs)) s)) p
      ∙ ap (λ n. bare (added (joined m (whole w rest (length s.emission.code + length z + 1) n s.emission.free s.emission.numbers next cs)) s)) q

  pub get-so : (v : Binder) (x : Ident) → bare (built w rest next cs (received v (pushed (i.Get (number x.name cs) s.emission.free ∷ []) s))) ≡ bare (built w (b.Then (b.Get at v x) rest) next cs s)
  unfolding built
  get-so v x =
      let y = i.Get (number x.name cs) s.emission.free in
      let z : s.emission.decisions + 0 ≡ s.emission.decisions = omega arith in
      let f : s.emission.free + 1 ≡ suc s.emission.free = omega arith in
      bare-behind w rest next cs (received v (pushed (y ∷ []) s)) s (alone (y ∷ []) []) (ap bare (pushed-is (y ∷ []) s))
      ∙ ap (λ d. bare (added (joined (alone (y ∷ []) []) (whole w rest (length s.emission.code + 1) d (s.emission.free + 1) (binds v s.emission.free s.emission.numbers) next cs)) s)) z
      ∙ ap (λ n. bare (added (joined (alone (y ∷ []) []) (whole w rest (length s.emission.code + 1) s.emission.decisions n (binds v s.emission.free s.emission.numbers) next cs)) s)) f

  pub hput-so : (k x : Ident) → bare (built w rest next cs (pushed (i.Pick (number x.name cs) (or_zero (number_of w k.name)) ∷ []) s)) ≡ bare (built w (b.Then (b.Hput at k x) rest) next cs s)
  unfolding built
  hput-so k x = ap bare (one-more w rest next cs (i.Pick (number x.name cs) (or_zero (number_of w k.name))) s)

  pub split-so : (x y z : Ident) (ds : Channels) → NumbersAlike ds ((z.name, suc next) ∷ (y.name, next) ∷ without x.name cs)
      → bare (built w rest (suc (suc next)) ds (pushed (i.Split (number x.name cs) next (suc next) ∷ []) s)) ≡ bare (built w (b.Then (b.Split at x y z) rest) next cs s)
  unfolding built
  split-so x y z ds same =
      let t = pushed (i.Split (number x.name cs) next (suc next) ∷ []) s in
      ap bare (built-same w rest (suc (suc next)) ds ((z.name, suc next) ∷ (y.name, next) ∷ without x.name cs) t same)
      ∙ ap bare (one-more w rest (suc (suc next)) ((z.name, suc next) ∷ (y.name, next) ∷ without x.name cs) (i.Split (number x.name cs) next (suc next)) s)

  pub close-so : (x : Ident) (ds : Channels) → NumbersAlike ds (without x.name cs) → bare (built w rest next ds (pushed (i.Close (number x.name cs) ∷ []) s)) ≡ bare (built w (b.Then (b.Close at x) rest) next cs s)
  unfolding built
  close-so x ds same =
      ap bare (built-same w rest next ds (without x.name cs) (pushed (i.Close (number x.name cs) ∷ []) s) same) ∙ ap bare (one-more w rest next (without x.name cs) (i.Close (number x.name cs)) s)

-- Rows

module _ (w : World) (next : ℕ) (cs : Channels) where
  behind-row : (s : Making) (m : Made) (more : (base dec : ℕ) → Made)
      → added (more (length (s.emission.code ++ m.code)) (s.emission.decisions + length m.decisions)) (added m s)
      ≡ added (joined m (more (length s.emission.code + length m.code) (s.emission.decisions + length m.decisions))) s
  behind-row s m more =
      ap (λ n. added (more n (s.emission.decisions + length m.decisions)) (added m s)) (length-append s.emission.code m.code)
      ∙ sym (added-joined m (more (length s.emission.code + length m.code) (s.emission.decisions + length m.decisions)) s)

  hcase-are : (rows : List (Ident × Body)) (s : Making)
      → rows_built w rows next cs s ≡ added (hcase_made (whole w) (hcase_rows rows) (length s.emission.code) s.emission.decisions s.emission.free s.emission.numbers next cs) s
  unfolding built
  hcase-are [] s = sym (added-none s)
  hcase-are (r ∷ rows) s =
      let m = whole w r.1 (length s.emission.code) s.emission.decisions s.emission.free s.emission.numbers next cs in
      hcase-are rows (added m s) ∙ behind-row s m (λ base dec. hcase_made (whole w) (hcase_rows rows) base dec s.emission.free s.emission.numbers next cs)

  race-are : (rows : List (Ident × Body)) (s : Making)
      → rows_built w rows next cs s ≡ added (race_made (whole w) (branches rows) (length s.emission.code) s.emission.decisions s.emission.free s.emission.numbers next cs) s
  unfolding built
  race-are [] s = sym (added-none s)
  race-are (r ∷ rows) s =
      let m = whole w r.1 (length s.emission.code) s.emission.decisions s.emission.free s.emission.numbers next cs in
      race-are rows (added m s) ∙ behind-row s m (λ base dec. race_made (whole w) (branches rows) base dec s.emission.free s.emission.numbers next cs)

  cases-are : (rows : List (Pattern × Body)) (s : Making)
      → cases_built w rows next cs s ≡ added (case_made (whole w) (case_rows rows) (length s.emission.code) s.emission.decisions s.emission.free s.emission.numbers next cs) s
  unfolding built binding
  cases-are [] s = sym (added-none s)
  cases-are (r ∷ rows) s =
      let m = whole w r.1 (length s.emission.code) s.emission.decisions (s.emission.free + length (bound_in r.0)) (numbered s.emission.free (bound_in r.0) s.emission.numbers) next cs in
      cases-are rows (added m s) ∙ behind-row s m (λ base dec. case_made (whole w) (case_rows rows) base dec s.emission.free s.emission.numbers next cs)

  -- where they begin
  race-starts-are : (rows : List (Ident × Body)) (s : Making)
      → row_starts w rows next cs s ≡ race_starts (whole w) (branches rows) (length s.emission.code) s.emission.decisions s.emission.free s.emission.numbers next cs
  unfolding built
  race-starts-are [] s = refl
  race-starts-are (r ∷ rows) s =
      let m = whole w r.1 (length s.emission.code) s.emission.decisions s.emission.free s.emission.numbers next cs in
      ap (λ l. length s.emission.code ∷ l)
      (race-starts-are rows (added m s)
      ∙ ap (λ n. race_starts (whole w) (branches rows) n (s.emission.decisions + length m.decisions) s.emission.free s.emission.numbers next cs) (length-append s.emission.code m.code))

  case-starts-are : (rows : List (Pattern × Body)) (s : Making)
      → starts_of_cases w rows next cs s ≡ case_starts (whole w) (case_rows rows) (length s.emission.code) s.emission.decisions s.emission.free s.emission.numbers next cs
  unfolding built binding
  case-starts-are [] s = refl
  case-starts-are (r ∷ rows) s =
      let m = whole w r.1 (length s.emission.code) s.emission.decisions (s.emission.free + length (bound_in r.0)) (numbered s.emission.free (bound_in r.0) s.emission.numbers) next cs in
      ap (λ l. length s.emission.code ∷ l)
      (case-starts-are rows (added m s)
      ∙ ap (λ n. case_starts (whole w) (case_rows rows) n (s.emission.decisions + length m.decisions) s.emission.free s.emission.numbers next cs) (length-append s.emission.code m.code))

  -- by the constructors' numbers
  start-so : (rows : List (Ident × Body)) (s : Making) (n : ℕ)
      → start_at (row_numbers w rows) (row_starts w rows next cs s) n ≡ start_of w (hcase_starts (whole w) (hcase_rows rows) (length s.emission.code) s.emission.decisions s.emission.free s.emission.numbers next cs) n
  unfolding built
  start-so [] s n = refl
  start-so (r ∷ rows) s n =
      let m = whole w r.1 (length s.emission.code) s.emission.decisions s.emission.free s.emission.numbers next cs in
      ap (λ k. if is_number (number_of w r.0.name) n then length s.emission.code else k)
      (start-so rows (added m s) n
      ∙ ap (λ p. start_of w (hcase_starts (whole w) (hcase_rows rows) p (s.emission.decisions + length m.decisions) s.emission.free s.emission.numbers next cs) n) (length-append s.emission.code m.code))

count-so : (w : World) (rows : List (Ident × Body)) → count_numbers (row_numbers w rows) ≡ count_hcase w (hcase_rows rows)
count-so w [] = refl
count-so w (r ∷ rows) = ap (max (suc (or_zero (number_of w r.0.name)))) (count-so w rows)

listed-so : (f g : ℕ → ℕ) → ((n : ℕ) → f n ≡ g n) → (n more : ℕ) → listed f n more ≡ listed g n more
listed-so f g same n zero = refl
listed-so f g same n (suc more) = ap (λ k. k ∷ listed f (suc n) more) (same n) ∙ ap (λ l. g n ∷ l) (listed-so f g same (suc n) more)

offer-so : (w : World) (next : ℕ) (cs : Channels) (rows : List (Ident × Body)) (s : Making)
    → offer_places (row_numbers w rows) (row_starts w rows next cs s)
    ≡ listed (start_of w (hcase_starts (whole w) (hcase_rows rows) (length s.emission.code) s.emission.decisions s.emission.free s.emission.numbers next cs)) 0 (count_hcase w (hcase_rows rows))
offer-so w next cs rows s =
    let g = start_of w (hcase_starts (whole w) (hcase_rows rows) (length s.emission.code) s.emission.decisions s.emission.free s.emission.numbers next cs) in
    listed-so (start_at (row_numbers w rows) (row_starts w rows next cs s)) g (start-so w next cs rows s) 0 (count_numbers (row_numbers w rows))
    ∙ ap (listed g 0) (count-so w rows)

-- An instruction before what is made, written when that is known

patch-first : (x : Instr) (m : Made) (s : Making) → patched (length s.emission.code) x (added m (pushed (i.Nil ∷ []) s)) ≡ added (prefixed (x ∷ []) [] m) s
patch-first x m s =
    same-state s.emission.free s.emission.numbers (slice_set ((s.emission.code ++ i.Nil ∷ []) ++ m.code) (length s.emission.code) x) (s.emission.code ++ (x ∷ m.code))
    (s.emission.decisions + length m.decisions) (s.emission.decisions + length m.decisions) (s.decisions ++ m.decisions) (s.decisions ++ m.decisions)
    (set-there s.emission.code m.code ((s.emission.code ++ i.Nil ∷ []) ++ m.code) i.Nil x (length s.emission.code) (append_assoc s.emission.code (i.Nil ∷ []) m.code) refl) refl refl

patch-decision : (x : Instr) (d : Decision) (m : Made) (s : Making)
    → patched (length s.emission.code) x (added m (state (s.emission.code ++ i.Nil ∷ []) (s.emission.decisions + 1) s.emission.free s.emission.numbers (s.decisions ++ d ∷ [])))
    ≡ added (prefixed (x ∷ []) (d ∷ []) m) s
patch-decision x d m s =
    same-state s.emission.free s.emission.numbers (slice_set ((s.emission.code ++ i.Nil ∷ []) ++ m.code) (length s.emission.code) x) (s.emission.code ++ (x ∷ m.code))
    (s.emission.decisions + 1 + length m.decisions) (s.emission.decisions + suc (length m.decisions)) ((s.decisions ++ d ∷ []) ++ m.decisions) (s.decisions ++ (d ∷ m.decisions))
    (set-there s.emission.code m.code ((s.emission.code ++ i.Nil ∷ []) ++ m.code) i.Nil x (length s.emission.code) (append_assoc s.emission.code (i.Nil ∷ []) m.code) refl)
    (omega arith) (append_assoc s.decisions (d ∷ []) m.decisions)

-- the place behind the instruction
past-one : (s : Making) → length (s.emission.code ++ i.Nil ∷ []) ≡ length s.emission.code + 1
past-one s = length-append s.emission.code (i.Nil ∷ [])

-- Last commands

module _ (w : World) (at : Place) (next : ℕ) (cs : Channels) (s : Making) where
  pub halt-so : (x : Option Ident) → built w (b.Halt at x) next cs s ≡ halted x cs s
  unfolding built
  halt-so None = sym (pushed-is (i.Halt None ∷ []) s)
  halt-so (Some x) = sym (pushed-is (i.Halt (Some (number x.name cs)) ∷ []) s)

  pub identity-so : (x : Name) (negated : Bool) (y : Ident) → built w (b.Identity at x negated y) next cs s ≡ pushed (link_code negated (number x cs) (number y.name cs) ∷ []) s
  unfolding built
  identity-so x negated y = sym (pushed-is (link_code negated (number x cs) (number y.name cs) ∷ []) s)

  pub call-so : (x : Name) (args : Exprs) (inputs outputs : List Ident) → built w (b.Call at x args inputs outputs) next cs s ≡ called w x args inputs outputs cs s
  unfolding built
  call-so x args inputs outputs =
      let y = i.Go (or_zero (process_number w x)) (all_numbers inputs cs ++ all_numbers outputs cs) in
      sym (ap (pushed (y ∷ [])) (all-valued-is w args s) ∙ then-pushed (values-code w args s) (decisions_of_all w args) y s)

  pub hcase-so : (x : Ident) (rows : List (Ident × Body)) → built w (b.Hcase at x (hcase_rows rows)) next cs s ≡ hcase_built w x rows next cs s
  unfolding built
  hcase-so x rows =
      let all = hcase_rows rows in
      let p = pushed (i.Nil ∷ []) s in
      let k = hcase_size all in
      let n = number x.name cs in
      let offer : (ℕ → Made) → (ℕ → List ℕ) → ℕ → Making = λ m t q. added (prefixed (i.Offer n (t q) ∷ []) [] (m q)) s in
      let m1 : ℕ → Made = λ q. hcase_made (body_made w k) all q s.emission.decisions s.emission.free s.emission.numbers next cs in
      let m2 : ℕ → Made = λ q. hcase_made (whole w) all q s.emission.decisions s.emission.free s.emission.numbers next cs in
      let t1 : ℕ → List ℕ = λ q. listed (start_of w (hcase_starts (body_made w k) all q s.emission.decisions s.emission.free s.emission.numbers next cs)) 0 (count_hcase w all) in
      let t2 : ℕ → List ℕ = λ q. listed (start_of w (hcase_starts (whole w) all q s.emission.decisions s.emission.free s.emission.numbers next cs)) 0 (count_hcase w all) in
      let q1 = length s.emission.code + 1 in
      let q2 = length (s.emission.code ++ i.Nil ∷ []) in
      ap (λ m. added (prefixed (i.Offer n (t1 q1) ∷ []) [] m) s) (hcase-alike w k (body_made w k) (whole w) (whole-alike w k) all (omega arith) q1 s.emission.decisions s.emission.free s.emission.numbers next cs cs (alike-itself cs))
      ∙ ap (λ t. added (prefixed (i.Offer n (listed (start_of w t) 0 (count_hcase w all)) ∷ []) [] (m2 q1)) s)
      (hcase-starts-alike w k (body_made w k) (whole w) (whole-alike w k) all (omega arith) q1 s.emission.decisions s.emission.free s.emission.numbers next cs cs (alike-itself cs))
      ∙ ap (offer m2 t2) (sym (past-one s))
      ∙ sym (patch-first (i.Offer n (t2 q2)) (m2 q2) s)
      ∙ ap (λ t. patched (length s.emission.code) (i.Offer n t) (added (m2 q2) p)) (sym (offer-so w next cs rows p))
      ∙ ap (patched (length s.emission.code) (i.Offer n (offer_places (row_numbers w rows) (row_starts w rows next cs p)))) (sym (hcase-are w next cs rows p))

  pub race-so : (rows : List (Ident × Body)) → built w (b.Race at (branches rows)) next cs s ≡ race_built w rows next cs s
  unfolding built
  race-so rows =
      let all = branches rows in
      let p = pushed (i.Nil ∷ []) s in
      let k = race_size all in
      let m2 : ℕ → Made = λ q. race_made (whole w) all q s.emission.decisions s.emission.free s.emission.numbers next cs in
      let t2 : ℕ → List ℕ = λ q. race_starts (whole w) all q s.emission.decisions s.emission.free s.emission.numbers next cs in
      let q1 = length s.emission.code + 1 in
      let q2 = length (s.emission.code ++ i.Nil ∷ []) in
      ap (λ m. added (prefixed (i.Race (race_starts (body_made w k) all q1 s.emission.decisions s.emission.free s.emission.numbers next cs) ∷ []) [] m) s)
      (race-alike w k (body_made w k) (whole w) (whole-alike w k) all (omega arith) q1 s.emission.decisions s.emission.free s.emission.numbers next cs cs (alike-itself cs))
      ∙ ap (λ t. added (prefixed (i.Race t ∷ []) [] (m2 q1)) s)
      (race-starts-alike w k (body_made w k) (whole w) (whole-alike w k) all (omega arith) q1 s.emission.decisions s.emission.free s.emission.numbers next cs cs (alike-itself cs))
      ∙ ap (λ q. added (prefixed (i.Race (t2 q) ∷ []) [] (m2 q)) s) (sym (past-one s))
      ∙ sym (patch-first (i.Race (t2 q2)) (m2 q2) s)
      ∙ ap (λ t. patched (length s.emission.code) (i.Race t) (added (m2 q2) p)) (sym (race-starts-are w next cs rows p))
      ∙ ap (patched (length s.emission.code) (i.Race (row_starts w rows next cs p))) (sym (race-are w next cs rows p))

  pub case-so : (a : Expr) (rows : List (Pattern × Body)) → built w (b.Case at a (case_rows rows)) next cs s ≡ case_built w a (case_rows rows) rows next cs s
  unfolding built
  case-so a rows =
      let all = case_rows rows in
      let k = cases_size all in
      let f = s.emission.free in
      let ns = s.emission.numbers in
      let z = value-code w a s in
      let ds = decisions_of w a in
      let d = decision_for w 1 (body_rows all) in
      let t = added (alone z ds) s in
      let u = decision_put w all t in
      let m2 : ℕ → ℕ → Made = λ q c. case_made (whole w) all q c f ns next cs in
      let t2 : ℕ → ℕ → List ℕ = λ q c. case_starts (whole w) all q c f ns next cs in
      let q1 = length s.emission.code + length z + 1 in
      let q2 = length ((s.emission.code ++ z) ++ i.Nil ∷ []) in
      let c1 = s.emission.decisions + cases_in a in
      let c2 = s.emission.decisions + length ds in
      let qs : q1 ≡ q2 = omega (arith, length-append (s.emission.code ++ z) (i.Nil ∷ []), length-append s.emission.code z) in
      let cs' : c1 ≡ c2 = omega (arith, many w a) in
      let made : (ℕ → ℕ → Made) → (ℕ → ℕ → List ℕ) → ℕ → ℕ → Making = λ m l q c. added (prefixed (z ++ i.Case c f (l q (c + 1)) ∷ []) (ds ++ d ∷ []) (m q (c + 1))) s in
      let x = i.Case c2 f (t2 q2 (c2 + 1)) in
      ap (λ m. added (prefixed (z ++ i.Case c1 f (case_starts (body_made w k) all q1 (c1 + 1) f ns next cs) ∷ []) (ds ++ d ∷ []) m) s)
      (case-alike w k (body_made w k) (whole w) (whole-alike w k) all (omega arith) q1 (c1 + 1) f ns next cs cs (alike-itself cs))
      ∙ ap (λ l. added (prefixed (z ++ i.Case c1 f l ∷ []) (ds ++ d ∷ []) (m2 q1 (c1 + 1))) s)
      (case-starts-alike w k (body_made w k) (whole w) (whole-alike w k) all (omega arith) q1 (c1 + 1) f ns next cs cs (alike-itself cs))
      ∙ ap (λ q. made m2 t2 q c1) qs ∙ ap (made m2 t2 q2) cs'
      ∙ ap (λ m. added m s) (made-so z ds x d (m2 q2 (c2 + 1)))
      ∙ added-joined (alone z ds) (prefixed (x ∷ []) (d ∷ []) (m2 q2 (c2 + 1))) s
      ∙ sym (patch-decision x d (m2 q2 (c2 + 1)) t)
      ∙ ap (λ l. patched (length (s.emission.code ++ z)) (i.Case c2 f l) (added (m2 q2 (c2 + 1)) u)) (sym (case-starts-are w next cs rows u))
      ∙ ap (patched (length (s.emission.code ++ z)) (i.Case c2 f (starts_of_cases w rows next cs u))) (sym (cases-are w next cs rows u))
      ∙ ap (λ (v : Making). case_closed w rows (length v.emission.code) v.emission.decisions next cs (decision_put w all v)) (sym (valued-is w a s))
    where
      made-so : (z : List Instr) (ds : List Decision) (x : Instr) (d : Decision) (m : Made) → prefixed (z ++ x ∷ []) (ds ++ d ∷ []) m ≡ joined (alone z ds) (prefixed (x ∷ []) (d ∷ []) m)
      made-so z ds x d m =
          ap (λ c. record { code = c; decisions = (ds ++ d ∷ []) ++ m.decisions }) (append_assoc z (x ∷ []) m.code) ∙ ap (λ c. record { code = z ++ (x ∷ m.code); decisions = c }) (append_assoc ds (d ∷ []) m.decisions)

  pub fork-so : (x : Ident) (left right : Ident × Body) → built w (b.Fork at x left.0 left.1 right.0 right.1) next cs s ≡ fork_built w x left right next cs s
  unfolding built
  fork-so x left right =
      let n = number x.name cs in
      let p = pushed (i.Nil ∷ []) s in
      let k = body_size left.1 + body_size right.1 in
      let f = s.emission.free in
      let ns = s.emission.numbers in
      let c = s.emission.decisions in
      let mine = first_held x left next cs in
      let its = second_held x left right next cs in
      let whole-left : ℕ → Made = λ q. whole w left.1 q c f ns (suc (suc next)) mine in
      let whole-right : ℕ → ℕ → Made = λ q d. whole w right.1 q d f ns (suc (suc next)) its in
      let fork : (ℕ → Made) → (ℕ → ℕ → Made) → ℕ → Making = λ l r q.
      let to = q + length (l q).code in
      let m = r to (c + length (l q).decisions) in
      added (record { code = i.Fork n next (suc next) to ∷ ((l q).code ++ m.code); decisions = (l q).decisions ++ m.decisions }) s in
      let q1 = length s.emission.code + 1 in
      let q2 = length (s.emission.code ++ i.Nil ∷ []) in
      let l2 = whole-left q2 in
      let to2 = length ((s.emission.code ++ i.Nil ∷ []) ++ l2.code) in
      let r2 = whole-right to2 (c + length l2.decisions) in
      ap (λ (l : Made). fork (λ q. l) (λ q d. body_made w k right.1 q d f ns (suc (suc next)) its) q1) (whole-alike w k left.1 (omega arith) q1 c f ns (suc (suc next)) mine mine (alike-itself mine))
      ∙ ap (λ (m : Made). added (record { code = i.Fork n next (suc next) (q1 + length (whole-left q1).code) ∷ ((whole-left q1).code ++ m.code); decisions = (whole-left q1).decisions ++ m.decisions }) s)
      (whole-alike w k right.1 (omega arith) (q1 + length (whole-left q1).code) (c + length (whole-left q1).decisions) f ns (suc (suc next)) its its (alike-itself its))
      ∙ ap (fork whole-left whole-right) (sym (past-one s))
      ∙ ap (λ to. let m = whole-right to (c + length l2.decisions) in added (record { code = i.Fork n next (suc next) to ∷ (l2.code ++ m.code); decisions = l2.decisions ++ m.decisions }) s) (sym (length-append (s.emission.code ++ i.Nil ∷ []) l2.code))
      ∙ sym (patch-first (i.Fork n next (suc next) to2) (joined l2 r2) s)
      ∙ ap (patched (length s.emission.code) (i.Fork n next (suc next) to2)) (added-joined l2 r2 p)

-- Plugs

pub peels-are : (w : World) (links : List Link) (parts : Parts) (next : ℕ) (cs : Channels) (s : Making)
    → peels_built w links parts next cs s ≡ added (peels_made (whole w) links parts (length s.emission.code) s.emission.decisions s.emission.free s.emission.numbers next cs) s
unfolding built
peels-are w links b.no_parts next cs s = sym (added-none s)
peels-are w links (b.part_then h body b.no_parts) next cs s = refl
peels-are w links (b.part_then h body (b.part_then g c parts)) next cs s =
    let l = link_of links h (b.part_then g c parts) in
    let f = s.emission.free in
    let ns = s.emission.numbers in
    let d = s.emission.decisions in
    let p = pushed (i.Nil ∷ []) s in
    let rest : ℕ → Made = λ q. peels_made (whole w) (without_link l links) (b.part_then g c parts) q d f ns (suc next) (rest_held l h next cs) in
    let child : ℕ → ℕ → Made = λ q e. whole w body q e f ns (suc next) (child_held l h next cs) in
    let q1 = length s.emission.code + 1 in
    let q2 = length (s.emission.code ++ i.Nil ∷ []) in
    let r = rest q2 in
    let to = length ((s.emission.code ++ i.Nil ∷ []) ++ r.code) in
    let m = child to (d + length r.decisions) in
    let peeled : ℕ → Making = λ q.
    let there = q + length (rest q).code in
    let n = child there (d + length (rest q).decisions) in
    added (record { code = i.Peel next (side_in h l) there ∷ ((rest q).code ++ n.code); decisions = (rest q).decisions ++ n.decisions }) s in
    ap (child_built w (peeled_child l h body next cs s)) (peels-are w (without_link l links) (b.part_then g c parts) (suc next) (rest_held l h next cs) p)
    ∙ sym (ap (patched (length s.emission.code) (i.Peel next (side_in h l) to)) (added-joined r m p))
    ∙ patch-first (i.Peel next (side_in h l) to) (joined r m) s
    ∙ ap (λ there. let n = child there (d + length r.decisions) in added (record { code = i.Peel next (side_in h l) there ∷ (r.code ++ n.code); decisions = r.decisions ++ n.decisions }) s) (length-append (s.emission.code ++ i.Nil ∷ []) r.code)
    ∙ ap peeled (past-one s)

pub plug-so : (w : World) (at : Place) (next : ℕ) (cs : Channels) (s : Making) (links : List Link) (parts : Parts) → built w (b.Plug at links parts) next cs s ≡ peels_built w links (last_first links parts) next cs s
unfolding built
plug-so w at next cs s links parts =
    let k = parts_size parts in
    ap (λ m. added m s)
    (peels-alike w k (body_made w k) (whole w) (whole-alike w k) links (last_first links parts) (picked-fit k parts _ (all-fit k parts (omega arith))) (length s.emission.code) s.emission.decisions s.emission.free s.emission.numbers next cs cs (alike-itself cs))
    ∙ sym (peels-are w links (last_first links parts) next cs s)
