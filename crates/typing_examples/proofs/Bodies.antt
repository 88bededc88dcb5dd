-- A well formed command of each form that Typed and Plugs don't have, and a typed source.
use Rattle.std.proofs.Common.{◌≡◌, refl, subst, pos, arith, Bool, true, false, IsTrue, [], ◌∷◌, Some, None, if◌then◌else◌, codes}
use Rattle.campl_tree.specs.declared.place.Ident.{Ident}
use Rattle.campl_tree.specs.declared.process.Binder.TheVariants as binder
use Rattle.campl_tree.specs.declared.service.Side.{Side}
use Rattle.campl_tree.specs.declared.service.Side.TheVariants.{Input, Output}
use Rattle.campl_tree.specs.Plain.SeqType as s
use Rattle.campl_tree.specs.Plain.ChanType.{ChanType, Put, Tensor, Par, TopBot, Neg}
use Rattle.campl_tree.specs.Plain.Pattern as p
use Rattle.campl_tree.specs.Plain.Expr as e
use Rattle.campl_tree.specs.Plain.Process as b
use Rattle.campl_tree.specs.Plain.Decl as d
use Rattle.campl_tree.specs.Plain.Decl.{Program}
use Rattle.campl_types.specs.Names.{same_name}
use Rattle.campl_types.specs.World.{World, world_of}
use Rattle.campl_types.specs.Prelude.{prelude}
use Rattle.campl_types.specs.Held.{On, Held, nothing_held, with, HasNoVariables, is_closed}
use Rattle.campl_types.specs.Linear.{IsWellFormed, ProcessIsTyped, row_channels}
use Rattle.campl_types.specs.Typed.{IsTyped}
use Rattle.typing_examples.proofs.Sources.{place, ident, protocol, protocol_decl, line, silent_run}
use Rattle.typing_examples.proofs.Alone.{other-than, not-in-rest, newest, newest-behind, given-up}

abbrev x : Ident
x = ident 1 1 (codes "x")

abbrev y : Ident
y = ident 1 7 (codes "y")

abbrev z : Ident
z = ident 1 17 (codes "z")

abbrev one : Side → ChanType → Held
one side t = with (codes "x") (Some (On side t)) nothing_held

abbrev two : Side → ChanType → Side → ChanType → Held
two side t other u = with (codes "x") (Some (On side t)) (with (codes "y") (Some (On other u)) nothing_held)

abbrev number : ChanType
number = Put s.Int TopBot

abbrev halt : Ident → b.Body
halt c = b.Halt (place 9 9) (Some c)

-- halt
silent : IsWellFormed prelude [] nothing_held (b.Halt (place 1 1) None)
silent v i = refl

-- get _ on x
-- halt x
-- binds nothing
ignores : IsWellFormed prelude [] (one Input number) (b.Then (b.Get (place 1 1) (binder.Wildcard (place 1 5)) x) (halt x))
ignores = (_, _, _, _, refl, refl, (_, _, refl, refl, λ v i. rw (other-than (codes "x") [] v i) refl))

-- split x into y, z
-- close y
-- halt z
splits : IsWellFormed prelude [] (one Output (Par TopBot TopBot)) (b.Then (b.Split (place 1 1) x y z) (b.Then (b.Close (place 2 1) y) (halt z)))
splits = (_, _, _, _, refl, refl, (refl, refl, refl), (_, _, refl, refl, (_, _, refl, refl, λ v i. simp (other-than (codes "z") [] v i, newest, given-up))))

-- protocol Bit => S where
--     Zero :: TopBot => S
--     One :: Put(Int | TopBot) => S
abbrev bits : World
bits =
    world_of
    (protocol_decl 1 (ident 1 10 (codes "Bit")) [] (ident 1 17 (codes "S"))
    (line (ident 2 5 (codes "Zero")) TopBot (ident 2 23 (codes "S")) ∷ line (ident 3 5 (codes "One")) number (ident 3 33 (codes "S")) ∷ [])
    ∷ [])

-- get v on x
-- halt x
abbrev gets : Ident → b.Body → b.Body
gets c = b.Then (b.Get (place 8 9) (binder.Variable (place 8 13) (codes "v")) c)

-- hcase x of
--     One -> do
--         get v on x
--         halt x
--     Zero -> halt x
-- has its rows in another order than the protocol
chosen : IsWellFormed bits [] (one Input (protocol 5 1 (codes "Bit"))) (b.Hcase (place 1 1) x (b.hcase_row_then (ident 2 5 (codes "One")) (gets x (halt x)) (b.hcase_row_then (ident 5 5 (codes "Zero")) (halt x) b.no_hcase_rows)))
chosen = (
  _,
  _,
  _,
  refl,
  refl,
  (refl, refl),
  (
    _,
    refl,
    (_, _, _, _, refl, refl, (_, _, refl, refl, λ v i. rw (other-than (codes "x") [] v i) refl)),
    (_, refl, (_, _, refl, refl, λ v i. rw (other-than (codes "x") [] v i) refl), tt),
  ),
  refl,
)

-- race
--     x -> do
--         get v on x
--         close x
--         get v on y
--         halt y
--     y -> do
--         get v on y
--         close y
--         get v on x
--         halt x
abbrev in-turn : Ident → Ident → b.Body
in-turn c d = gets c (b.Then (b.Close (place 9 9) c) (gets d (halt d)))

raced : IsWellFormed prelude [] (two Input number Input number) (b.Race (place 1 1) (b.branch_then x (in-turn x y) (b.branch_then y (in-turn y x) b.no_branches)))
raced = (
  (omega arith, omega arith),
  refl,
  (
    refl,
    (_, _, _, _, refl, refl, (_, _, refl, refl, (_, _, _, _, refl, refl, (_, _, refl, refl, λ v i. simp (other-than (codes "y") [] v i, newest, given-up))))),
    (
      refl,
      (_, _, _, _, refl, refl, (_, _, refl, refl, (_, _, _, _, refl, refl, (_, _, refl, refl, λ v i. simp (other-than (codes "x") [] v i, newest, given-up))))),
      tt,
    ),
  ),
)

-- protocol Door => S where
--     Open :: TopBot => S
abbrev doors : World
doors =
    world_of
    (protocol_decl 1 (ident 1 10 (codes "Door")) [] (ident 1 18 (codes "S"))
    (line (ident 2 5 (codes "Open")) TopBot (ident 2 23 (codes "S")) ∷ [])
    ∷ [])

-- race
--     x -> hcase x of
--         Open -> do
--             close x
--             split y into y, z
--             close y
--             halt z
--     y -> do
--         split y into y, z
--         close y
--         close z
--         hcase x of
--             Open -> halt x
abbrev opens : b.Body → b.Body
opens body = b.Hcase (place 2 10) x (b.hcase_row_then (ident 3 9 (codes "Open")) body b.no_hcase_rows)

abbrev splits-y : b.Body → b.Body
splits-y rest = b.Then (b.Split (place 5 13) y y z) (b.Then (b.Close (place 6 13) y) rest)

abbrev door-first : b.Branches → b.Branches
door-first = b.branch_then x (opens (b.Then (b.Close (place 4 13) x) (splits-y (halt z))))

abbrev pair-first : b.Branches → b.Branches
pair-first = b.branch_then y (splits-y (b.Then (b.Close (place 11 9) z) (opens (halt x))))

raced-at-choices : IsWellFormed doors [] (two Input (protocol 1 9 (codes "Door")) Input (Tensor TopBot TopBot)) (b.Race (place 1 1) (door-first (pair-first b.no_branches)))
raced-at-choices = (
  (omega arith, omega arith),
  refl,
  (
    refl,
    (_, _, _, refl, refl, (refl, refl), (_, refl, (_, _, refl, refl, (_, _, _, _, refl, refl, (refl, refl, refl), (_, _, refl, refl, (_, _, refl, refl, λ v i. simp (other-than (codes "z") [] v i, newest, newest-behind, given-up))))), tt), refl),
    (
      refl,
      (_, _, _, _, refl, refl, (refl, refl, refl), (_, _, refl, refl, (_, _, refl, refl, (_, _, _, refl, refl, (refl, refl), (_, refl, (_, _, refl, refl, λ v i. simp (other-than (codes "x") [] v i, newest, newest-behind, given-up)), tt), refl)))),
      tt,
    ),
  ),
)

-- case n of
--     0 -> halt x
--     _ -> halt x
by-cases : IsWellFormed prelude ((codes "n", s.Int) ∷ []) (one Input TopBot) (b.Case (place 1 1) (e.Variable (place 1 6) (codes "n")) (b.case_row_then (p.Number (place 2 5) (pos 0)) (halt x) (b.case_row_then (p.Wildcard (place 3 5)) (halt x) b.no_case_rows)))
by-cases = (
  s.Int,
  (s.Int, refl, refl),
  (
    _,
    refl,
    refl,
    (_, _, refl, refl, λ v i. rw (other-than (codes "x") [] v i) refl),
    (_, refl, refl, (_, _, refl, refl, λ v i. rw (other-than (codes "x") [] v i) refl), tt),
  ),
  refl,
)

-- x |=| y
joined : IsWellFormed prelude [] (two Input number Output number) (b.Identity (place 1 1) (codes "x") false y)
joined = (_, _, _, _, refl, refl, refl, (refl, refl), λ v i. rw (other-than (codes "x") (codes "y" ∷ []) v i, other-than (codes "y") [] v (not-in-rest (codes "x") (codes "y" ∷ []) v i)) refl)

-- x |=| neg y
joined-by-neg : IsWellFormed prelude [] (two Input (Neg number) Input number) (b.Identity (place 1 1) (codes "x") true y)
joined-by-neg = (_, _, _, _, refl, refl, refl, (refl, refl), λ v i. rw (other-than (codes "x") (codes "y" ∷ []) v i, other-than (codes "y") [] v (not-in-rest (codes "x") (codes "y" ∷ []) v i)) refl)

-- A source:
--
--     proc ends :: Int | TopBot => where
--         n | x => -> halt x
--     proc run :: | => where
--         | => -> halt
abbrev pub ends : d.ProcessDecl
ends =
    record {
      place = place 1 1;
      name = ident 1 6 (codes "ends");
      parameters = s.Int ∷ [];
      inputs = TopBot ∷ [];
      outputs = [];
      row = record {
        place = place 2 5;
        variables = binder.Variable (place 2 5) (codes "n") ∷ [];
        inputs = ident 2 9 (codes "x") ∷ [];
        outputs = [];
        body = b.Halt (place 2 16) (Some (ident 2 21 (codes "x")));
      };
    }

abbrev source : Program
source = d.Process ends ∷ silent_run 3 ∷ []

-- ends(7 | y => )
called : IsWellFormed (world_of source) [] (with (codes "y") (Some (On Input TopBot)) nothing_held) (b.Call (place 1 1) (codes "ends") (e.expr_then (e.Number (place 1 6) (pos 7)) e.no_exprs) (y ∷ []) [])
called = (_, refl, (refl, tt), (_, refl, refl, tt), tt, refl, λ v i. rw (other-than (codes "y") [] v i) refl)

closed : HasNoVariables (row_channels ends)
closed v r t i = go (same_name (codes "x") v) i
  where
    go : (p : Bool) → (if p then Some (On Input TopBot) else None) ≡ Some (On r t) → IsTrue (is_closed t)
    go true j = let k : TopBot ≡ t = cc j in subst (λ t. IsTrue (is_closed t)) k refl
    go false j = absurd (cc j)

ends-is-typed : ProcessIsTyped (world_of source) ends
ends-is-typed = (refl, refl, refl, refl, closed, (_, _, refl, refl, λ v i. rw (other-than (codes "x") [] v i) refl))

typed : IsTyped source
typed = record { declared = refl; functions = (tt, (tt, tt)); processes = (ends-is-typed, ((refl, refl, refl, refl, (λ v r t i. absurd (cc i)), λ v i. refl), tt)) }
